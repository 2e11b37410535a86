use Rattle.adr_run_replay.proofs.Generated.{generated_so}
use Rattle.adr_run_replay.proofs.laws.generated_runs_are_so.Goals as goal

pub returns : goal.returns
returns c = generated_so c.schedules_follow.ensures
