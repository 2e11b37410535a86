use Rattle.adr_run_exercised.proofs.Exercises.{exercises_end_equal}
use Rattle.adr_run_exercised.proofs.exercises_end_equal.Goals as goal

pub returns : goal.returns
returns c = exercises_end_equal c.schedules_follow.ensures
