use Rattle.adr_law_journal.proofs.NineCalls.{two_runs}
use Rattle.adr_law_journal.proofs.plans.two_runs_of_calls_are_one.Goals as goal

pub returns : goal.returns
returns c = two_runs
