use Rattle.adr_run_exercised.proofs.Ends.{last_rounds_make_equal}
use Rattle.adr_run_exercised.proofs.last_rounds_make_equal.Goals as goal

pub returns : goal.returns
returns c = last_rounds_make_equal c.schedules_follow.ensures
