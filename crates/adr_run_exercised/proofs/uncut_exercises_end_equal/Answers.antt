use Rattle.adr_run_exercised.proofs.Exercises.{uncut_exercises_end_equal}
use Rattle.adr_run_exercised.proofs.uncut_exercises_end_equal.Goals as goal

pub returns : goal.returns
returns c = uncut_exercises_end_equal c.schedules_follow.ensures
