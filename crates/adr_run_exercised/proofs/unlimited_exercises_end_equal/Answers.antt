use Rattle.adr_run_exercised.proofs.Exercises.{unlimited_exercises_end_equal}
use Rattle.adr_run_exercised.proofs.unlimited_exercises_end_equal.Goals as goal

pub returns : goal.returns
returns c = unlimited_exercises_end_equal c.schedules_follow.ensures
