use Rattle.adr_run_exercise.specs.Generated.{schedule}
use Rattle.adr_run_exercise.proofs.Followed.{schedules_follow}
use Rattle.adr_run_exercise.proofs.laws.schedules_are_read.Goals as goal

pub returns : goal.returns
returns c = λ n few. c.events_are_read_again.ensures.printed (schedule n) (schedules_follow n few)
