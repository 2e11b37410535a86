use Rattle.adr_records.specs.BodyLaws.{logged_after}
use Rattle.adr_law_recorded.proofs.begun.recorded_changes_leave_logged_states.Goals as goal

pub returns : goal.returns
returns c = logged_after
