use Rattle.adr_law_recorded.proofs.Collected.{quarantine_is_recorded}
use Rattle.adr_law_recorded.proofs.called.quarantines_are_recorded.Goals as goal

pub returns : goal.returns
returns c = quarantine_is_recorded
