use Rattle.adr_law_calls.proofs.Still.{quarantine_follows}
use Rattle.adr_law_calls.proofs.called.quarantines_follow.Goals as goal

pub returns : goal.returns
returns c = quarantine_follows
