use Rattle.adr_law_recorded.proofs.Asked.{asked_in_range}
use Rattle.adr_law_recorded.proofs.sent.requests_are_in_range.Goals as goal

pub returns : goal.returns
returns c = asked_in_range
