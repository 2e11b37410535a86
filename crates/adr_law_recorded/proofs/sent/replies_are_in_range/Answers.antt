use Rattle.adr_law_recorded.proofs.Served.{served_in_range}
use Rattle.adr_law_recorded.proofs.sent.replies_are_in_range.Goals as goal

pub returns : goal.returns
returns c = served_in_range
