use Rattle.adr_law_recorded.proofs.Taken.{taken_recorded}
use Rattle.adr_law_recorded.proofs.called.taken_replies_are_recorded.Goals as goal

pub returns : goal.returns
returns c = taken_recorded
