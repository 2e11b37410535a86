use Rattle.adr_law_frames.proofs.Fitting.{offered_short}
use Rattle.adr_law_frames.proofs.laws.offered_items_are_short.Goals as goal

pub returns : goal.returns
returns c = offered_short
