use Rattle.adr_law_frames.proofs.Fitting.{served_fit}
use Rattle.adr_law_frames.proofs.laws.served_replies_fit.Goals as goal

pub returns : goal.returns
returns c = served_fit
