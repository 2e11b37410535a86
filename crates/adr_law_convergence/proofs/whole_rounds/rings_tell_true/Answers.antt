use Rattle.adr_law_convergence.proofs.Telling.{rings_tell_true}
use Rattle.adr_law_convergence.proofs.whole_rounds.rings_tell_true.Goals as goal

pub returns : goal.returns
returns c = rings_tell_true
