use Rattle.adr_law_convergence.proofs.Hearing.{rings_are_connected}
use Rattle.adr_law_convergence.proofs.whole_rounds.rings_are_connected.Goals as goal

pub returns : goal.returns
returns c = rings_are_connected
