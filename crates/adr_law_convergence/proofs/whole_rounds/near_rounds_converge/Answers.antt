use Rattle.adr_law_convergence.proofs.Rounds.{near_rounds_converge}
use Rattle.adr_law_convergence.proofs.whole_rounds.near_rounds_converge.Goals as goal

pub returns : goal.returns
returns c = near_rounds_converge
