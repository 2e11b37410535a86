use Rattle.adr_law_convergence.proofs.Rounds.{rounds_converge}
use Rattle.adr_law_convergence.proofs.whole_rounds.rounds_converge.Goals as goal

pub returns : goal.returns
returns c = rounds_converge
