use Rattle.adr_law_convergence.proofs.Hearing.{rounds_reach}
use Rattle.adr_law_convergence.proofs.whole_rounds.rounds_reach.Goals as goal

pub returns : goal.returns
returns c = rounds_reach
