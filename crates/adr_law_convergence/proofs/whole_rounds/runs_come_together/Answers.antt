use Rattle.adr_law_convergence.proofs.Together.{runs_come_together}
use Rattle.adr_law_convergence.proofs.whole_rounds.runs_come_together.Goals as goal

pub returns : goal.returns
returns c = runs_come_together
