use Rattle.adr_law_convergence.proofs.Completing.{cycle_ends}
use Rattle.adr_law_convergence.proofs.cycles.cycles_end.Goals as goal

pub returns : goal.returns
returns c = cycle_ends
