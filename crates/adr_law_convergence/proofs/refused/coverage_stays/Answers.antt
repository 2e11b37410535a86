use Rattle.adr_law_convergence.proofs.CoveredEvents.{stays_covered}
use Rattle.adr_law_convergence.proofs.refused.coverage_stays.Goals as goal

pub returns : goal.returns
returns c = stays_covered
