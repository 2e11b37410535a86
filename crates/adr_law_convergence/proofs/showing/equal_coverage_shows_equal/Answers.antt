use Rattle.adr_law_convergence.proofs.Controllers.{equal_coverage_shows}
use Rattle.adr_law_convergence.proofs.showing.equal_coverage_shows_equal.Goals as goal

pub returns : goal.returns
returns c = equal_coverage_shows
