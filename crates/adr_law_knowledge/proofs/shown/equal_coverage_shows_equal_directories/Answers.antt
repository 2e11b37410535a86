use Rattle.adr_law_knowledge.proofs.View.{equal_coverage, equal_vectors}
use Rattle.adr_law_knowledge.proofs.shown.equal_coverage_shows_equal_directories.Goals as goal

pub returns-clause-vectors : goal.returns-clause-vectors
returns-clause-vectors c = λ issued s t same. equal_vectors issued s t same

pub returns-clause-directories : goal.returns-clause-directories
returns-clause-directories c = λ issued s t one k l covered others same. equal_coverage issued s t one k l covered others same
