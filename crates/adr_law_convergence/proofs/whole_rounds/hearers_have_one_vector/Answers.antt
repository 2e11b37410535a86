use Rattle.adr_law_convergence.proofs.Vectors.{hearers_have_one_vector}
use Rattle.adr_law_convergence.proofs.whole_rounds.hearers_have_one_vector.Goals as goal

pub returns : goal.returns
returns c = hearers_have_one_vector
