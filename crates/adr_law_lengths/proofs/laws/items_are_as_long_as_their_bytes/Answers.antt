use Rattle.adr_law_lengths.proofs.Lengths.{value_long, content_long, object_long, link_long, vector_long, timed_long}
use Rattle.adr_law_lengths.proofs.laws.items_are_as_long_as_their_bytes.Goals as goal

pub returns-clause-values : goal.returns-clause-values
returns-clause-values c = λ v is. value_long v is

pub returns-clause-contents : goal.returns-clause-contents
returns-clause-contents c = λ attr content is. content_long attr content is

pub returns-clause-objects : goal.returns-clause-objects
returns-clause-objects c = λ x is. object_long x is

pub returns-clause-links : goal.returns-clause-links
returns-clause-links c = λ l is. link_long l is

pub returns-clause-vectors : goal.returns-clause-vectors
returns-clause-vectors c = λ v is. vector_long v is

pub returns-clause-timed : goal.returns-clause-timed
returns-clause-timed c = λ t is. timed_long t is
