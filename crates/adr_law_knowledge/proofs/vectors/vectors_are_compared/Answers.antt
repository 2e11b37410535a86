use Rattle.std.proofs.Common.{arith}
use Rattle.adr_values.proofs.Comparing.{everywhere_from_at_most, at_most_from_everywhere}
use Rattle.adr_law_knowledge.proofs.Knows.{covers_up}
use Rattle.adr_law_knowledge.proofs.View.{covered_where_tested, tested_where_covered}
use Rattle.adr_law_knowledge.proofs.vectors.vectors_are_compared.Goals as goal

pub returns-clause-itself : goal.returns-clause-itself
returns-clause-itself c = λ v i. omega arith

pub returns-clause-onward : goal.returns-clause-onward
returns-clause-onward c = λ v w x p q i. omega (arith, p i, q i)

pub returns-clause-covers : goal.returns-clause-covers
returns-clause-covers c = λ v w u p c. covers_up v w u p c

pub returns-clause-at_most : goal.returns-clause-at_most
returns-clause-at_most c = λ v w is. (λ e i. everywhere_from_at_most v w e i, λ e. at_most_from_everywhere v w is.rising e)

pub returns-clause-tested : goal.returns-clause-tested
returns-clause-tested c = λ v u. (λ e. covered_where_tested v u e, λ c. tested_where_covered v u c)
