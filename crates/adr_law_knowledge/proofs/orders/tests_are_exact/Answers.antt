use Rattle.adr_law_knowledge.proofs.Comparing.{keys_tell, same_where_equal, supersedes_where_at_least, at_least_where_supersedes}
use Rattle.adr_law_knowledge.proofs.orders.tests_are_exact.Goals as goal

pub returns-clause-key : goal.returns-clause-key
returns-clause-key c = λ k l. (λ e. keys_tell k l e, λ e. same_where_equal k l e)

pub returns-clause-supersedes : goal.returns-clause-supersedes
returns-clause-supersedes c = λ u v. (λ e. supersedes_where_at_least u v e, λ s. at_least_where_supersedes u v s)
