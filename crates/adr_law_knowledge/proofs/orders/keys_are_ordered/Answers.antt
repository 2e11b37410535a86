use Rattle.adr_model.proofs.Keys.{exact_keys, keys_total}
use Rattle.adr_law_knowledge.proofs.orders.keys_are_ordered.Goals as goal

pub returns-clause-total : goal.returns-clause-total
returns-clause-total c = keys_total

pub returns-clause-exact : goal.returns-clause-exact
returns-clause-exact c = exact_keys
