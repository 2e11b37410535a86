use Rattle.adr_law_knowledge.proofs.Knows.{carry_over}
use Rattle.adr_law_knowledge.proofs.knowledge.carried_knowledge_carries_over.Goals as goal

pub returns : goal.returns
returns c = λ issued from to up rows old u c t. carry_over issued from to up rows old u c t
