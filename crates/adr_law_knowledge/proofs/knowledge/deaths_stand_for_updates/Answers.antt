use Rattle.adr_law_knowledge.proofs.Knows.{reflects_up, death_reflected, reflects_by_death}
use Rattle.adr_law_knowledge.proofs.knowledge.deaths_stand_for_updates.Goals as goal

pub returns-clause-superseded : goal.returns-clause-superseded
returns-clause-superseded c = λ issued k r u t s c. reflects_up issued k r u t s c

pub returns-clause-taken : goal.returns-clause-taken
returns-clause-taken c = λ issued k d o is t. death_reflected issued k d o is t

pub returns-clause-stands_for : goal.returns-clause-stands_for
returns-clause-stands_for c = λ issued k u o m b c. reflects_by_death issued k u o m b c
