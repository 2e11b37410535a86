use Rattle.adr_law_knowledge.proofs.Knows.{grows_keeps, grows_self, grows_trans, more_issued}
use Rattle.adr_law_knowledge.proofs.knowledge.growth_keeps_what_was_taken.Goals as goal

pub returns-clause-keeps : goal.returns-clause-keeps
returns-clause-keeps c = λ issued before after g. grows_keeps issued before after g

pub returns-clause-itself : goal.returns-clause-itself
returns-clause-itself c = λ issued k. grows_self issued k

pub returns-clause-onward : goal.returns-clause-onward
returns-clause-onward c = λ issued a b c g h. grows_trans issued a b c g h

pub returns-clause-issued : goal.returns-clause-issued
returns-clause-issued c = λ issued more k u up t. more_issued issued more k u up t
