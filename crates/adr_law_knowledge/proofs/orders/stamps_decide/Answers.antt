use Rattle.std.proofs.Common.{sym}
use Rattle.adr_law_knowledge.proofs.Comparing.{supersedes_self, supersedes_trans, supersedes_either, older_one_way, older_by_version}
use Rattle.adr_law_knowledge.proofs.Winners.{one_of_stamp}
use Rattle.adr_law_knowledge.proofs.orders.stamps_decide.Goals as goal

pub returns-clause-itself : goal.returns-clause-itself
returns-clause-itself c = λ u. supersedes_self u

pub returns-clause-onward : goal.returns-clause-onward
returns-clause-onward c = λ u v w p q. supersedes_trans u v w p q

pub returns-clause-either : goal.returns-clause-either
returns-clause-either c = λ u v e. supersedes_either u v e

pub returns-clause-next : goal.returns-clause-next
returns-clause-next c = λ u v same created less. let older = older_by_version u v created less in (record { key = sym same; stamp = older_one_way u v older }, older)

pub returns-clause-one : goal.returns-clause-one
returns-clause-one c = λ issued one u v m n p q. one_of_stamp issued u v one m n p.key p.stamp q.stamp
