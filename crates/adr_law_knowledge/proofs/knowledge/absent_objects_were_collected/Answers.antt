use Rattle.adr_law_knowledge.proofs.Knows.{absent_is_purged, covered_absent}
use Rattle.adr_law_knowledge.proofs.knowledge.absent_objects_were_collected.Goals as goal

pub returns-clause-taken : goal.returns-clause-taken
returns-clause-taken c = λ issued k u o attr is t lacks. absent_is_purged issued k u o attr is t lacks

pub returns-clause-covered : goal.returns-clause-covered
returns-clause-covered c = λ issued k b o taken m is own c lacks. covered_absent issued k b o taken m is own c lacks
