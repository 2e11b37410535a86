use Rattle.adr_wire.proofs.CompositeLaws.{mark_spelled, ordered_mark_spelled, oid_spelled, stamp_spelled, value_spelled, content_spelled, row_spelled, object_spelled, link_spelled}
use Rattle.adr_wire.proofs.TimedLaws.{timed_spelled}
use Rattle.adr_wire.proofs.VectorLaws.{vector_spelled}
use Rattle.adr_wire.proofs.laws.composites_have_one_spelling.Goals as goal

pub returns-clause-mark : goal.returns-clause-mark
returns-clause-mark c = mark_spelled

pub returns-clause-ordered_mark : goal.returns-clause-ordered_mark
returns-clause-ordered_mark c = ordered_mark_spelled

pub returns-clause-oid : goal.returns-clause-oid
returns-clause-oid c = oid_spelled

pub returns-clause-stamp : goal.returns-clause-stamp
returns-clause-stamp c = stamp_spelled

pub returns-clause-value : goal.returns-clause-value
returns-clause-value c = value_spelled

pub returns-clause-content : goal.returns-clause-content
returns-clause-content c = content_spelled

pub returns-clause-row : goal.returns-clause-row
returns-clause-row c = row_spelled

pub returns-clause-object : goal.returns-clause-object
returns-clause-object c = object_spelled

pub returns-clause-link : goal.returns-clause-link
returns-clause-link c = link_spelled

pub returns-clause-vector : goal.returns-clause-vector
returns-clause-vector c = vector_spelled

pub returns-clause-timed : goal.returns-clause-timed
returns-clause-timed c version = timed_spelled version
