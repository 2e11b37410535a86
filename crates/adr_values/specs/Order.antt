-- How stamps and names are ordered: field by field, the earlier field first.
use Rattle.std.specs.Prelude.{ℕ, List}
use Rattle.std.specs.Ordering.{nat_cmp, ordering_then}
use Rattle.std.specs.declared.cmp.Ordering.{Ordering}
use Rattle.std.specs.declared.cmp.Ordering.TheVariants.{Less, Greater}
use Rattle.std.specs.Cmp.Lexicographic.{slice_cmp}
use Rattle.adr_values.specs.declared.stamp.Birth.{Birth}
use Rattle.adr_values.specs.declared.stamp.Oid.{Oid}
use Rattle.adr_values.specs.declared.stamp.Stamp.{Stamp}
use Rattle.adr_values.specs.declared.stamp.LinkStamp.{LinkStamp}
use Rattle.adr_values.specs.declared.stamp.LinkKey.{LinkKey}
use Rattle.adr_values.specs.declared.stamp.Unit.{Unit as Named}
use Rattle.adr_values.specs.declared.stamp.Unit.TheVariants.{Object, Link}

-- identifiers by their bytes, the first byte first
abbrev pub identifier_order : List ℕ → List ℕ → Ordering
identifier_order = slice_cmp nat_cmp

abbrev pub birth_order : Birth → Birth → Ordering
birth_order a b = ordering_then (identifier_order a.inv b.inv) (nat_cmp a.usn b.usn)

abbrev pub object_order : Oid → Oid → Ordering
object_order a b = ordering_then (identifier_order a.guid b.guid) (birth_order a.birth b.birth)

-- stamps by version, then by time, then by identifier, then by USN
abbrev pub stamp_order : Stamp → Stamp → Ordering
stamp_order a b =
    ordering_then (nat_cmp a.version b.version)
    (ordering_then (nat_cmp a.time b.time)
    (ordering_then (identifier_order a.inv b.inv) (nat_cmp a.usn b.usn)))

-- link stamps by the moment of creation, then by stamp
abbrev pub link_stamp_order : LinkStamp → LinkStamp → Ordering
link_stamp_order a b = ordering_then (nat_cmp a.created b.created) (stamp_order a.stamp b.stamp)

abbrev pub link_order : LinkKey → LinkKey → Ordering
link_order a b =
    ordering_then (object_order a.from b.from) (ordering_then (nat_cmp a.attr b.attr) (object_order a.to b.to))

-- objects before link rows
abbrev pub unit_order : Named → Named → Ordering
unit_order (Object a) (Object b) = object_order a b
unit_order (Object a) (Link b) = Less
unit_order (Link a) (Object b) = Greater
unit_order (Link a) (Link b) = link_order a b
