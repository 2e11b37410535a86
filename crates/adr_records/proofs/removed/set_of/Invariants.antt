use Rattle.std.proofs.Common.{◌≡◌, [], fold, drop}
use Rattle.std.specs.BTreeSet.{insert_key}
use Rattle.adr_values.specs.Order.{object_order}
use Rattle.adr_records.proofs.removed.set_of.Given as goal

-- with the objects that are left it is the set of all
abbrev pub invariant-loop-object : goal.invariant-loop-object
invariant-loop-object l = fold (insert_key object_order) l.set.keys (drop l.object-index l.objects) ≡ fold (insert_key object_order) [] l.objects
