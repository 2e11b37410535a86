use Rattle.std.proofs.Common.{◌≡◌, drop}
use Rattle.std.specs.BTreeMap.{is_at}
use Rattle.std.specs.Map.{lookup}
use Rattle.std.specs.Ordering.{nat_cmp}
use Rattle.adr_shelves.proofs.shelf.Shelf.slot.Given as goal

-- what is found among the slots that are left is what is found among all
abbrev pub invariant-loop-slot : goal.invariant-loop-slot
invariant-loop-slot l = lookup (is_at (nat_cmp l.attr)) l.self ≡ lookup (is_at (nat_cmp l.attr)) (drop l.slot-index l.slot-items)
