use Rattle.std.proofs.Common.{take}
use Rattle.std.specs.Ordering.{nat_cmp}
use Rattle.adr_shelves.proofs.ShelfPlaces.{IsAbove}
use Rattle.adr_shelves.proofs.shelf.place_of.Given as goal

-- the attribute is above those of the slots so far
abbrev pub invariant-loop-place : goal.invariant-loop-place
invariant-loop-place l = IsAbove nat_cmp l.attr (take l.place l.slots)
