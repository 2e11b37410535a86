use Rattle.std.specs.Prelude.{nat_le}
use Rattle.adr_shelves.proofs.ShelvedEmptied.{IsSoFar}
use Rattle.adr_shelves.proofs.shelf.Shelf.clear_from.Given as goal

-- the slots so far are emptied
abbrev pub invariant-loop-slot : goal.invariant-loop-slot
invariant-loop-slot l = IsSoFar (nat_le l.attr) l.initial.slot-items l.slot-index l.slot-items
