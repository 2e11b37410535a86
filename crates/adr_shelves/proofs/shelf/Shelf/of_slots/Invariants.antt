use Rattle.std.proofs.Common.{◌≡◌, [], fold, take}
use Rattle.adr_shelves.specs.Shelf.{with_own_slot}
use Rattle.adr_shelves.proofs.shelf.Shelf.of_slots.Given as goal

-- the shelf has slots for the rows so far
abbrev pub invariant-loop-row : goal.invariant-loop-row
invariant-loop-row l = l.shelf ≡ fold with_own_slot [] (take l.row-index l.rows)
