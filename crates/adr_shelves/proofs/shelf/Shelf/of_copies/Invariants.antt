use Rattle.std.proofs.Common.{◌≡◌, [], fold, take}
use Rattle.adr_shelves.specs.Shelf.{with_own}
use Rattle.adr_shelves.proofs.shelf.Shelf.of_copies.Given as goal

-- the shelf has the rows so far
abbrev pub invariant-loop-row : goal.invariant-loop-row
invariant-loop-row l = l.shelf ≡ fold (with_own l.local) [] (take l.row-index l.rows)
