use Rattle.std.proofs.Common.{length}
use Rattle.adr_shelves.proofs.ShelvedFilled.{IsFilling}
use Rattle.adr_shelves.proofs.shelf.Shelf.fill.Given as goal

abbrev pub invariant-loop-row : goal.invariant-loop-row
invariant-loop-row l = IsFilling l.object l.initial.self l.initial.rows.items l.self l.rows.items l.came

abbrev pub decreases-loop-row : goal.decreases-loop-row
decreases-loop-row l = length l.rows.items
