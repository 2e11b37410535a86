use Rattle.std.proofs.Common.{◌≡◌, ◌++◌, length}
use Rattle.adr_shelves.specs.Shelves.{entries_of, shelf_entries}
use Rattle.adr_shelves.proofs.run.Run.next.Given as goal

abbrev pub invariant-loop-self : goal.invariant-loop-self
invariant-loop-self l = shelf_entries l.self-inside.seat l.self-inside.slots.now ++ entries_of l.self-inside.shelves ≡ l.fn.self

abbrev pub decreases-loop-self : goal.decreases-loop-self
decreases-loop-self l = length l.self-inside.shelves
