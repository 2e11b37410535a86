use Rattle.std.proofs.Common.{◌≡◌, fold, length}
use Rattle.adr_model.specs.Change.{put}
use Rattle.adr_table.specs.Table.{AreNumbered, HaveRoom, IsKept, rows_in}
use Rattle.adr_table.proofs.table.Table.put_all.Given as goal

-- what is put so far and what is left give the whole, and there is room for what is left
abbrev pub invariant-loop-self : goal.invariant-loop-self
invariant-loop-self l =
    IsKept l.self
    × AreNumbered l.self
    × HaveRoom l.self l.rows.items
    × (fold put (rows_in l.self) l.rows.items ≡ fold put (rows_in l.initial.self) l.initial.rows.items)

abbrev pub decreases-loop-self : goal.decreases-loop-self
decreases-loop-self l = length l.rows.items
