use Rattle.std.proofs.Common.{◌≡◌, ◌-◌, ◌≤◌, length}
use Rattle.adr_table.specs.Table.{AreNumbered, HasRoom, IsKept, rows_in}
use Rattle.adr_table.proofs.Rooms.{HoldBefore}
use Rattle.adr_table.proofs.table.Table.reserve.Given as goal

-- there is room for the rows so far
abbrev pub invariant-loop-place : goal.invariant-loop-place
invariant-loop-place l =
    IsKept l.self
    × AreNumbered l.self
    × (rows_in l.self ≡ rows_in l.initial.self)
    × (l.place ≤ length l.rows)
    × HoldBefore (HasRoom l.self) l.rows l.place

abbrev pub decreases-loop-place : goal.decreases-loop-place
decreases-loop-place l = length l.rows - l.place
