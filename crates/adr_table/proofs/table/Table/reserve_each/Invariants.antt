use Rattle.std.proofs.Common.{◌≡◌}
use Rattle.std.specs.Prelude.{IfSome}
use Rattle.adr_model.specs.Store.{Held}
use Rattle.adr_table.specs.Locals.{IsLocated}
use Rattle.adr_table.specs.Table.{AreNumbered, IsKept, HasRoom, rows_in}
use Rattle.adr_table.proofs.Rooms.{HoldBefore}
use Rattle.adr_table.proofs.table.Table.reserve_each.Given as goal

-- there is room for the rows so far, and the one before has its hint
abbrev pub invariant-loop-row : goal.invariant-loop-row
invariant-loop-row l =
    IsKept l.self
    × AreNumbered l.self
    × (rows_in l.self ≡ rows_in l.initial.self)
    × ((h : Held) → HasRoom l.initial.self h → HasRoom l.self h)
    × IfSome l.before (λ h. IsLocated l.self.locals h.now)
    × HoldBefore (HasRoom l.self) l.rows l.row-index
