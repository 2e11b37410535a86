use Rattle.std.specs.Prelude.{IfSome}
use Rattle.adr_model.specs.Store.{Held}
use Rattle.adr_table.specs.Locals.{IsLocated, IsNamed}
use Rattle.adr_table.proofs.Rooms.{HoldBefore}
use Rattle.adr_table.proofs.locals.remember_all.Given as goal

-- the rows so far have their hints, and the last number has its own
abbrev pub invariant-loop-row : goal.invariant-loop-row
invariant-loop-row l =
    ((h : Held) → IsLocated l.initial.locals h → IsLocated l.locals h)
    × IfSome l.last (IsNamed l.locals l.object)
    × HoldBefore (IsLocated l.locals) l.rows l.row-index
