use Rattle.std.proofs.Common.{drop}
use Rattle.adr_table.specs.Slots.{rows_seen}
use Rattle.adr_table.specs.Locals.{rows_of_seat}
use Rattle.adr_table.proofs.LocalsKept.{IsGreatest}
use Rattle.adr_table.proofs.Units.{rows_on}
use Rattle.adr_table.proofs.locals.last_local.Given as goal

-- the greatest so far and of what is left is the greatest of all
abbrev pub invariant-loop-slot : goal.invariant-loop-slot
invariant-loop-slot l = IsGreatest (rows_of_seat l.fn.unit (rows_seen l.slots)) l.last (rows_on (drop l.slot-index l.slot-items))
