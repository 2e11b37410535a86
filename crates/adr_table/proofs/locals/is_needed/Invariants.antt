use Rattle.std.proofs.Common.{drop}
use Rattle.adr_table.specs.Slots.{rows_seen}
use Rattle.adr_table.proofs.LocalsKept.{IsAny}
use Rattle.adr_table.proofs.Units.{rows_on}
use Rattle.adr_table.proofs.locals.is_needed.Given as goal

-- a row that has the hint is left, if there is one
abbrev pub invariant-loop-slot : goal.invariant-loop-slot
invariant-loop-slot l = IsAny l.hint (rows_seen l.slots) (rows_on (drop l.slot-index l.slot-items))
