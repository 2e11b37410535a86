use Rattle.std.proofs.Common.{◌≡◌, drop}
use Rattle.adr_table.specs.Slots.{rows_seen}
use Rattle.adr_table.specs.Locals.{rows_of_seat}
use Rattle.adr_table.proofs.Units.{rows_on}
use Rattle.adr_table.proofs.slots.Slots.has_unit.Given as goal

-- the rows in the slots that are left are all
abbrev pub invariant-loop-slot : goal.invariant-loop-slot
invariant-loop-slot l = rows_on (drop l.slot-index l.slot-items) ≡ rows_of_seat l.seat (rows_seen l.self)
