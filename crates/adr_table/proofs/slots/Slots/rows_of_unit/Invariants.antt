use Rattle.std.proofs.Common.{drop}
use Rattle.adr_update.specs.Referents.{referents}
use Rattle.adr_table.specs.Slots.{rows_seen}
use Rattle.adr_table.specs.Locals.{rows_of_seat}
use Rattle.adr_table.proofs.Reading.{AreRead}
use Rattle.adr_table.proofs.Units.{rows_on}
use Rattle.adr_table.proofs.slots.Slots.rows_of_unit.Given as goal

-- the rows so far and those in the slots that are left are all
abbrev pub invariant-loop-slot : goal.invariant-loop-slot
invariant-loop-slot l = AreRead (rows_of_seat l.seat (rows_seen l.self)) (referents l.rows.items) (rows_on (drop l.slot-index l.slot-items))
