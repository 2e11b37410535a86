use Rattle.std.proofs.Common.{length}
use Rattle.adr_update.specs.Referents.{referents}
use Rattle.adr_shelves.specs.Place.{is_in_run}
use Rattle.adr_table.specs.Slots.{rows_in_run, rows_seen}
use Rattle.adr_table.proofs.Reading.{AreRead}
use Rattle.adr_table.proofs.Spans.{Walk}
use Rattle.adr_table.proofs.slots.Slots.rows_in_run.Given as goal

-- the rows so far and those of the run that are left are all
abbrev pub invariant-loop-place : goal.invariant-loop-place
invariant-loop-place l = Walk (is_in_run l.start) (AreRead (rows_in_run l.start (rows_seen l.self)) (referents l.rows.items)) l.run

abbrev pub decreases-loop-place : goal.decreases-loop-place
decreases-loop-place l = length l.run
