use Rattle.std.proofs.Common.{◌≡◌, length}
use Rattle.adr_shelves.specs.Place.{is_in_run}
use Rattle.adr_table.specs.Slots.{rows_in_run, rows_seen}
use Rattle.adr_table.proofs.Spans.{Walk}
use Rattle.adr_table.proofs.slots.Slots.has_row_in_run.Given as goal

-- the rows of the run that are left are all
abbrev pub invariant-loop-place : goal.invariant-loop-place
invariant-loop-place l = Walk (is_in_run l.start) (λ rows. rows ≡ rows_in_run l.start (rows_seen l.self)) l.run

abbrev pub decreases-loop-place : goal.decreases-loop-place
decreases-loop-place l = length l.run
