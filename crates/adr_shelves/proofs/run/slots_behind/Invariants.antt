use Rattle.std.proofs.Common.{drop}
use Rattle.adr_shelves.proofs.ShelvedRuns.{Left}
use Rattle.adr_shelves.proofs.run.slots_behind.Given as goal

abbrev pub invariant-loop-place : goal.invariant-loop-place
invariant-loop-place l = Left l.with_own l.attr l.slots (drop l.place l.slots)
