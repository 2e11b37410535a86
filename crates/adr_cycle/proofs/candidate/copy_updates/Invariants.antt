use Rattle.std.proofs.Common.{◌≡◌, take}
use Rattle.adr_model.specs.Store.{updates_of}
use Rattle.adr_update.specs.Referents.{referents}
use Rattle.adr_cycle.proofs.candidate.copy_updates.Given as goal

-- the updates are those of the rows so far
abbrev pub invariant-loop-row : goal.invariant-loop-row
invariant-loop-row l = l.updates.items ≡ updates_of (referents (take l.row-index l.rows))
