use Rattle.std.proofs.Common.{◌≡◌, drop}
use Rattle.adr_model.specs.Place.{row_at}
use Rattle.adr_model.specs.Store.{updates_of}
use Rattle.adr_update.specs.Key.{key_of}
use Rattle.adr_update.specs.Referents.{referents}
use Rattle.adr_state.proofs.live.row_at.Given as goal

-- the row is the first of those that are left
abbrev pub invariant-loop-row : goal.invariant-loop-row
invariant-loop-row l = row_at (updates_of (referents (drop l.row-index l.rows))) (key_of l.key) ≡ row_at (updates_of (referents l.rows)) (key_of l.key)
