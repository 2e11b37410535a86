use Rattle.std.proofs.Common.{◌≡◌, drop}
use Rattle.std.specs.List.{list_any}
use Rattle.adr_model.specs.Store.{updates_of}
use Rattle.adr_update.specs.Referents.{referents}
use Rattle.adr_state.specs.Alive.{beats}
use Rattle.adr_state.proofs.live.is_beaten.Given as goal

-- one that beats the object is among those that are left
abbrev pub invariant-loop-row : goal.invariant-loop-row
invariant-loop-row l =
    list_any (beats (updates_of (referents l.rows)) l.birth.stamp l.object) (updates_of (referents (drop l.row-index l.rows)))
    ≡ list_any (beats (updates_of (referents l.rows)) l.birth.stamp l.object) (updates_of (referents l.rows))
