-- No controller is quarantined.
use Rattle.std.specs.Prelude.{◌≡◌, true}
use Rattle.adr_call.specs.declared.event.Event.{Event}
use Rattle.adr_model.specs.Member.{Each}
use Rattle.adr_model.specs.Store.{Normal}
use Rattle.adr_model.specs.World.{World}
use Rattle.adr_model.specs.Convergence.{IsOnTheWay}

-- neither what a crash would leave of a controller nor what a start would find
abbrev pub AreNormal : World → Type 0
AreNormal w = Each (λ r. (r.safe.mode ≡ Normal) × (r.read.mode ≡ Normal)) w.replicas

-- nor in any clean world on the way of a line
abbrev pub LeavesAllNormal : World → Event → Type 0
LeavesAllNormal w e = (v : World) → IsOnTheWay w e v → v.clean ≡ true → AreNormal v
