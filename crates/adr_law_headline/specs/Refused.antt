-- Refusals that don't come, line by line.
use Rattle.std.specs.Prelude.{◌≡◌, true}
use Rattle.adr_call.specs.declared.event.Event.{Event}
use Rattle.adr_model.specs.World.{World}
use Rattle.adr_model.specs.Step.{step}
use Rattle.adr_model.specs.Convergence.{IsOnTheWay, NoneRefused, IsPurgedCovered, KeepsCovered}

-- no answer to the line is that a controller is quarantined or was put back, or that an item is broken or incomplete
abbrev pub FindsNoDamage : World → Event → Type 0
FindsNoDamage w e = NoneRefused 23 (step w e).1 × NoneRefused 33 (step w e).1 × NoneRefused 43 (step w e).1 × NoneRefused 44 (step w e).1

-- while everyone covers what was collected, no answer to the line is that someone is too old
abbrev pub FindsNobodyTooOld : World → Event → Type 0
FindsNobodyTooOld w e = IsPurgedCovered w → NoneRefused 32 (step w e).1

-- and everyone still does in each clean world on the way of a line that keeps it so: what it collects all cover, and a new
-- controller comes while nothing was collected
abbrev pub LeavesAllCovered : World → Event → Type 0
LeavesAllCovered w e = IsPurgedCovered w → KeepsCovered w e → (v : World) → IsOnTheWay w e v → v.clean ≡ true → IsPurgedCovered v
