-- The fold, worked out on a call that was answered, one that met a fault of the disk, and a start.
use Rattle.std.specs.Prelude.{◌≡◌, ◌⊎◌, [], ◌∷◌, Some, None, Ok}
use Rattle.adr_model.specs.Store.{State}
use Rattle.adr_model.specs.Change.{Change, after}
use Rattle.adr_controller.specs.declared.refusal.Hindrance.TheVariants.{DiskFault, Full}
use Rattle.adr_law_controller.specs.Called.{Call, change_of_call}
use Rattle.adr_law_controller.specs.Behind.{Calls, Stops, Starts, surely, behind, AreTrueOf}

pub record Worked (s t : State) (one two : Call) (c d : Change) : Type 0 where
  pub answered : behind (surely s) (Calls one None ∷ []) ≡ surely (after s c)
  -- a call that found its log full changes nothing
  pub full : behind (surely s) (Calls one None ∷ Calls two (Some Full) ∷ []) ≡ surely (after s c)
  -- behind a fault the change is there or not
  pub fault : behind (surely s) (Calls one None ∷ Calls two (Some DiskFault) ∷ []) ≡ record { state = after s c; or_else = Some (after (after s c) d) }
  -- and a start tells which
  pub start : behind (surely s) (Calls one None ∷ Calls two (Some DiskFault) ∷ Starts (Ok t) ∷ []) ≡ surely t
  pub either :
      AreTrueOf (surely s) (Calls one None ∷ Calls two (Some DiskFault) ∷ Stops ∷ Starts (Ok t) ∷ [])
      → (t ≡ after s c) ⊎ (t ≡ after (after s c) d)

-- both calls make a change, each of the state that it comes to
abbrev pub IsWorked : Type 0
IsWorked =
    (s t : State) (one two : Call) (c d : Change) → change_of_call one s ≡ Some c → change_of_call two (after s c) ≡ Some d
    → Worked s t one two c d
