-- What a controller's state is behind its calls: the fold of the changes of those that were answered.
use Rattle.std.specs.Prelude.{◌≡◌, ◌⊎◌, List, [], ◌∷◌, fold, Option, Some, None, Result, Ok, Err}
use Rattle.std.specs.Option.{option_map, option_map_or}
use Rattle.adr_model.specs.Store.{State}
use Rattle.adr_model.specs.Change.{after}
use Rattle.adr_law_journal.specs.Areas.{Started}
use Rattle.adr_law_journal.specs.Kept.{FindsState}
use Rattle.adr_journal.specs.declared.keeper.StartRefusal.{StartRefusal}
use Rattle.adr_journal.specs.declared.keeper.StartRefusal.TheVariants.{Damaged}
use Rattle.adr_controller.specs.declared.refusal.Hindrance.{Hindrance}
use Rattle.adr_controller.specs.declared.refusal.Hindrance.TheVariants.{DiskFault}
use Rattle.adr_law_controller.specs.Called.{Call, change_of_call}

-- what happens to a controller: a call that was answered (with a refusal too) or hindered, a stop, and a start that found a state or was refused
pub data Step : Type 0 where
  Calls : (call : Call) (how : Option Hindrance) → Step
  Stops : Step
  Starts : (how : Result State StartRefusal) → Step

-- the state of what is known to be there; and, behind a call that met a fault of the disk, the state that a start may find in its place
pub record Reached : Type 0 where
  pub state : State
  pub or_else : Option State

abbrev pub surely : State → Reached
surely s = record { state = s; or_else = None }

-- An answered call makes its change. One that met a fault of the disk may have made it, which the next start tells. All else changes nothing.
abbrev pub behind_step : Reached → Step → Reached
behind_step r (Calls call None) = surely (option_map_or (after r.state) (change_of_call call r.state) r.state)
behind_step r (Calls call (Some DiskFault)) = record { state = r.state; or_else = option_map (after r.state) (change_of_call call r.state) }
behind_step r (Calls call (Some hindrance)) = r
behind_step r Stops = r
behind_step r (Starts (Ok s)) = surely s
behind_step r (Starts (Err refusal)) = r

abbrev pub behind : Reached → List Step → Reached
behind r steps = fold behind_step r steps

-- the states that may be there, and what a start finds then
abbrev pub MayBe : Reached → State → Type 0
MayBe r s = (s ≡ r.state) ⊎ (r.or_else ≡ Some s)

abbrev pub MayFind : Reached → Started State → Type 0
MayFind r found = (s : State) × MayBe r s × FindsState s found

-- a start found one of the states that may be there, and no damage
abbrev pub IsTrueOf : Reached → Step → Type 0
IsTrueOf r (Starts (Ok s)) = MayBe r s
IsTrueOf r (Starts (Err (Damaged place))) = ⊥
IsTrueOf r step = Unit {0}

unfoldable pub AreTrueOf : Reached → List Step → Type 0
AreTrueOf r [] = Unit {0}
AreTrueOf r (step ∷ steps) = IsTrueOf r step × AreTrueOf (behind_step r step) steps
