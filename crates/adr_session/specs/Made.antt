-- What one call of a controller comes to, where a node stands.
use Rattle.std.specs.Prelude.{◌≡◌, ◌⊎◌, ◌<◌, ◌≤◌, ⊤, ℕ, List, Option, Some, None, IfOk, IfSome, IsErrOf, IsSome, Result, Ok, Err}
use Rattle.adr_disk.specs.Disk.{Among, LeavesOnly}
use Rattle.adr_model.specs.Change.{Change}
use Rattle.adr_model.specs.Store.{State}
use Rattle.adr_law_journal.specs.Areas.{Found}
use Rattle.adr_law_journal.specs.Kept.{FindsEither}
use Rattle.adr_journal.specs.declared.keeper.Keeper.{Ghosts}
use Rattle.adr_controller.specs.Running.{Running}
use Rattle.adr_controller.specs.declared.refusal.Hindrance.{Hindrance}
use Rattle.adr_controller.specs.declared.refusal.Hindrance.TheVariants.{Down, Failed, Full, DiskFault}
use Rattle.adr_session.specs.declared.ending.ServeFault.{ServeFault}
use Rattle.adr_session.specs.declared.ending.ServeFault.TheVariants as faults
use Rattle.adr_session.specs.Talk.{Answered, Said, committed, reacts}
use Rattle.adr_law_controller.specs.Keeping.{Stands}
use Rattle.adr_session.specs.Told.{FindsOneOf, ReactsSo}

-- ---- one call

-- where the change leads that a call makes, if it makes one: this is told of it, or of a full log
abbrev pub led : Found State → Option Change → List ℕ → List ℕ → Answered
led f None told full = (f, told)
led f (Some c) told full = committed f c told full

-- the controller has no state in memory, at the call or behind it
abbrev pub HasNoState : Option Hindrance → Type 0
HasNoState (Some DiskFault) = ⊤
HasNoState (Some Down) = ⊤
HasNoState (Some Failed) = ⊤
HasNoState how = ⊥

-- what is told of a call that ended so; nothing is where memory was wanting for that, or there is no state
abbrev pub Tells : {V : Type 0} → (V → List ℕ) → List ℕ → List ℕ → Option Hindrance → Result V ServeFault → Type 0
Tells items told full None (Ok v) = items v ≡ told
Tells items told full (Some Full) (Ok v) = items v ≡ full
Tells items told full how (Ok v) = ⊥
Tells items told full how (Err faults.NoMemory) = ¬ (how ≡ Some DiskFault)
Tells items told full how (Err faults.Disk) = HasNoState how
Tells items told full how (Err faults.Clock) = ⊥

-- a call answered so, or couldn't: its disk failed, or memory was wanting, before its change or behind it
abbrev pub MadeSo :
    {K V : Type 0} → (V → List ℕ) → Ghosts K → Found State → Answered → Result V ServeFault → Running K → Type 0
MadeSo items k f a (Ok v) c = (items v ≡ a.1) × Stands k a.0 c
MadeSo items k f a (Err faults.Disk) c = c.state ≡ None
MadeSo items k f a (Err faults.Clock) c = ⊥
MadeSo items k f a (Err faults.NoMemory) c = Stands k f c ⊎ Stands k a.0 c

-- A call of a controller that is up comes to what is answered where it stands, and to what a start finds then.
pub record Makes {K V : Type 0} (items : V → List ℕ) (k : Ghosts K) (answers : Found State → Answered) (old new : Running K)
    (result : Result V ServeFault) : Type 0 where
  pub up : IfOk result (λ _. IsSome new.state)
  pub made : (f : Found State) → Stands k f old → MadeSo items k f (answers f) result new
  pub any_moment :
      (f : Found State) → Stands k f old
      → IfSome (k.told old.keeper) (λ _.
      LeavesOnly k.moment k.left_since old.keeper new.keeper (FindsEither f.state (answers f).0.state))
  pub left :
      (f : Found State) → Stands k f old
      → IfSome (k.told old.keeper) (λ _. Among (FindsEither f.state (answers f).0.state) (k.may_leave new.keeper))
  pub told : IsSome (k.told old.keeper) → IsSome (k.told new.keeper)
  pub disk : IsErrOf result faults.Disk → k.faults old.keeper < k.faults new.keeper
  pub disk_never_falls : k.faults old.keeper ≤ k.faults new.keeper

-- ---- one frame

-- What a frame comes to that says so, and what a start finds then.
pub record Reacts {K V : Type 0} (items : V → List ℕ) (k : Ghosts K) (said : Option Said) (old new : Running K)
    (result : Result (Option V) ServeFault) (before after : Option (List ℕ)) : Type 0 where
  pub up : IfOk result (λ _. IsSome new.state)
  pub answer :
      (f : Found State) (moments : List ℕ) → Stands k f old → before ≡ Some moments
      → ReactsSo items k f moments (reacts f moments said) result new after
  pub any_moment :
      (f : Found State) (moments : List ℕ) → Stands k f old → before ≡ Some moments
      → IfSome (k.told old.keeper) (λ _.
      LeavesOnly k.moment k.left_since old.keeper new.keeper (FindsOneOf f (reacts f moments said)))
  pub left :
      (f : Found State) (moments : List ℕ) → Stands k f old → before ≡ Some moments
      → IfSome (k.told old.keeper) (λ _. Among (FindsOneOf f (reacts f moments said)) (k.may_leave new.keeper))
  pub told : IsSome (k.told old.keeper) → IsSome (k.told new.keeper)
  pub disk : IsErrOf result faults.Disk → k.faults old.keeper < k.faults new.keeper
  pub disk_never_falls : k.faults old.keeper ≤ k.faults new.keeper
