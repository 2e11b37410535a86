-- What committing a change does to a controller.
use Rattle.std.specs.Prelude.{◌≡◌, ◌⊎◌, ◌↔◌, ◌<◌, ◌≤◌, ◌+◌, ℕ, max, if◌then◌else◌, true, false, Option, Some, None, IfSome, IsSome}
use Rattle.adr_disk.specs.Disk.{Among, Keeps, LeavesOnly}
use Rattle.adr_model.specs.Store.{State}
use Rattle.adr_model.specs.Change.{Change, after}
use Rattle.adr_model.specs.Lengths.{Log, change_fits, change_length, image_length, is_due, next_log}
use Rattle.adr_law_journal.specs.Areas.{Found, found}
use Rattle.adr_law_journal.specs.Kept.{FindsState, FindsEither}
use Rattle.adr_journal.specs.declared.keeper.Keeper.{Ghosts}
use Rattle.adr_journal.specs.declared.keeper.KeeperRefusal.TheVariants as keeps
use Rattle.adr_controller.specs.Running.{Running, IsInOrder}
use Rattle.adr_controller.specs.declared.refusal.Hindrance.{Hindrance}
use Rattle.adr_controller.specs.declared.refusal.Hindrance.TheVariants.{Down, Failed, Full, DiskFault, NoMemory}

-- ---- what the keeper was asked for

-- nothing has changed of what a start finds, now and after a crash
abbrev pub KeepsAll : {K : Type 0} → Ghosts K → K → K → Type 0
KeepsAll k old new = Keeps k.told k.may_leave k.moment k.left_since old new

-- it stands for what it stood for, and has failed if it had
pub record StandsAsBefore {K : Type 0} (k : Ghosts K) (old new : K) : Type 0 where
  pub at : (f : Found State) → k.is_at old f → k.is_at new f
  pub failed : k.is_failed new ≡ k.is_failed old

-- it was made ready for a change of this state, and stands for what it stood for
pub record MadeReady {K : Type 0} (k : Ghosts K) (old : K) (s : State) (c : Change) (ready : K) : Type 0 where
  pub prepared : k.prepares old None ready
  pub is_prepared : k.is_prepared ready s c
  pub running : k.is_failed ready ≡ false
  pub at : (f : Found State) → k.is_at old f → k.is_at ready f

-- it was made ready, and then committed; as far as that came
abbrev pub Ran : {K : Type 0} → Ghosts K → K → State → Change → Option Hindrance → K → Type 0
Ran {K} k old s c None new = (ready : K) × MadeReady k old s c ready × k.commits ready c None new
Ran {K} k old s c (Some DiskFault) new =
    k.prepares old (Some keeps.DiskFault) new
    ⊎ ((ready : K) × MadeReady k old s c ready × k.commits ready c (Some keeps.DiskFault) new)
Ran k old s c (Some NoMemory) new =
    (new ≡ old) ⊎ (k.prepares old (Some keeps.NoMemory) new ⊎ k.prepares old None new)
Ran k old s c (Some Full) new = new ≡ old
Ran k old s c (Some Failed) new = new ≡ old
Ran k old s c (Some Down) new = new ≡ old

-- its disk has become no longer than such images and records make it
abbrev pub IsBoundedBy : {K : Type 0} → Ghosts K → K → ℕ → ℕ → ℕ → Type 0
IsBoundedBy k keeper file image longest =
    (i : ℕ) × (n : ℕ) × (i ≤ image) × (n ≤ longest) × k.is_within keeper file i n

-- ---- a commit

-- A change of a controller's state is committed, or hindered: what each leaves.
pub record Commits {K : Type 0} (k : Ghosts K) (s : State) (c : Change) (old new : Running K) (how : Option Hindrance)
    : Type 0 where
  pub done : how ≡ None → new.state ≡ Some (after s c)
  pub stands :
      how ≡ None → (log : Log) → k.is_at old.keeper (found s log)
      → k.is_at new.keeper (found (after s c) (next_log log s.store c))
  pub full : how ≡ Some Full → new ≡ old
  pub no_memory : how ≡ Some NoMemory → (new.state ≡ old.state) × KeepsAll k old.keeper new.keeper
  pub still_there : how ≡ Some NoMemory → StandsAsBefore k old.keeper new.keeper
  pub fault : how ≡ Some DiskFault → (new.state ≡ None) × (k.faults old.keeper < k.faults new.keeper)
  pub still_up : new.down ≡ false
  -- no count of faults falls, and a keeper that tells goes on telling
  pub later : k.faults old.keeper ≤ k.faults new.keeper
  pub still_told : IsSome (k.told new.keeper) ↔ IsSome (k.told old.keeper)
  -- where the log would end beyond its limit, or what is written would be too long, it is full, and else it is not
  pub within :
      (how ≡ None) ⊎ (how ≡ Some DiskFault) → (log : Log) → k.is_at old.keeper (found s log)
      → change_fits log s.store c ≡ true
  pub beyond :
      how ≡ Some Full → (log : Log) → k.is_at old.keeper (found s log) → change_fits log s.store c ≡ false
  -- whatever was answered, a start finds the state before or the one after: behind a crash at any moment of the call,
  -- and behind one from then on
  pub any_moment :
      IfSome (k.told old.keeper) (λ _.
      LeavesOnly k.moment k.left_since old.keeper new.keeper (FindsEither s (after s c)))
  pub left : IfSome (k.told old.keeper) (λ _. Among (FindsEither s (after s c)) (k.may_leave new.keeper))
  -- and once it is acknowledged, the one after
  pub acknowledged :
      how ≡ None → IfSome (k.told old.keeper) (λ _. Among (FindsState (after s c)) (k.may_leave new.keeper))
  -- and however it ended, its disk has become no longer than its images and records make it
  pub bounded :
      (log : Log) (file image longest : ℕ) → k.is_at old.keeper (found s log)
      → IsBoundedBy k old.keeper file image longest
      → IsBoundedBy k new.keeper file (max image (if is_due log c then image_length s.store else 0))
      (max longest (5 + change_length c))
  -- what the keeper was asked for
  pub ran : Ran k old.keeper s c how new.keeper

-- A controller that is up keeps a change, or is hindered: it commits it, and is in order.
pub record KeepsChange {K : Type 0} (k : Ghosts K) (s : State) (c : Change) (old new : Running K) (how : Option Hindrance)
    : Type 0 where
  pub commits : Commits k s c old new how
  pub in_order : IsInOrder k new
  pub not_down : how ≡ Some Down → ⊥
  pub not_failed : how ≡ Some Failed → ⊥

-- it has this state in memory, and behind a fault of its disk none
abbrev pub up_behind : {K : Type 0} → Option Hindrance → K → State → Running K
up_behind (Some DiskFault) keeper s = record { keeper = keeper; state = None; down = false }
up_behind _ keeper s = record { keeper = keeper; state = Some s; down = false }

-- ---- a call

-- the change that a call makes of the state of a controller in order
pub record IsMade {K : Type 0} (k : Ghosts K) (changes : State → Option Change) (c : Running K) (change : Change)
    : Type 0 where
  pub state : State
  pub in_memory : c.state ≡ Some state
  pub makes : changes state ≡ Some change
  pub in_order : IsInOrder k c

-- A call of a controller that commits the change which it makes of the state, if it makes one.
pub record Calls {K : Type 0} (k : Ghosts K) (changes : State → Option Change) (old new : Running K)
    (how : Option Hindrance) : Type 0 where
  pub down : (how ≡ Some Down) ↔ (old.down ≡ true)
  pub failed : (how ≡ Some Failed) ↔ ((old.down ≡ false) × (old.state ≡ None))
  pub stays : old.state ≡ None → new ≡ old
  pub unchanged : (s : State) → old.state ≡ Some s → changes s ≡ None → new ≡ old
  -- where nothing is to be changed, only memory can be wanted
  pub idle : (s : State) → old.state ≡ Some s → changes s ≡ None → (how ≡ None) ⊎ (how ≡ Some NoMemory)
  pub commits :
      (s : State) (c : Change) → old.state ≡ Some s → changes s ≡ Some c → Commits k s c old new how
  -- whatever it comes to, no count of faults falls, and a keeper that tells goes on telling
  pub later : k.faults old.keeper ≤ k.faults new.keeper
  pub still_told : IsSome (k.told new.keeper) ↔ IsSome (k.told old.keeper)
