-- One controller, end to end: what its state is, and what a start finds, behind any list of calls.
use Rattle.std.specs.Prelude.{◌≡◌, ◌↔◌, ◌≤◌, ℕ, true, List, [], ◌∷◌, take, Some, None, Result, IfOk, IfErr, IsSome, IfSome}
use Rattle.adr_disk.specs.Disk.{Among, LeavesOnly}
use Rattle.adr_model.specs.Store.{State}
use Rattle.adr_journal.specs.Ended.{IsDamageOf}
use Rattle.adr_journal.specs.declared.keeper.Keeper.{Ghosts}
use Rattle.adr_journal.specs.declared.keeper.StartRefusal.{StartRefusal}
use Rattle.adr_controller.specs.Able.{AllFollow}
use Rattle.adr_controller.specs.Did.{Calls as CallsSo}
use Rattle.adr_controller.specs.Running.{Running, IsInOrder, IsStarted}
use Rattle.adr_law_controller.specs.Called.{Call, change_of_call, IsGivenCall}
use Rattle.adr_law_controller.specs.Behind.{Step, Calls, Stops, Starts, Reached, surely, behind, MayFind, AreTrueOf}

-- what the contract of a start says
pub record StartsSo {K : Type 0} (k : Ghosts K) (old new : Running K) (how : Result State StartRefusal) : Type 0 where
  pub ok : IfOk how (λ s. (new.state ≡ Some s) × IsStarted k old.keeper new)
  pub err : IfErr how (λ refusal. (new.state ≡ None) × IsDamageOf refusal (k.told old.keeper))
  pub later : k.faults old.keeper ≤ k.faults new.keeper
  pub still_told : IsSome (k.told new.keeper) ↔ IsSome (k.told old.keeper)
  pub any_moment : LeavesOnly k.moment k.left_since old.keeper new.keeper (k.may_leave old.keeper)
  pub left : Among (k.may_leave old.keeper) (k.may_leave new.keeper)

-- one controller comes of another by a step: what the contract of the public call says
abbrev pub ComesBy : {K : Type 0} → Ghosts K → Step → Running K → Running K → Type 0
ComesBy k (Calls call how) old new = CallsSo k (change_of_call call) old new how
ComesBy k Stops old new = new ≡ record { keeper = old.keeper; state = None; down = true }
ComesBy k (Starts how) old new = StartsSo k old new how

-- step behind step; each is in order, as every controller is
unfoldable pub Leads : {K : Type 0} → Ghosts K → Running K → List Step → Running K → Type 0
Leads k first [] last = last ≡ first
Leads {K} k first (step ∷ steps) last = (next : Running K) × ComesBy k step first next × IsInOrder k next × Leads k next steps last

-- A controller stands where its calls have led: where it is up, its state is the one that is surely there; and where its
-- keeper tells, a start finds what may be there, now and behind a crash now.
pub record StandsAt {K : Type 0} (k : Ghosts K) (r : Reached) (c : Running K) : Type 0 where
  pub in_order : IsInOrder k c
  pub up : (s : State) → c.state ≡ Some s → r ≡ surely s
  pub reads : IfSome (k.told c.keeper) (MayFind r)
  pub left : IfSome (k.told c.keeper) (λ _. Among (MayFind r) (k.may_leave c.keeper))

-- It stands behind these steps. Behind a crash at any moment of them a start finds what may be there behind a front of
-- them, and each start among them found what may be there then.
pub record StandsBehind {K : Type 0} (k : Ghosts K) (r : Reached) (first : Running K) (steps : List Step) (last : Running K) : Type 0 where
  pub stands : StandsAt k (behind r steps) last
  pub later : k.faults first.keeper ≤ k.faults last.keeper
  pub still_told : IsSome (k.told last.keeper) ↔ IsSome (k.told first.keeper)
  pub any_moment :
      IfSome (k.told first.keeper) (λ _.
      LeavesOnly k.moment k.left_since first.keeper last.keeper (λ found. (n : ℕ) × MayFind (behind r (take n steps)) found))
  pub starts : IsSome (k.told first.keeper) → AreTrueOf r steps

-- a controller that is up stands at its state
abbrev pub UpStandsAtItsState : {K : Type 0} → Ghosts K → Type 0
UpStandsAtItsState {K} k = (s : State) (c : Running K) → c.state ≡ Some s → IsInOrder k c → StandsAt k (surely s) c

-- and whatever steps follow, it stands behind them
abbrev pub StandsBehindSteps : {K : Type 0} → Ghosts K → Type 0
StandsBehindSteps {K} k =
    (r : Reached) (first last : Running K) (steps : List Step) → StandsAt k r first → Leads k first steps last → StandsBehind k r first steps last

-- every call that has the form of one may be made of a controller
abbrev pub GivenCallsFollow : {K : Type 0} → Ghosts K → Type 0
GivenCallsFollow k = (call : Call) → IsGivenCall call → AllFollow k (change_of_call call)
