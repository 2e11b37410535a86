-- What a crash leaves of a controller that is up, and of a keeper that goes on.
use Rattle.std.proofs.Common.{◌≡◌, ◌⊎◌, ◌<◌, inl, inr, ⊎_elim, refl, sym, subst, Ok, Option, Some, None, true, false, arith}
use Rattle.std.specs.Prelude.{IfSome, IsSome}
use Rattle.adr_disk.specs.Disk.{Among, LeavesOnly}
use Rattle.adr_disk.proofs.Moments.{joined, started, weakened}
use Rattle.adr_disk.proofs.Told.{at_told, if_told, is_some_of, some_of}
use Rattle.adr_law_journal.specs.Areas.{Found, Started, found}
use Rattle.adr_law_journal.specs.Kept.{FindsEither, FindsState}
use Rattle.adr_model.specs.Change.{Change, after}
use Rattle.adr_model.specs.Lengths.{change_fits}
use Rattle.adr_model.specs.Store.{State}
use Rattle.adr_journal.specs.declared.keeper.Keeper.{Ghosts}
use Rattle.adr_controller.specs.Did.{Calls, Commits, KeepsAll}
use Rattle.adr_controller.specs.Running.{Running, IsInOrder}
use Rattle.adr_controller.specs.declared.refusal.Hindrance.{Hindrance}
use Rattle.adr_controller.specs.declared.refusal.Hindrance.TheVariants.{Down, Failed, Full, DiskFault, NoMemory}
use Rattle.adr_law_controller.specs.Keeping.{Stands}

module _ {K : Type 0} (k : Ghosts K) where
  -- where a controller stands that is up
  pub stands_there : (c : Running K) → IsInOrder k c → IsSome c.state → (f : Found State) × Stands k f c
  stands_there c in_order up =
      let s = some_of c.state up in
      let at = (in_order.up s.0 s.1).0 in
      (found s.0 at.log, (s.1, at.at))

  -- the laws of a keeper
  abbrev pub TellsLaw : Type 0
  TellsLaw = (keeper : K) (f : Found State) → k.is_at keeper f → k.is_failed keeper ≡ false → IfSome (k.told keeper) (λ t. t ≡ Ok f)

  abbrev pub LeavesLaw : Type 0
  LeavesLaw = (keeper : K) (f : Found State) (t : Started State) → k.is_at keeper f → k.is_failed keeper ≡ false → IsSome (k.told keeper) → k.may_leave keeper t → t ≡ Ok f

  abbrev pub OnlyNowLaw : Type 0
  OnlyNowLaw = (keeper : K) (t : Started State) → k.left_since keeper (k.moment keeper) t → k.may_leave keeper t

  -- a crash so far leaves what has P
  abbrev pub Crashes : K → K → (Started State → Type 0) → Type 0
  Crashes old new P = IfSome (k.told old) (λ _. LeavesOnly k.moment k.left_since old new P)

  -- and a crash now leaves what has P
  abbrev pub Left : K → K → (Started State → Type 0) → Type 0
  Left old new P = IfSome (k.told old) (λ _. Among P (k.may_leave new))

  -- what is so where the later one tells what a start finds is so where the earlier one told it
  pub since : (old mid : K) (A : Type 0) → (IsSome (k.told old) → IsSome (k.told mid)) → IfSome (k.told mid) (λ _. A) → IfSome (k.told old) (λ _. A)
  since old mid A still holds =
      if_told (k.told old) (λ _. A) (λ t tells.
      let there = some_of (k.told mid) (still (is_some_of (k.told old) t tells)) in
      at_told (k.told mid) (λ _. A) there.0 there.1 holds)

  pub crash_by : (old new : K) (P Q : Started State → Type 0) → Among Q P → Crashes old new P → Crashes old new Q
  crash_by old new P Q by crash =
      if_told (k.told old) (λ _. LeavesOnly k.moment k.left_since old new Q) (λ t tells.
      weakened k.moment k.left_since old new P Q by (at_told (k.told old) (λ _. LeavesOnly k.moment k.left_since old new P) t tells crash))

  pub left_by : (old new : K) (P Q : Started State → Type 0) → Among Q P → Left old new P → Left old new Q
  left_by old new P Q by left =
      if_told (k.told old) (λ _. Among Q (k.may_leave new)) (λ t tells s now.
      by s (at_told (k.told old) (λ _. Among P (k.may_leave new)) t tells left s now))

  -- a crash so far, and in what is done then
  pub crash_on : (old mid new : K) (P Q R : Started State → Type 0) → Among R P → Among R Q → Crashes old mid P → (IsSome (k.told old) → IsSome (k.told mid))
      → Crashes mid new Q → Crashes old new R
  crash_on old mid new P Q R by_first by_second first still second =
      if_told (k.told old) (λ _. LeavesOnly k.moment k.left_since old new R) (λ t tells.
      joined k.moment k.left_since old mid new R (at_told (k.told old) (λ _. LeavesOnly k.moment k.left_since old mid R) t tells (crash_by old mid P R by_first first))
      (at_told (k.told old) (λ _. LeavesOnly k.moment k.left_since mid new R) t tells
      (since old mid (LeavesOnly k.moment k.left_since mid new R) still (crash_by mid new Q R by_second second))))

  module _ (leaves : LeavesLaw) where
    -- of one that is up a start finds its state
    pub finds_here :
        (f : Found State) (c : Running K) → Stands k f c → IsInOrder k c → IsSome (k.told c.keeper)
        → Among (FindsState f.state) (k.may_leave c.keeper)
    finds_here f c stands in_order tells s left = (f.log, leaves c.keeper f s stands.1 (in_order.up f.state stands.0).0.running tells left)

    -- which is what its keeper tells
    pub tells_here :
        (f : Found State) (c : Running K) → TellsLaw → Stands k f c → IsInOrder k c
        → IfSome (k.told c.keeper) (λ t. (t ≡ Ok f) × Among (FindsState f.state) (k.may_leave c.keeper))
    tells_here f c tells stands in_order =
        if_told (k.told c.keeper) (λ t. (t ≡ Ok f) × Among (FindsState f.state) (k.may_leave c.keeper)) (λ t is. (
          at_told (k.told c.keeper) (λ x. x ≡ Ok f) t is (tells c.keeper f stands.1 (in_order.up f.state stands.0).0.running),
          finds_here f c stands in_order (is_some_of (k.told c.keeper) t is),
        ))

    -- nothing has changed
    pub still_crashes :
        (only_now : OnlyNowLaw) (P : Started State → Type 0) (f : Found State) (c : Running K) → Stands k f c → IsInOrder k c → Among P (FindsState f.state)
        → Crashes c.keeper c.keeper P
    still_crashes only_now P f c stands in_order finds =
        if_told (k.told c.keeper) (λ _. LeavesOnly k.moment k.left_since c.keeper c.keeper P) (λ t tells.
        started k.moment k.left_since c.keeper P (λ s left.
        finds s (finds_here f c stands in_order (is_some_of (k.told c.keeper) t tells) s (only_now c.keeper s left))))

    -- or nothing of what a start finds
    wanted_crashes :
        (only_now : OnlyNowLaw) (P : Started State → Type 0) (f : Found State) (c : Running K) (new : K) → Stands k f c → IsInOrder k c → KeepsAll k c.keeper new → Among P (FindsState f.state)
        → Crashes c.keeper new P
    wanted_crashes only_now P f c new stands in_order keeps finds =
        if_told (k.told c.keeper) (λ _. LeavesOnly k.moment k.left_since c.keeper new P) (λ t tells. record {
          later = omega (arith, keeps.moment_stays);
          each = λ s left. finds s (finds_here f c stands in_order (is_some_of (k.told c.keeper) t tells) s (only_now c.keeper s (keeps.past_stays (k.moment c.keeper) s left)));
          before = λ n s le left. inl (keeps.past_stays n s left);
        })

    -- nor of what it finds from now on
    pub still_left : (P : Started State → Type 0) (f : Found State) (c : Running K) (new : K) → Stands k f c → IsInOrder k c → Among (k.may_leave c.keeper) (k.may_leave new) → Among P (FindsState f.state)
        → Left c.keeper new P
    still_left P f c new stands in_order no_more finds =
        if_told (k.told c.keeper) (λ _. Among P (k.may_leave new)) (λ t tells s left.
        finds s (finds_here f c stands in_order (is_some_of (k.told c.keeper) t tells) s (no_more s left)))

-- ---- a call of a controller that is up

module _ {K : Type 0} (k : Ghosts K) (changes : State → Option Change) (old new : Running K) (how : Option Hindrance) (calls : Calls k changes old new how) where
  -- where its disk failed, the count of that rose
  pub call_failed : (s : State) → old.state ≡ Some s → how ≡ Some DiskFault → k.faults old.keeper < k.faults new.keeper
  call_failed s there is = by (changes s) refl
    where
      by : (m : Option Change) → changes s ≡ m → k.faults old.keeper < k.faults new.keeper
      by None none = absurd (⊎_elim (λ e. cc (e, is)) (λ e. cc (e, is)) (calls.idle s there none))
      by (Some c) makes = ((calls.commits s c there makes).fault is).1

  -- A start finds the state before, or the one behind the change that was to be made, if that fits.
  module _ (leaves : LeavesLaw k) (only_now : OnlyNowLaw k) (order : IsInOrder k old) (f : Found State) (stands : Stands k f old) (P : Started State → Type 0) (first : Among P (FindsState f.state))
      (behind : (c : Change) → changes f.state ≡ Some c → change_fits f.log f.state.store c ≡ true → Among P (FindsEither f.state (after f.state c))) where
    -- whenever a crash comes, and from then on
    abbrev Finds : Type 0
    Finds = Crashes k old.keeper new.keeper P × Left k old.keeper new.keeper P

    same : new ≡ old → Finds
    same is = subst (λ (c : Running K). Crashes k old.keeper c.keeper P × Left k old.keeper c.keeper P) (sym is) (
      still_crashes k leaves only_now P f old stands order first,
      still_left k leaves P f old old.keeper stands order (λ s left. left) first,
    )

    was_made : (c : Change) → changes f.state ≡ Some c → Commits k f.state c old new how → (how ≡ None) ⊎ (how ≡ Some DiskFault) → Finds
    was_made c makes did is =
        let near = behind c makes (did.within is f.log stands.1) in (
          crash_by k old.keeper new.keeper (FindsEither f.state (after f.state c)) P near did.any_moment,
          left_by k old.keeper new.keeper (FindsEither f.state (after f.state c)) P near did.left,
        )

    by_change : (c : Change) → changes f.state ≡ Some c → Commits k f.state c old new how → (h : Option Hindrance) → how ≡ h → Finds
    by_change c makes did None is = was_made c makes did (inl is)
    by_change c makes did (Some DiskFault) is = was_made c makes did (inr is)
    by_change c makes did (Some Full) is = same (did.full is)
    by_change c makes did (Some NoMemory) is =
        let keeps = (did.no_memory is).1 in
        (wanted_crashes k leaves only_now P f old new.keeper stands order keeps first, still_left k leaves P f old new.keeper stands order keeps.no_more first)
    by_change c makes did (Some Down) is = absurd (cc (calls.down.0 is, (order.up f.state stands.0).1))
    by_change c makes did (Some Failed) is = absurd (cc ((calls.failed.0 is).1, stands.0))

    pub call_finds : Finds
    call_finds = by (changes f.state) refl
      where
        by : (m : Option Change) → changes f.state ≡ m → Finds
        by None none = same (calls.unchanged f.state stands.0 none)
        by (Some c) makes = by_change c makes (calls.commits f.state c stands.0 makes) how refl
