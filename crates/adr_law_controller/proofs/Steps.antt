-- What one step does to a controller, and to what a start finds.
use Rattle.std.proofs.Common.{◌≡◌, ◌⊎◌, inl, inr, ⊎_elim, ◌∙◌, sym, ap, subst, refl, ℕ, Bool, true, false, Option, Some, None, IfSome, IsSome, Result, Ok, Err, ◌≤◌, arith}
use Rattle.std.specs.Prelude.{◌↔◌}
use Rattle.std.specs.Option.{option_map, option_map_or}
use Rattle.adr_disk.specs.Disk.{Among, LeavesOnly}
use Rattle.adr_disk.proofs.Moments.{started, weakened}
use Rattle.adr_model.specs.Store.{State}
use Rattle.adr_model.specs.Change.{Change, after}
use Rattle.adr_law_journal.specs.Areas.{found, Started}
use Rattle.adr_law_journal.specs.Kept.{FindsState}
use Rattle.adr_law_journal.proofs.Told.{at_told, some_of, some_is}
use Rattle.adr_journal.specs.Ended.{IsDamageOf}
use Rattle.adr_journal.specs.declared.keeper.Keeper.{Ghosts}
use Rattle.adr_journal.specs.declared.keeper.StartRefusal.{StartRefusal}
use Rattle.adr_journal.specs.declared.keeper.StartRefusal.TheVariants as starts
use Rattle.adr_controller.specs.declared.refusal.Hindrance.{Hindrance}
use Rattle.adr_controller.specs.declared.refusal.Hindrance.TheVariants.{Down, Failed, Full, DiskFault, NoMemory}
use Rattle.adr_controller.specs.Running.{Running, IsInOrder, IsStarted}
use Rattle.adr_controller.specs.Did.{Calls as CallsSo, Commits, KeepsAll}
use Rattle.adr_law_controller.proofs.Crashes.{LeavesLaw, OnlyNowLaw}
use Rattle.adr_law_controller.specs.Called.{Call, change_of_call}
use Rattle.adr_law_controller.specs.Behind.{Step, Calls, Stops, Starts, Reached, surely, behind_step, MayBe, MayFind, IsTrueOf}
use Rattle.adr_law_controller.specs.Laws.{StartsSo, ComesBy}

-- the state in what a start found
state_in : State → Started State → State
state_in s (Ok f) = f.state
state_in s (Err place) = s

found_state : (s : State) (t : State) (x : Started State) → FindsState s x → FindsState t x → s ≡ t
unfolding state_in
found_state s t x (log, is) (other, so) = ap (λ y. state_in s y) (sym is ∙ so)

not_damaged : (s : State) (place : ℕ) (x : Started State) → FindsState s x → x ≡ Err place → ⊥
not_damaged s place x (log, is) damaged = cc (is, damaged)

-- the state in memory is what is reached
abbrev pub IsAt : {K : Type 0} → Running K → Reached → Type 0
IsAt c r = (t : State) → c.state ≡ Some t → r ≡ surely t

-- how a call went: nothing has changed, memory was wanting, its change was committed, or the disk failed
pub data Went {K : Type 0} (k : Ghosts K) (call : Call) (old new : Running K) (how : Option Hindrance) (r : Reached) : Type 0 where
  Still : new ≡ old → behind_step r (Calls call how) ≡ r → Went k call old new how r
  Wanted : new.state ≡ old.state → KeepsAll k old.keeper new.keeper → behind_step r (Calls call how) ≡ r → Went k call old new how r
  Done : (s : State) (c : Change) → r ≡ surely s → behind_step r (Calls call how) ≡ surely (after s c) → Commits k s c old new None → Went k call old new how r
  Faulted : (s : State) (c : Change) → r ≡ surely s → behind_step r (Calls call how) ≡ record { state = s; or_else = Some (after s c) } → Commits k s c old new (Some DiskFault) → Went k call old new how r

module _ {K : Type 0} (k : Ghosts K) (call : Call) (old new : Running K) (order : IsInOrder k old) (how : Option Hindrance) (calls : CallsSo k (change_of_call call) old new how) (r : Reached) (rest : IsAt old r) where
  as_ended : (h : Option Hindrance) → how ≡ h → behind_step r (Calls call h) ≡ r → behind_step r (Calls call how) ≡ r
  as_ended h is so = subst (λ h. behind_step r (Calls call h) ≡ r) (sym is) so

  down_or_failed : (d : Bool) → old.down ≡ d → old.state ≡ None → Went k call old new how r
  down_or_failed true down none = Still (calls.stays none) (as_ended (Some Down) (calls.down.1 down) refl)
  down_or_failed false up none = Still (calls.stays none) (as_ended (Some Failed) (calls.failed.1 (up, none)) refl)

  made : (s : State) (c : Change) → old.state ≡ Some s → change_of_call call s ≡ Some c → (h : Option Hindrance) → how ≡ h → Commits k s c old new how → Went k call old new how r
  made s c is makes None h commits =
      Done s c (rest s is)
      (subst (λ h. behind_step r (Calls call h) ≡ surely (after s c)) (sym h)
      (subst (λ x. behind_step x (Calls call None) ≡ surely (after s c)) (sym (rest s is)) (ap (λ m. surely (option_map_or (after s) m s)) makes)))
      (subst (λ h. Commits k s c old new h) h commits)
  made s c is makes (Some DiskFault) h commits =
      let next : Reached = record { state = s; or_else = Some (after s c) } in
      Faulted s c (rest s is)
      (subst (λ h. behind_step r (Calls call h) ≡ next) (sym h)
      (subst (λ x. behind_step x (Calls call (Some DiskFault)) ≡ next) (sym (rest s is)) (ap (λ m. let x : Reached = record { state = s; or_else = option_map (after s) m } in x) makes)))
      (subst (λ h. Commits k s c old new h) h commits)
  made s c is makes (Some NoMemory) h commits = let kept = commits.no_memory h in Wanted kept.0 kept.1 (as_ended (Some NoMemory) h refl)
  made s c is makes (Some Full) h commits = Still (commits.full h) (as_ended (Some Full) h refl)
  made s c is makes (Some Down) h commits = absurd (cc (calls.down.0 h, (order.up s is).1))
  made s c is makes (Some Failed) h commits = absurd (cc ((calls.failed.0 h).1, is))

  made_or_not : (s : State) → old.state ≡ Some s → (m : Option Change) → change_of_call call s ≡ m → Went k call old new how r
  made_or_not s is None none =
      Still (calls.unchanged s is none)
      (⊎_elim (λ h. as_ended None h (subst (λ x. behind_step x (Calls call None) ≡ x) (sym (rest s is)) (ap (λ m. surely (option_map_or (after s) m s)) none))) (λ h. as_ended (Some NoMemory) h refl) (calls.idle s is none))
  made_or_not s is (Some c) makes = made s c is makes how refl (calls.commits s c is makes)

  up_or_not : (o : Option State) → old.state ≡ o → Went k call old new how r
  up_or_not None none = down_or_failed old.down refl none
  up_or_not (Some s) is = made_or_not s is (change_of_call call s) refl

  went : Went k call old new how r
  went = up_or_not old.state refl

  called_at : Went k call old new how r → IsAt new (behind_step r (Calls call how))
  called_at (Still same step) t is = step ∙ rest t (ap (λ (c : Running K). c.state) (sym same) ∙ is)
  called_at (Wanted same kept step) t is = step ∙ rest t (sym same ∙ is)
  called_at (Done s c at step commits) t is = step ∙ ap surely (some_is (after s c) t (sym (commits.done refl) ∙ is))
  called_at (Faulted s c at step commits) t is = absurd (cc ((commits.fault refl).0, is))

  pub call_leads : IsAt new (behind_step r (Calls call how))
  call_leads = called_at went

-- what a start finds behind a step, and at each moment of it
pub record Moves {K : Type 0} (k : Ghosts K) (r next : Reached) (old new : K) : Type 0 where
  pub told : IsSome (k.told new)
  pub left : Among (MayFind next) (k.may_leave new)
  pub moments : LeavesOnly k.moment k.left_since old new (λ f. MayFind r f ⊎ MayFind next f)

module _ {K : Type 0} (k : Ghosts K)
    (leaves : LeavesLaw k)
    (honest : (keeper : K) → IfSome (k.told keeper) (k.may_leave keeper))
    (only_now : OnlyNowLaw k)
    (r : Reached) (old new : Running K) (told : IsSome (k.told old.keeper)) (left : Among (MayFind r) (k.may_leave old.keeper)) where
  stays : Moves k r r old.keeper old.keeper
  stays = record {
    told = told;
    left = left;
    moments = started k.moment k.left_since old.keeper (λ f. MayFind r f ⊎ MayFind r f) (λ x h. inl (left x (only_now old.keeper x h)));
  }

  stays_so : (keeper : K) → keeper ≡ old.keeper → (next : Reached) → next ≡ r → Moves k r next old.keeper keeper
  stays_so keeper same next step = subst (λ n. Moves k r n old.keeper keeper) (sym step) (subst (λ x. Moves k r r old.keeper x) (sym same) stays)

  wanted_so : (keeper : K) → KeepsAll k old.keeper keeper → (next : Reached) → next ≡ r → Moves k r next old.keeper keeper
  wanted_so keeper kept next step = subst (λ n. Moves k r n old.keeper keeper) (sym step) (record {
    told = subst (λ o. IsSome o) (sym kept.content_stays) told;
    left = λ x h. left x (kept.no_more x h);
    moments = record {
      later = omega (arith, kept.moment_stays);
      each = λ x h. inl (left x (only_now old.keeper x (kept.past_stays (k.moment old.keeper) x h)));
      before = λ n x le h. inl (kept.past_stays n x h);
    };
  })

  done_so : (s : State) (c : Change) → r ≡ surely s → Commits k s c old new None → (next : Reached) → next ≡ surely (after s c) → Moves k r next old.keeper new.keeper
  done_so s c at commits next step = subst (λ n. Moves k r n old.keeper new.keeper) (sym step) (record {
    told = commits.still_told.1 told;
    left = λ x h. let there = some_of (k.told old.keeper) told in
        (after s c, inl refl, at_told (k.told old.keeper) _ there.0 there.1 (commits.acknowledged refl) x h);
    moments = let there = some_of (k.told old.keeper) told in
        weakened k.moment k.left_since old.keeper new.keeper _ (λ f. MayFind r f ⊎ MayFind (surely (after s c)) f)
        (λ x either. ⊎_elim (λ f. inl (s, inl (sym (ap (λ (x : Reached). x.state) at)), f)) (λ f. inr (after s c, inl refl, f)) either)
        (at_told (k.told old.keeper) _ there.0 there.1 commits.any_moment);
  })

  faulted_so : (s : State) (c : Change) → Commits k s c old new (Some DiskFault) → (next : Reached) → next ≡ record { state = s; or_else = Some (after s c) } → Moves k r next old.keeper new.keeper
  faulted_so s c commits next step = subst (λ n. Moves k r n old.keeper new.keeper) (sym step) (record {
    told = commits.still_told.1 told;
    left = λ x h. let there = some_of (k.told old.keeper) told in
        ⊎_elim (λ f. (s, inl refl, f)) (λ f. (after s c, inr refl, f)) (at_told (k.told old.keeper) _ there.0 there.1 commits.left x h);
    moments = let there = some_of (k.told old.keeper) told in
        weakened k.moment k.left_since old.keeper new.keeper _ (λ f. MayFind r f ⊎ MayFind (record { state = s; or_else = Some (after s c) }) f)
        (λ x either. inr (⊎_elim (λ f. (s, inl refl, f)) (λ f. (after s c, inr refl, f)) either))
        (at_told (k.told old.keeper) _ there.0 there.1 commits.any_moment);
  })

  call_moves : (call : Call) (how : Option Hindrance) → Went k call old new how r → Moves k r (behind_step r (Calls call how)) old.keeper new.keeper
  call_moves call how (Still same step) = stays_so new.keeper (ap (λ (c : Running K). c.keeper) same) (behind_step r (Calls call how)) step
  call_moves call how (Wanted same kept step) = wanted_so new.keeper kept (behind_step r (Calls call how)) step
  call_moves call how (Done s c at step commits) = done_so s c at commits (behind_step r (Calls call how)) step
  call_moves call how (Faulted s c at step commits) = faulted_so s c commits (behind_step r (Calls call how)) step

  -- a start that found a state
  module _ (t : State) (is : new.state ≡ Some t) (begun : IsStarted k old.keeper new) where
    was_there : MayBe r t
    was_there =
        let there = some_of (k.told old.keeper) told in
        let read = at_told (k.told old.keeper) _ there.0 there.1 begun.told in
        let may = left there.0 (at_told (k.told old.keeper) (k.may_leave old.keeper) there.0 there.1 (honest old.keeper)) in
        let same = found_state may.0 begun.state there.0 may.2 (begun.log, read) in
        subst (λ s. MayBe r s) (same ∙ some_is begun.state t (sym begun.in_memory ∙ is)) may.1

  start_moves : (how : Result State StartRefusal) → IsInOrder k new → StartsSo k old new how → Moves k r (behind_step r (Starts how)) old.keeper new.keeper
  start_moves (Ok t) order so = record {
    told = so.still_told.1 told;
    left = λ x h. let up = (order.up t so.ok.0).0 in (t, inl refl, (up.log, leaves new.keeper (found t up.log) x up.at up.running (so.still_told.1 told) h));
    moments = weakened k.moment k.left_since old.keeper new.keeper (k.may_leave old.keeper) (λ f. MayFind r f ⊎ MayFind (surely t) f) (λ x h. inl (left x h)) so.any_moment;
  }
  start_moves (Err refusal) order so = record {
    told = so.still_told.1 told;
    left = λ x h. left x (so.left x h);
    moments = weakened k.moment k.left_since old.keeper new.keeper (k.may_leave old.keeper) (λ f. MayFind r f ⊎ MayFind r f) (λ x h. inl (left x h)) so.any_moment;
  }

  not_so : (refusal : StartRefusal) → IsDamageOf refusal (k.told old.keeper) → IsTrueOf r (Starts (Err refusal))
  not_so starts.DiskFault damage = tt
  not_so (starts.NoMemory settled) damage = tt
  not_so (starts.Damaged place) damage =
      let there = some_of (k.told old.keeper) told in
      let may = left there.0 (at_told (k.told old.keeper) (k.may_leave old.keeper) there.0 there.1 (honest old.keeper)) in
      not_damaged may.0 place there.0 may.2 (at_told (k.told old.keeper) _ there.0 there.1 damage)

  start_true : (how : Result State StartRefusal) → StartsSo k old new how → IsTrueOf r (Starts how)
  start_true (Ok t) so = was_there t so.ok.0 so.ok.1
  start_true (Err refusal) so = not_so refusal so.err.1

  pub step_moves : (step : Step) → IsInOrder k old → IsInOrder k new → IsAt old r → ComesBy k step old new → Moves k r (behind_step r step) old.keeper new.keeper
  step_moves (Calls call how) order ordered rest calls = call_moves call how (went k call old new order how calls r rest)
  step_moves Stops order ordered rest same = stays_so new.keeper (ap (λ (c : Running K). c.keeper) same) r refl
  step_moves (Starts how) order ordered rest so = start_moves how ordered so

  pub step_true : (step : Step) → ComesBy k step old new → IsTrueOf r step
  step_true (Calls call how) calls = tt
  step_true Stops same = tt
  step_true (Starts how) so = start_true how so

-- the state in memory is what is reached, behind the step too
pub step_leads : {K : Type 0} (k : Ghosts K) (step : Step) (old new : Running K) (r : Reached) → IsInOrder k old → IsAt old r → ComesBy k step old new → IsAt new (behind_step r step)
step_leads k (Calls call how) old new r order rest calls = call_leads k call old new order how calls r rest
step_leads {K} k Stops old new r order rest same = λ t is. absurd (let none : new.state ≡ None = ap (λ (c : Running K). c.state) same in cc (none, is))
step_leads k (Starts (Ok s)) old new r order rest so = λ t is. ap surely (some_is s t (sym so.ok.0 ∙ is))
step_leads k (Starts (Err refusal)) old new r order rest so = λ t is. absurd (cc (so.err.0, is))

-- no count of faults falls
pub step_counts : {K : Type 0} (k : Ghosts K) (step : Step) (old new : Running K) → ComesBy k step old new → k.faults old.keeper ≤ k.faults new.keeper
step_counts k (Calls call how) old new calls = calls.later
step_counts {K} k Stops old new same = let is : new.keeper ≡ old.keeper = ap (λ (c : Running K). c.keeper) same in subst (λ x. k.faults old.keeper ≤ k.faults x) (sym is) (omega arith)
step_counts k (Starts how) old new so = so.later

-- and a keeper that tells goes on telling
pub step_tells : {K : Type 0} (k : Ghosts K) (step : Step) (old new : Running K) → ComesBy k step old new → IsSome (k.told new.keeper) ↔ IsSome (k.told old.keeper)
step_tells k (Calls call how) old new calls = calls.still_told
step_tells {K} k Stops old new same = let is : new.keeper ≡ old.keeper = ap (λ (c : Running K). c.keeper) same in
    (λ told. subst (λ x. IsSome (k.told x)) is told, λ told. subst (λ x. IsSome (k.told x)) (sym is) told)
step_tells k (Starts how) old new so = so.still_told
