-- A call of a controller, by what it committed.
use Rattle.std.proofs.Common.{◌≡◌, ◌⊎◌, inl, inr, ⊎_elim, ◌∙◌, sym, ap, subst, refl, Bool, true, false, Option, Some, None, IsSome, Result, Ok, Err, arith}
use Rattle.std.specs.Prelude.{◌↔◌}
use Rattle.std.specs.Bool.{then_some}
use Rattle.adr_values.specs.declared.failure.Failure.{Failure}
use Rattle.adr_values.specs.declared.failure.Failure.TheVariants as failures
use Rattle.adr_disk.specs.Disk.{LeavesOnly}
use Rattle.adr_disk.proofs.Moments.{started}
use Rattle.adr_model.specs.Store.{State}
use Rattle.adr_model.specs.Change.{Change, after}
use Rattle.adr_model.specs.Collect.{quarantine}
use Rattle.adr_law_journal.specs.Areas.{Found, found, Started}
use Rattle.adr_law_journal.specs.Kept.{FindsEither}
use Rattle.adr_journal.specs.declared.keeper.Keeper.{Ghosts}
use Rattle.adr_controller.specs.declared.refusal.Hindrance.{Hindrance}
use Rattle.adr_controller.specs.declared.refusal.Hindrance.TheVariants.{Down, Failed, DiskFault, NoMemory}
use Rattle.adr_controller.specs.declared.refusal.CallRefusal.{CallRefusal}
use Rattle.adr_controller.specs.declared.refusal.CallRefusal.TheVariants.{Hindered}
use Rattle.adr_controller.specs.Running.{Running, IsInOrder}
use Rattle.adr_controller.specs.Ended.{call_hindrance, of_failure}
use Rattle.adr_controller.specs.Did.{Ran, Commits, Calls, IsMade}
use Rattle.adr_controller.proofs.Bounding.{grown}
use Rattle.adr_law_journal.proofs.Told.{if_told, is_some_of, same_keeps, some_is}

module _ {K : Type 0} (k : Ghosts K) where
  -- the change that was committed, told as what a call makes of the state
  pub as_made : (changes other : State → Option Change) (old new : Running K) (how : Option Hindrance) → ((s : State) → old.state ≡ Some s → changes s ≡ other s) → Calls k changes old new how → Calls k other old new how
  as_made changes other old new how same calls = record {
    down = calls.down;
    failed = calls.failed;
    stays = calls.stays;
    unchanged = λ s is none. calls.unchanged s is (same s is ∙ none);
    idle = λ s is none. calls.idle s is (same s is ∙ none);
    commits = λ s c is makes. calls.commits s c is (same s is ∙ makes);
    later = calls.later;
    still_told = calls.still_told;
  }

  -- the change that a call makes of the state was committed
  pub committed_so : (changes : State → Option Change) (c : Change) (old new : Running K) (how : Option Hindrance) → IsMade k changes old c
      → (how ≡ Some Down) ↔ (old.down ≡ true) → (how ≡ Some Failed) ↔ ((old.down ≡ false) × (old.state ≡ None)) → (old.state ≡ None → new ≡ old)
      → ((s : State) → old.state ≡ Some s → Commits k s c old new how) → Calls k changes old new how
  committed_so changes c old new how made down failed stays commits = record {
    down = down;
    failed = failed;
    stays = stays;
    unchanged = λ s is none. absurd (cc (none, makes s is));
    idle = λ s is none. absurd (cc (none, makes s is));
    commits = λ s d is other. subst (λ e. Commits k s e old new how) (some_is c d (sym (makes s is) ∙ other)) (commits s is);
    later = (commits made.state made.in_memory).later;
    still_told = (commits made.state made.in_memory).still_told;
  }
    where
      makes : (s : State) → old.state ≡ Some s → changes s ≡ Some c
      makes s is = subst (λ x. changes x ≡ Some c) (some_is made.state s (sym made.in_memory ∙ is)) made.makes

  -- with no state in memory nothing is done
  idle_without : (changes : State → Option Change) (old : Running K) (how : Option Hindrance) → old.state ≡ None → (how ≡ Some Down) ↔ (old.down ≡ true) → (how ≡ Some Failed) ↔ ((old.down ≡ false) × (old.state ≡ None))
      → Calls k changes old old how
  idle_without changes old how none down failed = record {
    down = down;
    failed = failed;
    stays = λ _. refl;
    unchanged = λ s is _. absurd (cc (is, none));
    idle = λ s is _. absurd (cc (is, none));
    commits = λ s c is _. absurd (cc (is, none));
    later = omega arith;
    still_told = (λ some. some, λ some. some);
  }

  -- the controller is down or failed
  pub not_running : (changes : State → Option Change) (old : Running K) (h : Hindrance) → ((h ≡ Down) × (old.down ≡ true) × (old.state ≡ None)) ⊎ ((h ≡ Failed) × (old.down ≡ false) × (old.state ≡ None))
      → (how : Option Hindrance) → Some h ≡ how → Calls k changes old old how
  not_running changes old h (inl (is, down, none)) how same =
      idle_without changes old how none (λ _. down, λ _. sym same ∙ ap Some is) (λ failed. absurd (cc (is, same, failed)), λ failed. absurd (cc (down, failed.0)))
  not_running changes old h (inr (is, up, none)) how same =
      idle_without changes old how none (λ down. absurd (cc (is, same, down)), λ down. absurd (cc (down, up))) (λ _. (up, none), λ _. sym same ∙ ap Some is)

  -- nothing was committed: memory was wanting, or the call makes no change
  module _ (leaves : (keeper : K) (f : Found State) (t : Started State) → k.is_at keeper f → k.is_failed keeper ≡ false → IsSome (k.told keeper) → k.may_leave keeper t → t ≡ Ok f)
      (only_now : (keeper : K) (t : Started State) → k.left_since keeper (k.moment keeper) t → k.may_leave keeper t)
      (old : Running K) (order : IsInOrder k old) where
    finds : (s t : State) → old.state ≡ Some s → (x : Started State) → IsSome (k.told old.keeper) → k.may_leave old.keeper x → FindsEither s t x
    finds s t is x told left = let up = (order.up s is).0 in inl (up.log, leaves old.keeper (found s up.log) x up.at up.running told left)

    wanted_memory : (s : State) (c : Change) → old.state ≡ Some s → (how : Option Hindrance) → how ≡ Some NoMemory → Commits k s c old old how
    wanted_memory s c is how wants = record {
      done = λ h. absurd (cc (wants, h));
      stands = λ h log at. absurd (cc (wants, h));
      full = λ h. refl;
      no_memory = λ h. (refl, same_keeps k.told k.may_leave k.moment k.left_since old.keeper);
      still_there = λ h. record { at = λ f at. at; failed = refl };
      fault = λ h. absurd (cc (wants, h));
      still_up = (order.up s is).1;
      later = omega arith;
      still_told = (λ some. some, λ some. some);
      within = λ h log at. absurd (⊎_elim (λ (n : how ≡ None). let no : ⊥ = cc (wants, n) in no) (λ (f : how ≡ Some DiskFault). let no : ⊥ = cc (wants, f) in no) h);
      beyond = λ h. absurd (cc (wants, h));
      any_moment = if_told (k.told old.keeper) (λ _. LeavesOnly k.moment k.left_since old.keeper old.keeper (FindsEither s (after s c))) (λ t tells.
          started k.moment k.left_since old.keeper (FindsEither s (after s c)) (λ x left. finds s (after s c) is x (is_some_of (k.told old.keeper) t tells) (only_now old.keeper x left)));
      left = if_told (k.told old.keeper) _ (λ t tells x left. finds s (after s c) is x (is_some_of (k.told old.keeper) t tells) left);
      acknowledged = λ h. absurd (cc (wants, h));
      bounded = λ log file image longest at b. grown k old.keeper file image longest _ _ b;
      ran = subst (λ h. Ran k old.keeper s c h old.keeper) (sym wants) (inl refl);
    }

    pub unmade : (changes : State → Option Change) (s : State) → old.state ≡ Some s → (how : Option Hindrance) → (how ≡ Some NoMemory) ⊎ ((how ≡ None) × (changes s ≡ None)) → Calls k changes old old how
    unmade changes s is how (inl wants) = record {
      down = (λ h. absurd (cc (wants, h)), λ d. absurd (cc ((order.up s is).1, d)));
      failed = (λ h. absurd (cc (wants, h)), λ n. absurd (cc (is, n.1)));
      stays = λ none. refl;
      unchanged = λ t ist none. refl;
      idle = λ t ist none. inr wants;
      commits = λ t c ist makes. wanted_memory t c ist how wants;
      later = omega arith;
      still_told = (λ some. some, λ some. some);
    }
    unmade changes s is how (inr (done, none)) = record {
      down = (λ h. absurd (cc (done, h)), λ d. absurd (cc ((order.up s is).1, d)));
      failed = (λ h. absurd (cc (done, h)), λ n. absurd (cc (is, n.1)));
      stays = λ none. refl;
      unchanged = λ t ist none. refl;
      idle = λ t ist none. inl done;
      commits = λ t c ist makes. absurd (cc (none, makes, ap changes (some_is s t (sym is ∙ ist))));
      later = omega arith;
      still_told = (λ some. some, λ some. some);
    }

-- a pure call that gave nothing
pub failed_so : {T R : Type 0} (e : Failure R) (made : Option Change) (result : Result T (CallRefusal R)) (y : CallRefusal R) → result ≡ Err y → y ≡ of_failure e → ((r : R) → e ≡ failures.Refused r → made ≡ None)
    → (call_hindrance result ≡ Some NoMemory) ⊎ ((call_hindrance result ≡ None) × (made ≡ None))
failed_so {T} {R} (failures.Refused r) made result y is gives none = inr (ap (call_hindrance {T = T} {R = R}) (is ∙ ap (λ e. let x : Result T (CallRefusal R) = Err e in x) gives), none r refl)
failed_so {T} {R} failures.NoMemory made result y is gives none = inl (ap (call_hindrance {T = T} {R = R}) (is ∙ ap (λ e. let x : Result T (CallRefusal R) = Err e in x) gives))

-- how a call ended that was hindered
pub hindered_so : {T R : Type 0} (h : Hindrance) (result : Result T (CallRefusal R)) (y : CallRefusal R) → result ≡ Err y → y ≡ Hindered h → Some h ≡ call_hindrance result
hindered_so {T} {R} h result y is gives = sym (ap (call_hindrance {T = T} {R = R}) (is ∙ ap (λ e. let x : Result T (CallRefusal R) = Err e in x) gives))

-- the change of a quarantine, where it is asked for
pub quarantines : (c : Change) (s : State) (asked : Bool) → c ≡ quarantine s → asked ≡ true → Some c ≡ then_some asked (quarantine s)
quarantines c s true is asked = ap Some is
quarantines c s false is asked = absurd (cc asked)
