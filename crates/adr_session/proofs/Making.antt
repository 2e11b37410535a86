-- What a call of a controller that is up comes to, by how it ended.
use Rattle.std.proofs.Common.{◌≡◌, ◌⊎◌, inl, inr, ⊎_elim, ◌∙◌, sym, ap, subst, refl, ℕ, true, false, List, Option, Some, None, IsSome, Result, Ok, Err}
use Rattle.std.specs.Prelude.{IfOk, IsErrOf}
use Rattle.std.proofs.lemmas.Bool.{cond-false, cond-true}
use Rattle.adr_model.specs.Store.{State}
use Rattle.adr_model.specs.Change.{Change, after}
use Rattle.adr_model.specs.Lengths.{change_fits, next_log}
use Rattle.adr_law_journal.specs.Areas.{Found, found}
use Rattle.adr_law_journal.specs.Kept.{FindsEither}
use Rattle.adr_law_journal.proofs.Told.{is_some_of}
use Rattle.adr_journal.specs.declared.keeper.Keeper.{Ghosts}
use Rattle.adr_controller.specs.declared.refusal.Hindrance.{Hindrance}
use Rattle.adr_controller.specs.declared.refusal.Hindrance.TheVariants.{Down, Failed, Full, DiskFault, NoMemory}
use Rattle.adr_controller.specs.Running.{Running, IsInOrder}
use Rattle.adr_controller.specs.Did.{Calls, Commits}
use Rattle.adr_session.specs.declared.ending.ServeFault.{ServeFault}
use Rattle.adr_session.specs.declared.ending.ServeFault.TheVariants as faults
use Rattle.adr_session.specs.Talk.{Answered, committed}
use Rattle.adr_law_controller.proofs.Crashes.{Crashes, LeavesLaw, Left, OnlyNowLaw, call_failed, call_finds, stands_there}
use Rattle.adr_law_controller.specs.Keeping.{Stands}
use Rattle.adr_session.specs.Made.{led, HasNoState, Tells, MadeSo, Makes}

-- what came of a call, by how it ended
abbrev Came : {K : Type 0} → Ghosts K → Found State → Answered → List ℕ → List ℕ → Option Hindrance → Running K → Type 0
Came k f a told full None c = (told ≡ a.1) × Stands k a.0 c
Came k f a told full (Some Full) c = (full ≡ a.1) × Stands k a.0 c
Came k f a told full (Some DiskFault) c = c.state ≡ None
Came k f a told full (Some NoMemory) c = Stands k f c
Came k f a told full (Some Down) c = ⊥
Came k f a told full (Some Failed) c = ⊥

-- a change that fits is committed, and one that doesn't is not
fits_so : (f : Found State) (c : Change) (told full : List ℕ) → change_fits f.log f.state.store c ≡ true → committed f c told full ≡ (found (after f.state c) (next_log f.log f.state.store c), told)
fits_so f c told full fits = cond-true (change_fits f.log f.state.store c) (found (after f.state c) (next_log f.log f.state.store c), told) (f, full) fits

full_so : (f : Found State) (c : Change) (told full : List ℕ) → change_fits f.log f.state.store c ≡ false → committed f c told full ≡ (f, full)
full_so f c told full not_fits = cond-false (change_fits f.log f.state.store c) (found (after f.state c) (next_log f.log f.state.store c), told) (f, full) not_fits

module _ {K : Type 0} (k : Ghosts K) (changes : State → Option Change) (old new : Running K) (how : Option Hindrance) (order : IsInOrder k old) (calls : Calls k changes old new how) (f : Found State) (stands : Stands k f old) where
  still : new ≡ old → Stands k f new
  still same = subst (λ c. Stands k f c) (sym same) stands

  -- where nothing is to be changed
  idle : changes f.state ≡ None → (told full : List ℕ) → (h : Option Hindrance) → how ≡ h → Came k f (f, told) told full h new
  idle none told full None is = (refl, still (calls.unchanged f.state stands.0 none))
  idle none told full (Some NoMemory) is = still (calls.unchanged f.state stands.0 none)
  idle none told full (Some Full) is = absurd (⊎_elim (λ e. cc (e, is)) (λ e. cc (e, is)) (calls.idle f.state stands.0 none))
  idle none told full (Some DiskFault) is = absurd (⊎_elim (λ e. cc (e, is)) (λ e. cc (e, is)) (calls.idle f.state stands.0 none))
  idle none told full (Some Down) is = absurd (⊎_elim (λ e. cc (e, is)) (λ e. cc (e, is)) (calls.idle f.state stands.0 none))
  idle none told full (Some Failed) is = absurd (⊎_elim (λ e. cc (e, is)) (λ e. cc (e, is)) (calls.idle f.state stands.0 none))

  module _ (c : Change) (makes : changes f.state ≡ Some c) where
    commits : Commits k f.state c old new how
    commits = calls.commits f.state c stands.0 makes

    -- the change fits where it was committed, or its disk failed
    fits : (how ≡ None) ⊎ (how ≡ Some DiskFault) → (told full : List ℕ) → committed f c told full ≡ (found (after f.state c) (next_log f.log f.state.store c), told)
    fits is told full = fits_so f c told full (commits.within is f.log stands.1)

    beyond : how ≡ Some Full → (told full : List ℕ) → committed f c told full ≡ (f, full)
    beyond is told full = full_so f c told full (commits.beyond is f.log stands.1)

    kept : (told full : List ℕ) → (h : Option Hindrance) → how ≡ h → Came k f (committed f c told full) told full h new
    kept told full None is =
        subst (λ (a : Answered). (told ≡ a.1) × Stands k a.0 new) (sym (fits (inl is) told full)) (refl, (commits.done is, commits.stands is f.log stands.1))
    kept told full (Some Full) is = subst (λ (a : Answered). (full ≡ a.1) × Stands k a.0 new) (sym (beyond is told full)) (refl, still (commits.full is))
    kept told full (Some DiskFault) is = (commits.fault is).0
    kept told full (Some NoMemory) is = ((commits.no_memory is).0 ∙ stands.0, (commits.still_there is).at f stands.1)
    kept told full (Some Down) is = absurd (cc (calls.down.0 is, (order.up f.state stands.0).1))
    kept told full (Some Failed) is = absurd (cc ((calls.failed.0 is).1, stands.0))

  came : (told full : List ℕ) → (m : Option Change) → changes f.state ≡ m → Came k f (led f m told full) told full how new
  came told full None is = idle is told full how refl
  came told full (Some c) is = kept c is told full how refl

-- ---- what is told of it

module _ {K V : Type 0} (items : V → List ℕ) (k : Ghosts K) (f : Found State) (a : Answered) (said full : List ℕ) (new : Running K) where
  without_memory : (h : Option Hindrance) → ¬ (h ≡ Some DiskFault) → Came k f a said full h new → Stands k f new ⊎ Stands k a.0 new
  without_memory None not_disk came = inr came.1
  without_memory (Some Full) not_disk came = inr came.1
  without_memory (Some DiskFault) not_disk came = absurd (not_disk refl)
  without_memory (Some NoMemory) not_disk came = inl came
  without_memory (Some Down) not_disk came = absurd came
  without_memory (Some Failed) not_disk came = absurd came

  told_so : (h : Option Hindrance) (r : Result V ServeFault) → Came k f a said full h new → Tells items said full h r → MadeSo items k f a r new
  told_so None (Ok v) came tells = (tells ∙ came.0, came.1)
  told_so (Some Full) (Ok v) came tells = (tells ∙ came.0, came.1)
  told_so (Some DiskFault) (Ok v) came tells = absurd tells
  told_so (Some NoMemory) (Ok v) came tells = absurd tells
  told_so (Some Down) (Ok v) came tells = absurd tells
  told_so (Some Failed) (Ok v) came tells = absurd tells
  told_so None (Err faults.Disk) came tells = absurd tells
  told_so (Some Full) (Err faults.Disk) came tells = absurd tells
  told_so (Some DiskFault) (Err faults.Disk) came tells = came
  told_so (Some NoMemory) (Err faults.Disk) came tells = absurd tells
  told_so (Some Down) (Err faults.Disk) came tells = absurd came
  told_so (Some Failed) (Err faults.Disk) came tells = absurd came
  told_so h (Err faults.Clock) came tells = absurd tells
  told_so h (Err faults.NoMemory) came tells = without_memory h tells came

still_up : {K V : Type 0} (items : V → List ℕ) (k : Ghosts K) (f : Found State) (a : Answered) (new : Running K) (r : Result V ServeFault) → MadeSo items k f a r new → IfOk r (λ _. IsSome new.state)
still_up items k f a new (Ok v) made = is_some_of new.state a.0.state made.1.0
still_up items k f a new (Err e) made = tt

no_state : {K : Type 0} (k : Ghosts K) (f : Found State) (a : Answered) (said full : List ℕ) (new : Running K) (h : Option Hindrance) → Came k f a said full h new → HasNoState h → h ≡ Some DiskFault
no_state k f a said full new None came without = absurd without
no_state k f a said full new (Some Full) came without = absurd without
no_state k f a said full new (Some DiskFault) came without = refl
no_state k f a said full new (Some NoMemory) came without = absurd without
no_state k f a said full new (Some Down) came without = absurd came
no_state k f a said full new (Some Failed) came without = absurd came

disk_so : {V : Type 0} (items : V → List ℕ) (said full : List ℕ) (how : Option Hindrance) (r : Result V ServeFault) → Tells items said full how r → IsErrOf r faults.Disk → HasNoState how
disk_so items said full how (Ok v) tells is = absurd (cc is)
disk_so items said full how (Err faults.Disk) tells is = tells
disk_so items said full how (Err faults.Clock) tells is = absurd tells
disk_so items said full how (Err faults.NoMemory) tells is = absurd (cc is)

module _ {K V : Type 0} (items : V → List ℕ) (k : Ghosts K) (leaves : LeavesLaw k) (only_now : OnlyNowLaw k)
    (changes : State → Option Change) (answers : Found State → Answered) (old new : Running K) (how : Option Hindrance) (r : Result V ServeFault)
    (order : IsInOrder k old) (up : IsSome old.state) (calls : Calls k changes old new how)
    (so : (f : Found State) → Stands k f old → (said : List ℕ) × (full : List ℕ) × (answers f ≡ led f (changes f.state) said full) × Tells items said full how r) where
  -- where it stands
  there : (f : Found State) × Stands k f old
  there = stands_there k old order up

  made : (f : Found State) → Stands k f old → MadeSo items k f (answers f) r new
  made f stands =
      let t = so f stands in
      subst (λ (a : Answered). MadeSo items k f a r new) (sym t.2)
      (told_so items k f _ t.0 t.1 new how r (came k changes old new how order calls f stands t.0 t.1 (changes f.state) refl) t.3)

  -- what a start finds, whenever a crash comes, and from then on
  found_so : (f : Found State) → Stands k f old → Crashes k old.keeper new.keeper (FindsEither f.state (answers f).0.state) × Left k old.keeper new.keeper (FindsEither f.state (answers f).0.state)
  found_so f stands =
      let t = so f stands in
      subst (λ (a : Answered). Crashes k old.keeper new.keeper (FindsEither f.state a.0.state) × Left k old.keeper new.keeper (FindsEither f.state a.0.state)) (sym t.2)
      (call_finds k changes old new how calls leaves only_now order f stands (FindsEither f.state (led f (changes f.state) t.0 t.1).0.state) (λ x finds. inl finds)
      (λ c makes fits x finds.
      subst (λ (a : Answered). FindsEither f.state a.0.state x) (sym (ap (λ (m : Option Change). led f m t.0 t.1) makes ∙ fits_so f c t.0 t.1 fits)) finds))

  pub makes : Makes items k answers old new r
  makes = record {
    up = still_up items k there.0 (answers there.0) new r (made there.0 there.1);
    made = made;
    any_moment = λ f stands. (found_so f stands).0;
    left = λ f stands. (found_so f stands).1;
    told = calls.still_told.1;
    disk = λ is.
        let t = so there.0 there.1 in
        let came_to = came k changes old new how order calls there.0 there.1 t.0 t.1 (changes there.0.state) refl in
        call_failed k changes old new how calls there.0.state there.1.0 (no_state k there.0 _ t.0 t.1 new how came_to (disk_so items t.0 t.1 how r t.3 is));
    disk_never_falls = calls.later;
  }

-- ---- what was told is framed

-- an answer is made of an answer, or memory is wanting for that
abbrev Follows : {V W : Type 0} → (V → List ℕ) → (W → List ℕ) → Result V ServeFault → Result W ServeFault → Type 0
Follows items framed (Ok v) (Ok w) = framed w ≡ items v
Follows items framed (Ok v) (Err e) = e ≡ faults.NoMemory
Follows items framed (Err e) (Ok w) = ⊥
Follows items framed (Err e) (Err d) = d ≡ e

module _ {K V W : Type 0} (items : V → List ℕ) (framed : W → List ℕ) (k : Ghosts K) (answers : Found State → Answered) (old new : Running K) where
  follows_made : (f : Found State) (a : Answered) (r : Result V ServeFault) (out : Result W ServeFault) → Follows items framed r out → MadeSo items k f a r new → MadeSo framed k f a out new
  follows_made f a (Ok v) (Ok w) same made = (same ∙ made.0, made.1)
  follows_made f a (Ok v) (Err e) same made = subst (λ (x : ServeFault). MadeSo framed k f a (Err x) new) (sym same) (inr made.1)
  follows_made f a (Err e) (Ok w) same made = absurd same
  follows_made f a (Err e) (Err d) same made = subst (λ (x : ServeFault). MadeSo framed k f a (Err x) new) (sym same) (by e made)
    where
      by : (e : ServeFault) → MadeSo items k f a (Err e) new → MadeSo framed k f a (Err e) new
      by faults.Disk made = made
      by faults.Clock made = made
      by faults.NoMemory made = made

  follows_up : (r : Result V ServeFault) (out : Result W ServeFault) → Follows items framed r out → IfOk r (λ _. IsSome new.state) → IfOk out (λ _. IsSome new.state)
  follows_up (Ok v) (Ok w) same up = up
  follows_up (Ok v) (Err e) same up = tt
  follows_up (Err e) (Ok w) same up = absurd same
  follows_up (Err e) (Err d) same up = tt

  follows_disk : (r : Result V ServeFault) (out : Result W ServeFault) → Follows items framed r out → IsErrOf out faults.Disk → IsErrOf r faults.Disk
  follows_disk (Ok v) (Ok w) same is = absurd (cc is)
  follows_disk (Ok v) (Err e) same is = absurd (cc (same, is))
  follows_disk (Err e) (Ok w) same is = absurd same
  follows_disk (Err e) (Err d) same is = cc (same, is)

  framed_so : (r : Result V ServeFault) (out : Result W ServeFault) → Makes items k answers old new r → Follows items framed r out → Makes framed k answers old new out
  framed_so r out makes follows = record {
    up = follows_up r out follows makes.up;
    made = λ f stands. follows_made f (answers f) r out follows (makes.made f stands);
    any_moment = makes.any_moment;
    left = makes.left;
    told = makes.told;
    disk = λ is. makes.disk (follows_disk r out follows is);
    disk_never_falls = makes.disk_never_falls;
  }

  pub framed_ok : (r : Result V ServeFault) (out : Result W ServeFault) (v : V) (w : W) → Makes items k answers old new r → r ≡ Ok v → out ≡ Ok w → framed w ≡ items v → Makes framed k answers old new out
  framed_ok r out v w makes is so same =
      framed_so r out makes (subst (λ (r : Result V ServeFault). Follows items framed r out) (sym is) (subst (λ (o : Result W ServeFault). Follows items framed (Ok v) o) (sym so) same))

  pub framed_short : (r : Result V ServeFault) (out : Result W ServeFault) (v : V) → Makes items k answers old new r → r ≡ Ok v → out ≡ Err faults.NoMemory → Makes framed k answers old new out
  framed_short r out v makes is so =
      framed_so r out makes (subst (λ (r : Result V ServeFault). Follows items framed r out) (sym is) (subst (λ (o : Result W ServeFault). Follows items framed (Ok v) o) (sym so) refl))

  pub framed_err : (r : Result V ServeFault) (out : Result W ServeFault) (e : ServeFault) → Makes items k answers old new r → r ≡ Err e → out ≡ Err e → Makes framed k answers old new out
  framed_err r out e makes is so =
      framed_so r out makes (subst (λ (r : Result V ServeFault). Follows items framed r out) (sym is) (subst (λ (o : Result W ServeFault). Follows items framed (Err e) o) (sym so) refl))
