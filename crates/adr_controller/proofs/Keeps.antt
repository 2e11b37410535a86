-- What keeping a change comes to, by how the calls of its keeper ended.
use Rattle.std.proofs.Common.{◌≡◌, inl, inr, ⊎_elim, refl, sym, ap, subst, ◌∙◌, ℕ, ◌+◌, ◌≤◌, max, Bool, false, true, Option, Some, None, IfSome, IsSome, Result, Ok, Err, arith}
use Rattle.std.specs.Prelude.{◌<◌, ◌↔◌, IsErrOf, if◌then◌else◌}
use Rattle.adr_disk.specs.Disk.{Among, LeavesOnly}
use Rattle.adr_disk.proofs.Moments.{joined}
use Rattle.adr_model.specs.Store.{State}
use Rattle.adr_model.specs.Change.{Change, after}
use Rattle.adr_model.specs.Lengths.{Log, change_fits, change_length, image_length, is_due, next_log}
use Rattle.adr_law_journal.specs.Areas.{Found, found, Started}
use Rattle.adr_law_journal.specs.Kept.{FindsEither, FindsState}
use Rattle.adr_law_journal.proofs.Told.{at_told, if_told, is_some_of, some_is}
use Rattle.adr_journal.specs.Ended.{found_after}
use Rattle.adr_journal.specs.declared.keeper.Keeper.{Ghosts}
use Rattle.adr_journal.specs.declared.keeper.KeeperRefusal.{KeeperRefusal}
use Rattle.adr_journal.specs.declared.keeper.KeeperRefusal.TheVariants as keeps
use Rattle.adr_controller.specs.declared.refusal.Hindrance.{Hindrance}
use Rattle.adr_controller.specs.declared.refusal.Hindrance.TheVariants.{Down, Failed, Full, DiskFault, NoMemory}
use Rattle.adr_controller.specs.Running.{Running, IsUp, IsInOrder}
use Rattle.adr_controller.specs.Able.{CanCommit}
use Rattle.adr_controller.specs.Ended.{hindrance_of, kept_as}
use Rattle.adr_controller.specs.Did.{Commits, IsBoundedBy, KeepsAll, KeepsChange, MadeReady, Ran, up_behind}
use Rattle.adr_controller.proofs.Bounding.{new_bound, same_bound}

-- how a call ended that was hindered
hindered_by : {T : Type 0} (h : Hindrance) (result : Result T Hindrance) (y : Hindrance) → result ≡ Err y → y ≡ h → Some h ≡ hindrance_of result
hindered_by {T} h result y is gives = sym (ap (hindrance_of {T = T}) (is ∙ ap (λ e. let x : Result T Hindrance = Err e in x) gives))

-- what keeping a change came to, told by how the call ended
pub ended_so : {K T : Type 0} (k : Ghosts K) (s : State) (c : Change) (old new : K) (t : State) (h : Hindrance) (result : Result T Hindrance) (y : Hindrance) → result ≡ Err y → y ≡ h
    → KeepsChange k s c (up_behind None old s) (up_behind (Some h) new t) (Some h) → KeepsChange k s c (up_behind None old s) (up_behind (hindrance_of result) new t) (hindrance_of result)
ended_so k s c old new t h result y is gives keeps = subst (λ how. KeepsChange k s c (up_behind None old s) (up_behind how new t) how) (hindered_by h result y is gives) keeps

abbrev run : {K : Type 0} → K → Option State → Bool → Running K
run keeper state down = record { keeper = keeper; state = state; down = down }

module _ {K : Type 0} (k : Ghosts K) where
  pub same_running : (keeper : K) (state : Option State) (t : State) (down : Bool) → state ≡ Some t → down ≡ false → up_behind None keeper t ≡ run keeper state down
  same_running keeper state t down is up = ap (λ x. run keeper x false) (sym is) ∙ ap (λ x. run keeper state x) (sym up)

  pub same_failed : (keeper : K) (state : Option State) (t : State) (down : Bool) → state ≡ None → down ≡ false → up_behind (Some DiskFault) keeper t ≡ run keeper state down
  same_failed keeper state t down is up = ap (λ x. run keeper x false) (sym is) ∙ ap (λ x. run keeper state x) (sym up)

  pub same_hindered : (h : Hindrance) → (h ≡ DiskFault → ⊥) → (keeper : K) (t : State) (down : Bool) → down ≡ false → up_behind (Some h) keeper t ≡ run keeper (Some t) down
  same_hindered Down other keeper t down up = ap (λ x. run keeper (Some t) x) (sym up)
  same_hindered Failed other keeper t down up = ap (λ x. run keeper (Some t) x) (sym up)
  same_hindered Full other keeper t down up = ap (λ x. run keeper (Some t) x) (sym up)
  same_hindered DiskFault other keeper t down up = absurd (other refl)
  same_hindered NoMemory other keeper t down up = ap (λ x. run keeper (Some t) x) (sym up)

  -- a commit of what is in memory, told of the state that the controller has
  pub of_state : (x s : State) (c : Change) (keeper : K) (state : Option State) (down : Bool) (old mid new : Running K) (how : Option Hindrance) → run keeper state down ≡ old → state ≡ Some x → down ≡ false → old.state ≡ Some s
      → mid ≡ new → Commits k x c (up_behind None keeper x) mid how → Commits k s c old new how
  of_state x s c keeper state down old mid new how view was up is same commits =
      subst (λ v. Commits k s c old v how) same (subst (λ v. Commits k s c v mid how) (same_running keeper state x down was up ∙ view)
      (subst (λ y. Commits k y c (up_behind None keeper x) mid how) (some_is x s (sym was ∙ ap (λ v. v.state) view ∙ is)) commits))

-- what tells the same tells as much
pub same_told : {T : Type 0} {old new : Option T} → new ≡ old → IsSome new ↔ IsSome old
same_told is = (λ some. subst (λ o. IsSome o) is some, λ some. subst (λ o. IsSome o) (sym is) some)

module _ {K : Type 0} (k : Ghosts K)
    (leaves : (keeper : K) (f : Found State) (t : Started State) → k.is_at keeper f → k.is_failed keeper ≡ false → IsSome (k.told keeper) → k.may_leave keeper t → t ≡ Ok f)
    (only_now : (keeper : K) (t : Started State) → k.left_since keeper (k.moment keeper) t → k.may_leave keeper t)
    (old : K) (s : State) (c : Change) (up : IsUp k old s) (able : CanCommit k s c) where
  abbrev Moments : K → K → Type 0
  Moments before new = IfSome (k.told old) (λ _. LeavesOnly k.moment k.left_since before new (FindsEither s (after s c)))

  abbrev Left : K → Type 0
  Left new = IfSome (k.told old) (λ _. Among (FindsEither s (after s c)) (k.may_leave new))

  finds : (x : Started State) → IsSome (k.told old) → k.may_leave old x → FindsEither s (after s c) x
  finds x told left = inl (up.log, leaves old (found s up.log) x up.at up.running told left)

  order : (new : K) (t : State) → IsUp k new t → IsInOrder k (up_behind None new t)
  order new t is_up = record {
    up = λ x is. (subst (λ (y : State). IsUp k new y) (some_is t x is) is_up, refl);
    faulty = λ none down. absurd (cc none);
  }

  abbrev GoesOnTelling : K → Type 0
  GoesOnTelling new = IsSome (k.told new) ↔ IsSome (k.told old)

  -- all that the commit writes fits on the disk
  abbrev Fits : Type 0
  Fits = (log : Log) → k.is_at old (found s log) → change_fits log s.store c ≡ true

  -- an image that it writes, and its record
  abbrev image_of : Log → ℕ
  image_of log = if is_due log c then image_length s.store else 0

  abbrev record_length : ℕ
  record_length = 5 + change_length c

  -- how long the disk becomes
  abbrev Bounded : K → Type 0
  Bounded new = (log : Log) (file image longest : ℕ) → k.is_at old (found s log) → IsBoundedBy k old file image longest → IsBoundedBy k new file (max image (image_of log)) (max longest record_length)

  -- a call of the disk failed
  faulted : (new : K) (t : State) → Ran k old s c (Some DiskFault) new → (k.faults old < k.faults new) × (k.is_failed new ≡ true) → GoesOnTelling new → Fits → Moments old new → Left new → Bounded new
      → KeepsChange k s c (up_behind None old s) (up_behind (Some DiskFault) new t) (Some DiskFault)
  faulted new t ran fault told fits moments left bounded = record {
    commits = record {
      done = λ h. absurd (cc h);
      stands = λ h. absurd (cc h);
      full = λ h. absurd (cc h);
      no_memory = λ h. absurd (cc h);
      still_there = λ h. absurd (cc h);
      fault = λ h. (refl, fault.0);
      still_up = refl;
      later = omega (arith, fault.0);
      still_told = told;
      within = λ h. fits;
      beyond = λ h. absurd (cc h);
      any_moment = moments;
      left = left;
      acknowledged = λ h. absurd (cc h);
      bounded = bounded;
      ran = ran;
    };
    in_order = record { up = λ x is. absurd (cc is); faulty = λ none down. fault.1 };
    not_down = λ h. cc h;
    not_failed = λ h. cc h;
  }

  module _ (new : K) (kept : KeepsAll k old new) (later : k.faults old ≤ k.faults new) (at : (f : Found State) → k.is_at old f → k.is_at new f)
      (within : (file image longest : ℕ) → k.is_within old file image longest → k.is_within new file image longest) where
    tells_on : GoesOnTelling new
    tells_on = same_told kept.content_stays

    still : k.is_failed new ≡ false → IsUp k new s
    still running = record { log = up.log; at = at (found s up.log) up.at; running = running; formed = up.formed }

    moments_kept : Moments old new
    moments_kept = if_told (k.told old) (λ _. LeavesOnly k.moment k.left_since old new (FindsEither s (after s c))) (λ t tells. record {
      later = omega (arith, kept.moment_stays);
      each = λ x left. finds x (is_some_of (k.told old) t tells) (only_now old x (kept.past_stays (k.moment old) x left));
      before = λ n x le left. inl (kept.past_stays n x left);
    })

    left_kept : Left new
    left_kept = if_told (k.told old) (λ _. Among (FindsEither s (after s c)) (k.may_leave new)) (λ t tells x left. finds x (is_some_of (k.told old) t tells) (kept.no_more x left))

    bound_kept : Bounded new
    bound_kept log file image longest was b = same_bound k old new within file image longest (image_of log) record_length b

    -- memory was wanting, and nothing of what a start finds has changed
    pub wanted : k.is_failed new ≡ false → Ran k old s c (Some NoMemory) new → KeepsChange k s c (up_behind None old s) (up_behind (Some NoMemory) new s) (Some NoMemory)
    wanted running ran = record {
      commits = record {
        done = λ h. absurd (cc h);
        stands = λ h. absurd (cc h);
        full = λ h. absurd (cc h);
        no_memory = λ h. (refl, kept);
        still_there = λ h. record { at = at; failed = running ∙ sym up.running };
        fault = λ h. absurd (cc h);
        still_up = refl;
        later = later;
        still_told = tells_on;
        within = λ h. ⊎_elim (λ none. absurd (cc none)) (λ fault. absurd (cc fault)) h;
        beyond = λ h. absurd (cc h);
        any_moment = moments_kept;
        left = left_kept;
        acknowledged = λ h. absurd (cc h);
        bounded = bound_kept;
        ran = ran;
      };
      in_order = order new s (still running);
      not_down = λ h. cc h;
      not_failed = λ h. cc h;
    }

    full_so : new ≡ old → ((log : Log) → k.is_at old (found s log) → change_fits log s.store c ≡ false) → KeepsChange k s c (up_behind None old s) (up_behind (Some Full) new s) (Some Full)
    full_so same beyond = record {
      commits = record {
        done = λ h. absurd (cc h);
        stands = λ h. absurd (cc h);
        full = λ h. ap (λ (x : K). up_behind None x s) same;
        no_memory = λ h. absurd (cc h);
        still_there = λ h. absurd (cc h);
        fault = λ h. absurd (cc h);
        still_up = refl;
        later = later;
        still_told = tells_on;
        within = λ h. ⊎_elim (λ none. absurd (cc none)) (λ fault. absurd (cc fault)) h;
        beyond = λ h. beyond;
        any_moment = moments_kept;
        left = left_kept;
        acknowledged = λ h. absurd (cc h);
        bounded = bound_kept;
        ran = same;
      };
      in_order = order new s (still (ap k.is_failed same ∙ up.running));
      not_down = λ h. cc h;
      not_failed = λ h. cc h;
    }

    -- it wasn't made ready
    pub refused : (e : KeeperRefusal) → (IsErrOf {T = Unit {0}} (Err e) keeps.Failed ↔ (k.is_failed old ≡ true))
        → (IsErrOf {T = Unit {0}} (Err e) keeps.Full → (log : Log) → k.is_at old (found s log) → (k.is_failed old ≡ false) × (change_fits log s.store c ≡ false))
        → (IsErrOf {T = Unit {0}} (Err e) keeps.DiskFault → Fits)
        → (IsErrOf {T = Unit {0}} (Err e) keeps.Full → new ≡ old) → (IsErrOf {T = Unit {0}} (Err e) keeps.DiskFault → (k.faults old < k.faults new) × (k.is_failed new ≡ true))
        → (IsErrOf {T = Unit {0}} (Err e) keeps.NoMemory → k.is_failed new ≡ k.is_failed old) → k.prepares old (Some e) new
        → KeepsChange k s c (up_behind None old s) (up_behind (Some (kept_as e)) new s) (Some (kept_as e))
    refused keeps.DiskFault failed full fits same fault no_memory prepares = faulted new s (inl prepares) (fault refl) tells_on (fits refl) moments_kept left_kept bound_kept
    refused keeps.Failed failed full fits same fault no_memory prepares = absurd (cc (failed.0 refl, up.running))
    refused keeps.Full failed full fits same fault no_memory prepares = full_so (same refl) (λ log was. (full refl log was).1)
    refused keeps.NoMemory failed full fits same fault no_memory prepares = wanted (no_memory refl ∙ up.running) (inr (inl prepares))

  -- it was made ready, and then committed or not
  module _ (ready new : K) (made : MadeReady k old s c ready) (kept : KeepsAll k old ready) (later : k.faults old ≤ k.faults ready)
      (within : (file image longest : ℕ) → k.is_within old file image longest → k.is_within ready file image longest)
      (fits : Fits) (told : IsSome (k.told new) ↔ IsSome (k.told ready)) (counts : k.faults ready ≤ k.faults new)
      (moments : (f : Found State) → k.is_at ready f → k.is_prepared ready f.state c → k.can_follow f.state c → IfSome (k.told ready) (λ _. LeavesOnly k.moment k.left_since ready new (FindsEither f.state (after f.state c))))
      (left : (f : Found State) → k.is_at ready f → k.is_prepared ready f.state c → k.can_follow f.state c → IfSome (k.told ready) (λ _. Among (FindsEither f.state (after f.state c)) (k.may_leave new)))
      (writes : (f : Found State) → k.is_at ready f → k.is_prepared ready f.state c → k.can_follow f.state c → (file image longest : ℕ) → k.is_within ready file image longest
      → k.is_within new file (max image (if is_due f.log c then image_length f.state.store else 0)) (max longest (5 + change_length c))) where
    here : k.is_at ready (found s up.log)
    here = made.at (found s up.log) up.at

    moments_so : Moments old new
    moments_so = if_told (k.told old) (λ _. LeavesOnly k.moment k.left_since old new (FindsEither s (after s c))) (λ t tells.
        joined k.moment k.left_since old ready new (FindsEither s (after s c))
        (at_told (k.told old) (λ _. LeavesOnly k.moment k.left_since old ready (FindsEither s (after s c))) t tells (moments_kept ready kept later made.at within))
        (at_told (k.told ready) (λ _. LeavesOnly k.moment k.left_since ready new (FindsEither s (after s c))) t (kept.content_stays ∙ tells) (moments (found s up.log) here made.is_prepared able.follows)))

    left_so : Left new
    left_so = if_told (k.told old) (λ _. Among (FindsEither s (after s c)) (k.may_leave new)) (λ t tells x was.
        at_told (k.told ready) (λ _. Among (FindsEither s (after s c)) (k.may_leave new)) t (kept.content_stays ∙ tells) (left (found s up.log) here made.is_prepared able.follows) x was)

    told_so : GoesOnTelling new
    told_so = let there = same_told {old = k.told old} {new = k.told ready} kept.content_stays in (λ some. there.0 (told.0 some), λ some. told.1 (there.1 some))

    bound_so : Bounded new
    bound_so log file image longest was b =
        new_bound k old new (image_of log) record_length (λ file i n is. writes (found s log) (made.at (found s log) was) made.is_prepared able.follows file i n (within file i n is)) file image longest b

    pub done : (t : State) → t ≡ after s c → ((f : Found State) → k.is_at ready f → k.is_prepared ready f.state c → k.can_follow f.state c → k.is_at new (found_after f c)) → k.is_failed new ≡ false
        → ((f : Found State) → k.is_at ready f → k.is_prepared ready f.state c → k.can_follow f.state c → k.commits ready c None new)
        → KeepsChange k s c (up_behind None old s) (up_behind None new t) None
    done t is at running commits = subst (λ (x : State). KeepsChange k s c (up_behind None old s) (up_behind None new x) None) (sym is) (record {
      commits = record {
        done = λ h. refl;
        stands = λ h log was. at (found s log) (made.at (found s log) was) made.is_prepared able.follows;
        full = λ h. absurd (cc h);
        no_memory = λ h. absurd (cc h);
        still_there = λ h. absurd (cc h);
        fault = λ h. absurd (cc h);
        still_up = refl;
        later = omega (arith, later, counts);
        still_told = told_so;
        within = λ h. fits;
        beyond = λ h. absurd (cc h);
        any_moment = moments_so;
        left = left_so;
        acknowledged = λ h. if_told (k.told old) (λ _. Among (FindsState (after s c)) (k.may_leave new)) (λ t tells x was.
            (next_log up.log s.store c, leaves new (found_after (found s up.log) c) x now running (told.1 (is_some_of (k.told ready) t (kept.content_stays ∙ tells))) was));
        bounded = bound_so;
        ran = (ready, made, commits (found s up.log) here made.is_prepared able.follows);
      };
      in_order = order new (after s c) (record { log = next_log up.log s.store c; at = now; running = running; formed = able.formed });
      not_down = λ h. cc h;
      not_failed = λ h. cc h;
    })
      where
        now : k.is_at new (found_after (found s up.log) c)
        now = at (found s up.log) here made.is_prepared able.follows

    pub failed : (t : State) (e : KeeperRefusal) → IsErrOf {T = Unit {0}} (Err e) keeps.DiskFault × (k.faults ready < k.faults new) × (k.is_failed new ≡ true)
        → ((f : Found State) → k.is_at ready f → k.is_prepared ready f.state c → k.can_follow f.state c → k.commits ready c (Some e) new)
        → KeepsChange k s c (up_behind None old s) (up_behind (Some (kept_as e)) new t) (Some (kept_as e))
    failed t keeps.DiskFault fault commits = faulted new t (inr (ready, made, commits (found s up.log) here made.is_prepared able.follows)) (omega (arith, later, fault.1), fault.2) told_so fits moments_so left_so bound_so
    failed t keeps.Failed fault commits = absurd (cc fault.0)
    failed t keeps.Full fault commits = absurd (cc fault.0)
    failed t keeps.NoMemory fault commits = absurd (cc fault.0)
