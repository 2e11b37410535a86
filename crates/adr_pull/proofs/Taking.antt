-- What a reply makes of a node, by what the controller's call says.
use Rattle.std.proofs.Common.{◌≡◌, ◌⊎◌, ◌<◌, inl, inr, ⊎_elim, Bool, true, false, Option, Some, None, IfOk, IsSome, Result, Ok, Err, refl, sym, ap, ◌∙◌, subst, cond}
use Rattle.std.specs.Bool.{then_some}
use Rattle.adr_disk.specs.Disk.{Among}
use Rattle.adr_disk.proofs.Told.{if_told, at_told, some_of, is_some_of}
use Rattle.adr_call.specs.declared.refusal.TakeRefusal.{TakeRefusal}
use Rattle.adr_call.specs.declared.refusal.Table.TheVariants.{Log}
use Rattle.adr_model.specs.Change.{Change, after}
use Rattle.adr_model.specs.Collect.{quarantine}
use Rattle.adr_model.specs.Lengths.{change_fits, log_limit}
use Rattle.adr_model.specs.Refused.{full, take_refused}
use Rattle.adr_model.specs.Serve.{Reply}
use Rattle.adr_model.specs.Store.{State}
use Rattle.adr_model.specs.Take.{take}
use Rattle.adr_law_journal.specs.Areas.{Found}
use Rattle.adr_law_journal.specs.Kept.{FindsEither}
use Rattle.adr_journal.specs.Ended.{found_after}
use Rattle.adr_journal.specs.declared.keeper.Keeper.{Ghosts}
use Rattle.adr_controller.specs.declared.refusal.Hindrance.{Hindrance}
use Rattle.adr_controller.specs.declared.refusal.Hindrance.TheVariants.{Down, Failed, Full, DiskFault, NoMemory}
use Rattle.adr_controller.specs.Able.{change_of_taken, reply_shows, taken_in}
use Rattle.adr_controller.specs.Running.{Running, IsInOrder}
use Rattle.adr_controller.specs.Did.{Calls, Commits}
use Rattle.adr_law_controller.proofs.Crashes.{Crashes, LeavesLaw, OnlyNowLaw, call_failed, call_finds}
use Rattle.adr_pull.specs.declared.came.Came.{Came}
use Rattle.adr_pull.specs.declared.came.Came.TheVariants.{Declined}
use Rattle.adr_pull.specs.declared.fault.PullFault.{PullFault}
use Rattle.adr_pull.specs.declared.fault.PullFault.TheVariants as faults
use Rattle.adr_pull.specs.Fetch.{Made, committed, declines, taken, took}
use Rattle.adr_law_controller.specs.Keeping.{Stands}
use Rattle.adr_pull.specs.Told.{FindsDue, HasFallen, IsHindered, ReactsSo}

module _ {K : Type 0} (k : Ghosts K) (f : Found State) (r : Reply) (old new : Running K) (how : Option Hindrance)
    (calls : Calls k (taken_in r) old new how) (stands : Stands k f old) where
  abbrev Fits : Change → Bool
  Fits c = change_fits f.log f.state.store c

  commits : (c : Change) → taken_in r f.state ≡ Some c → Commits k f.state c old new how
  commits c makes = calls.commits f.state c stands.0 makes

  -- no change was to be made
  unmade : taken_in r f.state ≡ None → Stands k f new
  unmade none = subst (λ (c : Running K). Stands k f c) (sym (calls.unchanged f.state stands.0 none)) stands

  -- it was made
  done : how ≡ None → (c : Change) → taken_in r f.state ≡ Some c → (Fits c ≡ true) × Stands k (found_after f c) new
  done is c makes =
      let did = commits c makes in
      (did.within (inl is) f.log stands.1, (did.done is, did.stands is f.log stands.1))

  -- the log is full
  filled : how ≡ Some Full → (c : Change) → taken_in r f.state ≡ Some c → (Fits c ≡ false) × Stands k f new
  filled is c makes =
      let did = commits c makes in
      (did.beyond is f.log stands.1, subst (λ (c : Running K). Stands k f c) (sym (did.full is)) stands)

  -- the disk failed
  fell : how ≡ Some DiskFault → (c : Change) → taken_in r f.state ≡ Some c → (Fits c ≡ true) × HasFallen k f.state
      (after f.state c) new
  fell is c makes =
      let did = commits c makes in (
        did.within (inr is) f.log stands.1,
        (
          (did.fault is).0,
          if_told (k.told new.keeper) (λ _. Among (FindsEither f.state (after f.state c)) (k.may_leave new.keeper)) (λ t told.
              let there = some_of (k.told old.keeper) (calls.still_told.0 (is_some_of (k.told new.keeper) t told)) in
              at_told (k.told old.keeper) _ there.0 there.1 did.left),
        ),
      )

  -- memory was wanting
  wanted : how ≡ Some NoMemory → Stands k f new
  wanted is = by (taken_in r f.state) refl
    where
      by : (m : Option Change) → taken_in r f.state ≡ m → Stands k f new
      by None none = unmade none
      by (Some c) makes = let did = commits c makes in ((did.no_memory is).0 ∙ stands.0, (did.still_there is).at f stands.1)

  -- it makes a change, if the log was full or the disk failed
  some_made : (h : Hindrance) → how ≡ Some h → (h ≡ NoMemory → ⊥) → (c : Change) × (taken_in r f.state ≡ Some c)
  some_made h is not = by (taken_in r f.state) refl
    where
      by : (m : Option Change) → taken_in r f.state ≡ m → (c : Change) × (taken_in r f.state ≡ Some c)
      by (Some c) makes = (c, makes)
      by None none = absurd (⊎_elim (λ so. cc (is, so)) (λ so. not (let same : Some h ≡ Some NoMemory = sym is
          ∙ so in cc)) (calls.idle f.state stands.0 none))

-- a controller that is up is neither down nor failed
module _ {K : Type 0} (k : Ghosts K) (r : Reply) (old new : Running K) (how : Option Hindrance) (calls : Calls k
    (taken_in r) old new how)
    (order : IsInOrder k old) (up : IsSome old.state) (h : Hindrance) (is : how ≡ Some h) where
  pub never_down : h ≡ Down → ⊥
  never_down down =
      let s = some_of old.state up in
      let so : how ≡ Some Down = is ∙ ap Some down in
      cc (calls.down.0 so, (order.up s.0 s.1).1)

  pub never_failed : h ≡ Failed → ⊥
  never_failed failed =
      let s = some_of old.state up in
      let so : how ≡ Some Failed = is ∙ ap Some failed in
      cc ((calls.failed.0 so).1, s.1)

-- and has a state behind what doesn't hinder it, and behind a full log; the count of faults rises where its disk failed
module _ {K : Type 0} (k : Ghosts K) (r : Reply) (old new : Running K) (how : Option Hindrance) (calls : Calls k
    (taken_in r) old new how) (up : IsSome old.state) where
  same_up : new ≡ old → IsSome new.state
  same_up same = subst (λ (c : Running K). IsSome c.state) (sym same) up

  made_up : (how ≡ None) ⊎ (how ≡ Some Full) → (s : State) → old.state ≡ Some s → (m : Option Change)
      → taken_in r s ≡ m → IsSome new.state
  made_up is s there None none = same_up (calls.unchanged s there none)
  made_up (inl is) s there (Some c) makes = is_some_of new.state (after s c) ((calls.commits s c there makes).done is)
  made_up (inr is) s there (Some c) makes = same_up ((calls.commits s c there makes).full is)

  pub up_after : (how ≡ None) ⊎ (how ≡ Some Full) → IsSome new.state
  up_after is = let s = some_of old.state up in made_up is s.0 s.1 (taken_in r s.0) refl

  pub hindered_up : (h : Hindrance) → how ≡ Some h → (result : Result Came PullFault) → IsHindered h result
      → IfOk result (λ _. IsSome new.state)
  hindered_up Full is result so = subst (λ (x : Result Came PullFault). IfOk x (λ _. IsSome new.state)) (sym so)
      (up_after (inr is))
  hindered_up DiskFault is result so = subst (λ (x : Result Came PullFault). IfOk x (λ _. IsSome new.state)) (sym so) tt
  hindered_up NoMemory is result so = subst (λ (x : Result Came PullFault). IfOk x (λ _. IsSome new.state)) (sym so) tt
  hindered_up Down is result so = absurd so
  hindered_up Failed is result so = absurd so

  pub hindered_disk : (h : Hindrance) → how ≡ Some h → (result : Result Came PullFault) → IsHindered h result
      → result ≡ Err faults.Disk → k.faults old.keeper < k.faults new.keeper
  hindered_disk Full is result so failed = absurd (cc (so, failed))
  hindered_disk DiskFault is result so failed = let s = some_of old.state up in call_failed k (taken_in r) old new how calls s.0 s.1 is
  hindered_disk NoMemory is result so failed = absurd (cc (so, failed))
  hindered_disk Down is result so failed = absurd so
  hindered_disk Failed is result so failed = absurd so

-- the disk is at fault, or memory was wanting
hindered_only : (h : Hindrance) (result : Result Came PullFault) (fault : PullFault) → IsHindered h result → result ≡ Err fault
    → (fault ≡ faults.Disk → ⊥) → (fault ≡ faults.NoMemory → ⊥) → ⊥
hindered_only Full result fault so is disk memory = cc (so, is)
hindered_only DiskFault result fault so is disk memory = disk (cc (so, is))
hindered_only NoMemory result fault so is disk memory = memory (cc (so, is))
hindered_only Down result fault so is disk memory = so
hindered_only Failed result fault so is disk memory = so

-- and neither the connection nor the lines
pub never_link : (h : Hindrance) (result : Result Came PullFault) → IsHindered h result → result ≡ Err faults.Link → ⊥
never_link h result so is = hindered_only h result faults.Link so is (λ e. cc e) (λ e. cc e)

pub never_write : (h : Hindrance) (result : Result Came PullFault) → IsHindered h result → result ≡ Err faults.Write → ⊥
never_write h result so is = hindered_only h result faults.Write so is (λ e. cc e) (λ e. cc e)

-- ---- what is due

pub committed_so : (f : Found State) (c : Change) (came : Came) → change_fits f.log f.state.store c ≡ true
    → committed f c came ≡ (found_after f c, came)
committed_so f c came fits = ap (λ (b : Bool). cond b (let m : Made = (found_after f c, came) in m) (declines f
    (full Log log_limit))) fits

committed_not : (f : Found State) (c : Change) (came : Came) → change_fits f.log f.state.store c ≡ false
    → committed f c came ≡ declines f (full Log log_limit)
committed_not f c came fits = ap (λ (b : Bool). cond b (let m : Made = (found_after f c, came) in m) (declines f
    (full Log log_limit))) fits

-- a refusal: behind a quarantine where it shows that the node was put back
refused_so : (f : Found State) (came : Came) (b : Bool) → b ≡ true → cond b (committed f (quarantine f.state) came)
    (let m : Made = (f, came) in m) ≡ committed f (quarantine f.state) came
refused_so f came b is = ap (λ (b : Bool). cond b (committed f (quarantine f.state) came) (let m : Made = (f, came) in m)) is

refused_not : (f : Found State) (came : Came) (b : Bool) → b ≡ false → cond b (committed f (quarantine f.state) came)
    (let m : Made = (f, came) in m) ≡ (f, came)
refused_not f came b is = ap (λ (b : Bool). cond b (committed f (quarantine f.state) came) (let m : Made = (f, came) in m)) is

shown_by : (b : Bool) (q c : Change) → then_some b q ≡ Some c → (b ≡ true) × (q ≡ c)
shown_by true q c is = (refl, cc is)
shown_by false q c is = absurd (cc is)

shown_so : (b : Bool) (q : Change) → b ≡ true → then_some b q ≡ Some q
shown_so b q is = ap (λ (b : Bool). then_some b q) is

shown_not : (b : Bool) (q : Change) → b ≡ false → then_some b q ≡ None
shown_not b q is = ap (λ (b : Bool). then_some b q) is

-- whatever change is made, it is what is due, if it fits
due_so : (f : Found State) (r : Reply) (t : Result Change TakeRefusal) (c : Change) → change_of_taken f.state t ≡ Some c
    → (came : Came) × (taken f r t ≡ committed f c came)
due_so f r (Ok d) c makes = let same : d ≡ c = cc makes in (took r d, ap (λ (x : Change). committed f x (took r d)) same)
due_so f r (Err refusal) c makes =
    let shown = shown_by (reply_shows refusal) (quarantine f.state) c makes in
    let came : Came = Declined (take_refused refusal) in
    (came, refused_so f came (reply_shows refusal) shown.0 ∙ ap (λ (x : Change). committed f x came) shown.1)

module _ {K : Type 0} (k : Ghosts K) (f : Found State) (r : Reply) (old new : Running K) (how : Option Hindrance)
    (calls : Calls k (taken_in r) old new how) (stands : Stands k f old) where
  abbrev pub due : Made
  due = taken f r (take f.state r)

  came_to : (m : Made) (came : Came) → due ≡ m → came ≡ m.1 → Stands k m.0 new → ReactsSo k f (Some due) (Ok came) new
  came_to m came is so there =
      (due, refl, so ∙ sym (ap (λ (m : Made). m.1) is), subst (λ (m : Made). Stands k m.0 new) (sym is) there)

  -- the reply was taken
  pub took_so : how ≡ None → (c : Change) (came : Came) → take f.state r ≡ Ok c → came ≡ took r c → ReactsSo k f
      (Some due) (Ok came) new
  took_so is c came takes so =
      let did = done k f r old new how calls stands is c (ap (change_of_taken f.state) takes) in
      came_to (found_after f c, took r c) came (ap (taken f r) takes ∙ committed_so f c (took r c) did.0) so did.1

  -- it was refused
  pub declined_so : how ≡ None → (refusal : TakeRefusal) (came : Came) → take f.state r ≡ Err refusal
      → came ≡ Declined (take_refused refusal) → ReactsSo k f (Some due) (Ok came) new
  declined_so is refusal came takes so = by (reply_shows refusal) refl
    where
      by : (b : Bool) → reply_shows refusal ≡ b → ReactsSo k f (Some due) (Ok came) new
      by true shows =
          let did = done k f r old new how calls stands is (quarantine f.state) (ap (change_of_taken f.state) takes
          ∙ shown_so (reply_shows refusal) (quarantine f.state) shows) in
          let told : Came = Declined (take_refused refusal) in
          came_to (found_after f (quarantine f.state), told) came
          (ap (taken f r) takes ∙ refused_so f told (reply_shows refusal) shows ∙ committed_so f
          (quarantine f.state) told did.0) so did.1
      by false shows =
          let told : Came = Declined (take_refused refusal) in
          came_to (f, told) came (ap (taken f r) takes ∙ refused_not f told (reply_shows refusal) shows) so
          (unmade k f r old new how calls stands (ap (change_of_taken f.state) takes ∙ shown_not (reply_shows refusal)
          (quarantine f.state) shows))

  -- the log has no room
  pub full_so : how ≡ Some Full → (came : Came) → came ≡ Declined (full Log log_limit) → ReactsSo k f (Some due) (Ok came) new
  full_so is came so =
      let some = some_made k f r old new how calls stands Full is (λ so. cc so) in
      let did = filled k f r old new how calls stands is some.0 some.1 in
      let d = due_so f r (take f.state r) some.0 some.1 in
      came_to (declines f (full Log log_limit)) came (d.1 ∙ committed_not f some.0 d.0 did.0) so did.1

  -- the disk failed
  pub fallen_so : how ≡ Some DiskFault → HasFallen k f.state due.0.state new
  fallen_so is =
      let some = some_made k f r old new how calls stands DiskFault is (λ so. cc so) in
      let did = fell k f r old new how calls stands is some.0 some.1 in
      let d = due_so f r (take f.state r) some.0 some.1 in
      subst (λ (m : Made). HasFallen k f.state m.0.state new) (sym (d.1 ∙ committed_so f some.0 d.0 did.0)) did.1

  -- memory was wanting
  pub wanting_so : how ≡ Some NoMemory → Stands k f new
  wanting_so is = wanted k f r old new how calls stands is

  -- and so for each hindrance
  pub hindered_so : (h : Hindrance) → how ≡ Some h → (result : Result Came PullFault) → IsHindered h result
      → ReactsSo k f (Some due) result new
  hindered_so Full is result so = subst (λ (x : Result Came PullFault). ReactsSo k f (Some due) x new) (sym so)
      (full_so is (Declined (full Log log_limit)) refl)
  hindered_so DiskFault is result so = subst (λ (x : Result Came PullFault). ReactsSo k f (Some due) x new) (sym so)
      (due, refl, fallen_so is)
  hindered_so NoMemory is result so = subst (λ (x : Result Came PullFault). ReactsSo k f (Some due) x new) (sym so)
      (wanting_so is)
  hindered_so Down is result so = absurd so
  hindered_so Failed is result so = absurd so

  -- and what a start finds meanwhile
  pub take_leaves : LeavesLaw k → OnlyNowLaw k → IsInOrder k old → Crashes k old.keeper new.keeper (FindsDue f (Some due))
  take_leaves leaves only_now order =
      (call_finds k (taken_in r) old new how calls leaves only_now order f stands (FindsDue f (Some due)) (λ x finds. inl finds) near).0
    where
      near : (c : Change) → taken_in r f.state ≡ Some c → change_fits f.log f.state.store c ≡ true → Among (FindsDue f (Some due)) (FindsEither f.state (after f.state c))
      near c makes fits x finds =
          let d = due_so f r (take f.state r) c makes in
          subst (λ (m : Made). FindsDue f (Some m) x) (sym (d.1 ∙ committed_so f c d.0 fits)) finds
