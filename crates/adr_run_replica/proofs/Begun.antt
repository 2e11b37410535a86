-- What a start comes to, by how it ended.
use Rattle.std.proofs.Common.{◌≡◌, ◌≢◌, ◌⊎◌, inl, inr, ◌∙◌, refl, sym, ap, subst, ℕ, List, Bool, true, false, Option, Some, None, Result, Ok, Err}
use Rattle.std.specs.Prelude.{IfOk, IfSome, IfErr, OnOk, OnErr, MatchOption, is_some}
use Rattle.adr_call.specs.declared.outcome.Outcome.TheVariants as outcomes
use Rattle.adr_model.specs.Update.{Identifier}
use Rattle.adr_model.specs.Store.{State}
use Rattle.adr_disk.specs.declared.memory.Mishap.TheVariants.{Fails, Stops}
use Rattle.adr_disk.specs.declared.memory.Plan.{Plan}
use Rattle.adr_model.specs.Replica.{Replica, Pending, Went, Passed, Met, moves_of_start, start_goes, standing_after, Standing, Up, Failed}
use Rattle.adr_model.specs.World.{World, starts}
use Rattle.adr_law_journal.specs.Areas.{Started}
use Rattle.adr_law_journal.specs.Replicas.{Has, started}
use Rattle.adr_journal.specs.Ended.{ended_start, IsDamageOf}
use Rattle.adr_run_keeper.specs.Planned.{Same, StartsAs}
use Rattle.adr_journal.specs.declared.keeper.Keeper.{Ghosts}
use Rattle.adr_journal.specs.declared.keeper.StartRefusal.{StartRefusal}
use Rattle.adr_journal.specs.declared.keeper.StartRefusal.TheVariants as refusals
use Rattle.adr_controller.specs.Running.{Running, IsInOrder, IsStarted}
use Rattle.adr_controller.specs.declared.refusal.Hindrance.{Hindrance}
use Rattle.adr_controller.specs.declared.refusal.Hindrance.TheVariants as hindrances
use Rattle.adr_run_replica.specs.Past.{Past, Ahead}
use Rattle.adr_run_replica.specs.Past.{after_moves as ahead_of}
use Rattle.adr_run_replica.specs.Planned.{GoesAsPlanned}
use Rattle.adr_run_replica.specs.Held.{seen, standing_by, IsHeld}
use Rattle.adr_run_replica.specs.Settled.{come, left_by, hindrance_of_start, of_fault}
use Rattle.adr_run_replica.specs.Led.{StandsIn, world_with, IsDone, IsUndone, Leads, synced}
use Rattle.adr_run_replica.proofs.Came.{downed_keeper, same_world}
use Rattle.adr_run_replica.proofs.Started as restarts

-- an option that was asked whether it is there
pub not_there : {A : Type 0} (P : Type 0) (Q : A → Type 0) (o : Option A) → MatchOption o P Q → is_some o ≡ false → P
not_there P Q None p is = p
not_there P Q (Some x) q is = absurd (cc is)

pub there_so : {A : Type 0} (P : Type 0) (Q : A → Type 0) (o : Option A) → MatchOption o P Q → is_some o ≡ true → (x : A) × Q x
there_so P Q None p is = absurd (cc is)
there_so P Q (Some x) q is = (x, q)

-- a start that passed leaves up what failed as it does what was down
up_again : (g : Went) (st : Standing) → (st ≡ Up → ⊥) → Up ≡ standing_after st g → Up ≡ standing_after Failed g
up_again (Passed left) st down is = refl
up_again (Met place (Stops how)) st down is = absurd (cc is)
up_again (Met place Fails) st down is = absurd (down (sym is))

-- a start that ended so, and is answered so
pub record Begins {T : Type 0} (is_held : Type 0) (r q : Replica) (past later : Past) (made : Result T StartRefusal) (stopped : Bool) : Type 0 where
  pub held : is_held
  pub passed : (x : T) → made ≡ Ok x → Leads r past (λ w. starts w r r.standing) q later outcomes.Ok
  pub faulty : made ≡ Err refusals.DiskFault → Leads r past (λ w. starts w r r.standing) q later (of_fault stopped)
  pub wanting : (settled : Bool) → made ≡ Err (refusals.NoMemory settled) → IsUndone r past q later ⊎ ((r.standing ≢ Up) × IsDone r past (λ w. synced w r) q later)

-- what is said of an `Ok` alone, where there is an `Err`
pub no_ok : {X Y : Type 0} (P : X → Type 0) (r : Result X Y) (e : Y) → r ≡ Err e → IfOk r P
no_ok P (Ok x) e is = absurd (cc is)
no_ok P (Err y) e is = tt

-- a call of the disk failed, and the disk is stopped or not
pub faulty_as : {T : Type 0} (is_held : Type 0) (r q : Replica) (past later : Past) (made : Result T StartRefusal) (stopped : Bool) → Begins is_held r q past later made stopped
    → made ≡ Err refusals.DiskFault → (said told : Bool) → said ≡ stopped → said ≡ told → Leads r past (λ w. starts w r r.standing) q later (of_fault told)
faulty_as is_held r q past later made stopped b is said told same says =
    subst (λ s. Leads r past (λ w. starts w r r.standing) q later (of_fault s)) (sym same ∙ says) (b.faulty is)

-- what is up already
pub up_already : {K : Type 0} (k : Ghosts K) (read safe torn : K → Started State) (plan : K → Option Plan) (has_stopped : K → Bool) (name : List ℕ) (dsa : Identifier) (old : Running K) (kept : Option Pending)
    → IsHeld read safe torn plan has_stopped name dsa old kept → (v : Replica) (past : Past) (s : State)
    → seen read safe plan name old kept ≡ v → old.state ≡ Some s → IsInOrder k old → (w : World) → StandsIn w v past → starts w v v.standing ≡ (world_with w v past, outcomes.Up)
up_already k read safe torn plan has_stopped name dsa old kept held v past s is there order w stands =
    let up : v.standing ≡ Up = ap (λ (r : Replica). r.standing) (sym is) ∙ ap (λ b. standing_by b old.state) (order.up s there).1 ∙ ap (λ o. standing_by false o) there in
    ap (λ st. starts w v st) up ∙ ap (λ x. (x, outcomes.Up)) (same_world w v v past past stands refl refl)

module _ {K : Type 0} (k : Ghosts K) (read safe torn : K → Started State) (plan : K → Option Plan) (has_stopped : K → Bool)
    (name : List ℕ) (dsa : Identifier) (old : Running K) (kept : Option Pending) (held : IsHeld read safe torn plan has_stopped name dsa old kept) (order : IsInOrder k old) (past : Past) (none : old.state ≡ None)
    (law : GoesAsPlanned k read safe torn plan has_stopped)
    (revived mid : Running K) (planned : plan revived.keeper ≡ plan old.keeper) (same : Same read safe torn k.is_failed old.keeper revived.keeper) (runs : has_stopped revived.keeper ≡ false)
    (stays : revived ≡ record old { keeper = revived.keeper }) where
  abbrev r : Replica
  r = seen read safe plan name old kept

  abbrev begun : Ahead
  begun = ahead_of past r (moves_of_start (start_goes r))

  -- the same, had it failed
  abbrev failed : Replica
  failed = record r { standing = Failed }

  has : Has read safe torn plan revived.keeper r
  has = record { is_read = same.read_stays ∙ held.has.is_read; is_safe = same.safe_stays ∙ held.has.is_safe; is_torn = same.torn_stays ∙ held.has.is_torn; is_plan = planned ∙ held.has.is_plan }

  has_failed : Has read safe torn plan revived.keeper failed
  has_failed = record { is_read = has.is_read; is_safe = has.is_safe; is_torn = has.is_torn; is_plan = has.is_plan }

  was_down : revived.down ≡ old.down
  was_down = ap (λ (c : Running K). c.down) stays

  module _ {T : Type 0} where
    abbrev Left : Result T StartRefusal → Running K → Option Pending → Past → Type 0
    Left made n x l = Begins (IsHeld read safe torn plan has_stopped name dsa n x) r (seen read safe plan name n x) past l made (has_stopped n.keeper)

    abbrev LeftBy : Result T StartRefusal → Type 0
    LeftBy made =
        let how = hindrance_of_start (ended_start made) in
        Left made (left_by has_stopped how mid) (come how kept begun.kept) (come how past begun.past)

    pub came : (made : Result T StartRefusal) → OnOk made (IsStarted k revived.keeper mid) → OnErr made ((mid.state ≡ None) × (mid.down ≡ revived.down))
        → IfErr made (λ e. IsDamageOf e (k.told revived.keeper)) → k.starts revived.keeper (ended_start made) mid.keeper → LeftBy made
    came (Ok x) ok err damaged ran =
        let goes : StartsAs (Has read safe torn plan) has_stopped None r (started past.book r) mid.keeper = law.starts revived.keeper mid.keeper None past.book r runs has ran in
        let up : Up ≡ standing_after r.standing (start_goes r) = goes.1 in
        let again = up_again (start_goes r) r.standing (restarts.not_up read safe torn plan has_stopped name dsa old kept held past none) up in
        record {
          held = restarts.started_held read safe torn plan has_stopped name dsa old kept held past none mid ok.state ok.in_memory ok.up goes.0 up again goes.2;
          passed = λ y is. restarts.started_leads read safe torn plan has_stopped name dsa old kept held past none mid ok.state ok.in_memory ok.up goes.0 up again goes.2;
          faulty = λ is. absurd (cc is);
          wanting = λ settled is. absurd (cc is);
        }
    came (Err refusals.DiskFault) ok err damaged ran =
        let goes : StartsAs (Has read safe torn plan) has_stopped (Some refusals.DiskFault) r (started past.book r) mid.keeper = law.starts revived.keeper mid.keeper (Some refusals.DiskFault) past.book r runs has ran in
        let goes_failed : StartsAs (Has read safe torn plan) has_stopped (Some refusals.DiskFault) failed (started past.book failed) mid.keeper =
        law.starts revived.keeper mid.keeper (Some refusals.DiskFault) past.book failed runs has_failed ran in
        let down = err.1 ∙ was_down in
        record {
          held = restarts.faulty_held read safe torn plan has_stopped name dsa old kept held past none mid err.0 down goes.0 goes.1 goes_failed.1;
          passed = λ y is. absurd (cc is);
          faulty = λ is.
              subst (λ s. Leads r past (λ w. starts w r r.standing) (seen read safe plan name (left_by has_stopped (Some hindrances.DiskFault) mid) begun.kept) begun.past (of_fault s))
              (ap has_stopped (downed_keeper (has_stopped mid.keeper) mid)) (restarts.faulty_leads read safe torn plan has_stopped name dsa old kept held past none mid err.0 down goes.0 goes.1 goes_failed.1);
          wanting = λ settled is. absurd (cc is);
        }
    came (Err (refusals.Damaged place)) ok err damaged ran =
        let told_so : IfSome (Some (read revived.keeper)) (λ t. t ≡ Err place) = subst (λ o. IfSome o (λ t. t ≡ Err place)) (law.tells revived.keeper) damaged in
        absurd (cc (has.is_read, told_so))
    came (Err (refusals.NoMemory true)) ok err damaged ran =
        let goes : Has read safe torn plan mid.keeper (started past.book r) = law.starts revived.keeper mid.keeper (Some (refusals.NoMemory true)) past.book r runs has ran in
        let down = err.1 ∙ was_down in
        record {
          held = restarts.synced_held read safe torn plan has_stopped name dsa old kept held past none mid err.0 down goes;
          passed = λ y is. absurd (cc is);
          faulty = λ is. absurd (cc is);
          wanting = λ settled is. inr (restarts.not_up read safe torn plan has_stopped name dsa old kept held past none, restarts.synced_done read safe torn plan has_stopped name dsa old kept held past none mid err.0 down goes);
        }
    came (Err (refusals.NoMemory false)) ok err damaged ran =
        let goes : Has read safe torn plan mid.keeper r = law.starts revived.keeper mid.keeper (Some (refusals.NoMemory false)) past.book r runs has ran in
        let down = err.1 ∙ was_down in
        record {
          held = restarts.short_held read safe torn plan has_stopped name dsa old kept held past none mid err.0 down goes;
          passed = λ y is. absurd (cc is);
          faulty = λ is. absurd (cc is);
          wanting = λ settled is. inl (restarts.short_seen read safe torn plan has_stopped name dsa old kept held past none mid err.0 down goes, refl);
        }

    -- the same, told of what the controller is seen as, and of what the start left
    pub begins_so : (v : Replica) (past_then : Past) (kept_then : Option Pending) (made : Result T StartRefusal) (how : Option Hindrance) (new : Running K) (x : Option Pending) (later : Past) → r ≡ v
        → past_then ≡ (ahead_of past v (moves_of_start (start_goes v))).past → kept_then ≡ (ahead_of past v (moves_of_start (start_goes v))).kept
        → how ≡ hindrance_of_start (ended_start made) → new ≡ left_by has_stopped how mid → x ≡ come how kept kept_then → later ≡ come how past past_then
        → OnOk made (IsStarted k revived.keeper mid) → OnErr made ((mid.state ≡ None) × (mid.down ≡ revived.down))
        → IfErr made (λ e. IsDamageOf e (k.told revived.keeper)) → k.starts revived.keeper (ended_start made) mid.keeper
        → Begins (IsHeld read safe torn plan has_stopped name dsa new x) v (seen read safe plan name new x) past later made (has_stopped new.keeper)
    begins_so v past_then kept_then made how new x later is aheadp aheadk hinders newly keeps comes ok err damaged ran =
        let said = hindrance_of_start (ended_start made) in
        let Told : Replica → Running K → Option Pending → Past → Type 0 = λ v n y l. Begins (IsHeld read safe torn plan has_stopped name dsa n y) v (seen read safe plan name n y) past l made (has_stopped n.keeper) in
        let kept_is : x ≡ come said kept begun.kept =
        keeps ∙ ap (λ h. come h kept kept_then) hinders ∙ ap (come said kept) (aheadk ∙ ap (λ (v : Replica). (ahead_of past v (moves_of_start (start_goes v))).kept) (sym is)) in
        let past_is : later ≡ come said past begun.past =
        comes ∙ ap (λ h. come h past past_then) hinders ∙ ap (come said past) (aheadp ∙ ap (λ (v : Replica). (ahead_of past v (moves_of_start (start_goes v))).past) (sym is)) in
        let new_is : new ≡ left_by has_stopped said mid = newly ∙ ap (λ h. left_by has_stopped h mid) hinders in
        subst (λ v. Told v new x later) is
        (subst (λ n. Told r n x later) (sym new_is)
        (subst (λ y. Told r (left_by has_stopped said mid) y later) (sym kept_is)
        (subst (λ l. Told r (left_by has_stopped said mid) (come said kept begun.kept) l) (sym past_is) (came made ok err damaged ran))))

-- ---- a start, told by what is known of it

-- what a controller that was held began with
abbrev pub BeginsTo : {K : Type 0} {read safe torn : K → Started State} {plan : K → Option Plan} {has_stopped : K → Bool} {name : List ℕ} {dsa : Identifier} {old : Running K} {kept : Option Pending} {T : Type 0}
    → IsHeld read safe torn plan has_stopped name dsa old kept → Replica → Past → Result T StartRefusal → Running K → Option Pending → Past → Type 0
BeginsTo {K} {read} {safe} {torn} {plan} {has_stopped} {name} {dsa} held v past made new x later =
    Begins (IsHeld read safe torn plan has_stopped name dsa new x) v (seen read safe plan name new x) past later made (has_stopped new.keeper)

pub begins_to : {K : Type 0} {k : Ghosts K} {read safe torn : K → Started State} {plan : K → Option Plan} {has_stopped : K → Bool} {name : List ℕ} {dsa : Identifier} {old revived new : Running K}
    {kept kept_then x : Option Pending} {v : Replica} {ahead later : Past} {how : Option Hindrance} {T : Type 0}
    → (held : IsHeld read safe torn plan has_stopped name dsa old kept) → IsInOrder k old → GoesAsPlanned k read safe torn plan has_stopped → (past : Past) → old.state ≡ None
    → plan revived.keeper ≡ plan old.keeper → Same read safe torn k.is_failed old.keeper revived.keeper → has_stopped revived.keeper ≡ false → revived ≡ record old { keeper = revived.keeper }
    → seen read safe plan name old kept ≡ v → ahead ≡ (ahead_of past v (moves_of_start (start_goes v))).past → kept_then ≡ (ahead_of past v (moves_of_start (start_goes v))).kept
    → (mid : Running K) (made : Result T StartRefusal) → how ≡ hindrance_of_start (ended_start made) → new ≡ left_by has_stopped how mid → x ≡ come how kept kept_then → later ≡ come how past ahead
    → OnOk made (IsStarted k revived.keeper mid) → OnErr made ((mid.state ≡ None) × (mid.down ≡ revived.down))
    → IfErr made (λ e. IsDamageOf e (k.told revived.keeper)) → k.starts revived.keeper (ended_start made) mid.keeper → BeginsTo held v past made new x later
begins_to {K} {k} {read} {safe} {torn} {plan} {has_stopped} {name} {dsa} {old} {revived} {new} {kept} {kept_then} {x} {v} {ahead} {later} {how} {T}
    held order law past none planned same runs stays is aheadp aheadk mid made hinders newly keeps comes ok err damaged ran =
    begins_so k read safe torn plan has_stopped name dsa old kept held order past none law revived mid planned same runs stays v ahead kept_then made how new x later is aheadp aheadk hinders newly keeps comes ok err damaged ran
