-- What changes keep of stores, and images hand on, holds of each store of a run of mild lines.
use Rattle.std.proofs.Common.{◌≡◌, ◌⊎◌, inl, inr, ⊎_elim, ℕ, List, [], ◌∷◌, ◌++◌, Bool, true, false, Option, Some, None, Result, Ok, Err, refl, sym, subst, fold, if◌then◌else◌}
use Rattle.adr_call.specs.declared.outcome.Outcome.TheVariants as outcomes
use Rattle.adr_call.specs.declared.refusal.AdoptRefusal.{AdoptRefusal}
use Rattle.adr_call.specs.declared.write.Write.{Write}
use Rattle.adr_call.specs.declared.call.Call.{Call as Asked}
use Rattle.adr_call.specs.declared.call.Call.TheVariants as calls
use Rattle.adr_call.specs.declared.event.Event.{Event}
use Rattle.adr_call.specs.declared.event.Event.TheVariants as events
use Rattle.adr_call.specs.declared.event.Coming.TheVariants as comings
use Rattle.adr_call.specs.declared.event.Made.TheVariants as mades
use Rattle.adr_model.specs.Member.{Member, Each}
use Rattle.adr_model.specs.Update.{Identifier}
use Rattle.adr_model.specs.Store.{Store, State, empty_state}
use Rattle.adr_model.specs.Change.{Change, after}
use Rattle.adr_model.specs.Lengths.{new_log, area_fits}
use Rattle.adr_model.specs.Serve.{Reply, is_quarantined}
use Rattle.adr_model.specs.Write.{write_meant}
use Rattle.adr_model.specs.Client.{call_meant}
use Rattle.adr_model.specs.Collect.{woken, adopt, backup}
use Rattle.adr_model.specs.Replica.{Call, ToWrite, ToTake, ToCollect, ToQuarantine, change_of, Replica, Book, on_new_disk, begun, Settle, moved, moves_of_commit, moves_of_start, standing_after, Failed, Down, commit_goes, start_goes, device_after_commit, device_after_start, device_settled, Device, Standing}
use Rattle.adr_model.specs.World.{Name, World, Gone, Sent, stays, nothing, bound_at, replica_at, with_replica, of_made, of_controller, of_image, backed_up, adopts}
use Rattle.adr_model.specs.Cycles.{pulls, pull_version}
use Rattle.adr_model.specs.Step.{gives, step, after_lines}
use Rattle.adr_model.proofs.Members.{member_of_either}
use Rattle.adr_law_calls.proofs.Woken.{adopted_is_woken}
use Rattle.adr_law_convergence.proofs.Called.{IsKeptBehind, calls_so, asks_so, serves_so, delivers_so}
use Rattle.adr_law_convergence.proofs.Exchanges.{IsKeptByCalls, worlds_alone, pulls_so, goes_so}
use Rattle.adr_law_convergence.proofs.Found.{bound_member, each_bound, in_place}
use Rattle.adr_law_convergence.proofs.Moves.{settling, starting, committing}
use Rattle.adr_law_convergence.proofs.Reached.{made_case, reached_case, within_case}
use Rattle.adr_run_exercised.proofs.Mild.{IsMildCall, IsMild, AreMild}

-- calls that may come keep it, a new controller has it, and one that is made of an image
pub record IsKeptOf (K : Store → Type 0) (May : Call → Type 0) : Type 0 where
  pub begins : (dsa inv : Identifier) → K (empty_state dsa inv).store
  pub changes : (s : State) (call : Call) (c : Change) → May call → change_of s call ≡ Some c → K s.store → K (after s c).store
  pub wakes : (image : Store) (dsa inv : Identifier) → K image → K (woken image dsa inv).store
  pub writes : (what : Write) (now : ℕ) → May (ToWrite (write_meant what) now)
  pub takes : (reply : Reply) → May (ToTake reply)
  pub shuts : May ToQuarantine

-- of each controller, of what a start of it would find, and of each image
abbrev pub AreKept : (Store → Type 0) → World → Type 0
AreKept K w = Each (λ r. K r.safe.store × K r.read.store) w.replicas × Each (λ (i : Name × Store). K i.1) w.images

-- a collection only where it may be
abbrev pub MayLine : (Call → Type 0) → Event → Type 0
MayLine May (events.Calls name (calls.Collect lifetime)) = (now : ℕ) → May (ToCollect now lifetime)
MayLine May e = Unit {0}

abbrev pub MayLines : (Call → Type 0) → List Event → Type 0
MayLines May [] = Unit {0}
MayLines May (e ∷ es) = MayLine May e × MayLines May es

module _ (K : Store → Type 0) (May : Call → Type 0) (rules : IsKeptOf K May) where
  abbrev OfBoth : Replica → Type 0
  OfBoth r = K r.safe.store × K r.read.store

  placed : (rs : List Replica) (new : Replica) → OfBoth new → Each OfBoth rs → Each OfBoth (with_replica rs new)
  placed rs new is all q m = ⊎_elim (λ e. subst OfBoth (sym e) is) (λ t. all q t.0) (in_place rs new q m)

  came : (rs : List Replica) (new : Replica) → OfBoth new → Each OfBoth rs → Each OfBoth (rs ++ new ∷ [])
  came rs new is all q m = by (member_of_either rs (new ∷ []) q m)
    where
      by : Member q rs ⊎ Member q (new ∷ []) → OfBoth q
      by (inl k) = all q k
      by (inr (inl e)) = subst OfBoth (sym e) is
      by (inr (inr k)) = absurd k

  module _ (w : World) (kept : AreKept K w) where
    moved_kept : (m : Book × Replica) (standing : Standing) (device : Device) → K m.1.safe.store × K m.1.read.store
        → AreKept K (record w { book = m.0; replicas = with_replica w.replicas (record m.1 { standing = standing; device = device }) })
    moved_kept m standing device is = (placed w.replicas (record m.1 { standing = standing; device = device }) is kept.0, kept.1)

    keeps : IsKeptBehind (AreKept K) May w
    keeps = record {
      same = kept;
      notes = λ reply. kept;
      commits = λ r there up p may made fits. moved_kept (fold moved (w.book, r) (moves_of_commit p (commit_goes r p))) (standing_after Failed (commit_goes r p)) (device_after_commit r p)
          (committing (λ (s : State). K s.store) w.book r (kept.0 r there) p (rules.changes r.safe p.call p.change may made (kept.0 r there).0) (commit_goes r p));
      starts = λ r there not_up. moved_kept (fold moved (w.book, r) (moves_of_start (start_goes r))) (standing_after r.standing (start_goes r)) (device_after_start r)
          (starting (λ (s : State). K s.store) w.book r (kept.0 r there) (start_goes r));
      stops = λ r there. moved_kept (moved (w.book, r) Settle) Down (device_settled r) (settling (λ (s : State). K s.store) w.book r (kept.0 r there));
      plans = λ r there plan. moved_kept (w.book, r) r.standing (record r.device { plan = Some plan }) (kept.0 r there);
    }

    -- an image is one of a controller's stores
    abbrev Images : Sent Store → Type 0
    Images t = AreKept K t.0 × ((s : Store) → t.2 ≡ Some s → K s)

    images : (name : Name) → Images (of_controller w name (nothing w) (λ r. backed_up w (backup r.safe)))
    images name = reached_case Images w name (nothing w) (λ x. (kept, λ s e. absurd (cc))) (λ r. backed_up w (backup r.safe)) (λ r called up. by r (kept.0 r called.there).0 (is_quarantined r.safe.mode))
      where
        by : (r : Replica) → K r.safe.store → (b : Bool) → Images (backed_up w (if b then None else Some r.safe.store))
        by r is true = (kept, λ s e. absurd (cc))
        by r is false = (kept, λ s e. let same : r.safe.store ≡ s = cc in subst K same is)

    backs_up : (name bind : Name) → AreKept K (step w (events.Binds name mades.Backup bind)).0
    backs_up name bind = let t = of_controller w name (nothing w) (λ r. backed_up w (backup r.safe)) in let is = images name in
        (is.0.0, each_bound K t.0.images bind t.2 is.0.1 is.1)

    adopts_kept : (name : Name) (image : Store) (dsa inv : Identifier) → K image → (t : Result State AdoptRefusal) → adopt image dsa inv ≡ t → AreKept K (adopts w (with_replica w.replicas) name t).0
    adopts_kept name image dsa inv is (Err x) e = kept
    adopts_kept name image dsa inv is (Ok s) e = let new = subst (λ (d : State). K d.store) (adopted_is_woken image dsa inv s e) (rules.wakes image dsa inv is) in
        within_case (λ (g : Gone). AreKept K g.0) w (area_fits (new_log s) s.store) (record w { book = begun w.book s; replicas = with_replica w.replicas (on_new_disk name s) }, outcomes.Ok) kept
        (placed w.replicas (on_new_disk name s) (new, new) kept.0, kept.1)

    restores : (name image : Name) (inv : Identifier) → AreKept K (of_made (stays w) (replica_at w name) (λ r. of_image w (bound_at w.images image) (λ i. adopts w (with_replica w.replicas) name (adopt i r.safe.dsa inv)))).0
    restores name image inv = made_case (λ (g : Gone). AreKept K g.0) w name (stays w) (λ x. kept) (λ r. of_image w (bound_at w.images image) (λ i. adopts w (with_replica w.replicas) name (adopt i r.safe.dsa inv))) (λ r called. by r (bound_at w.images image) refl)
      where
        by : (r : Replica) (o : Option Store) → bound_at w.images image ≡ o → AreKept K (of_image w o (λ i. adopts w (with_replica w.replicas) name (adopt i r.safe.dsa inv))).0
        by r None e = kept
        by r (Some i) e = adopts_kept name i r.safe.dsa inv (bound_member K w.images image i kept.1 e) (adopt i r.safe.dsa inv) refl

  keeps_by_calls : IsKeptByCalls (AreKept K) (λ v q. Unit {0}) (λ v r. Unit {0}) (λ o. Unit {0})
  keeps_by_calls = worlds_alone (AreKept K)
      (λ w name partner max kept. asks_so (AreKept K) May w (keeps w kept) name partner max pull_version)
      (λ w name o kept. serves_so (AreKept K) May w (keeps w kept) name o rules.shuts)
      (λ w name o kept. delivers_so (AreKept K) May w (keeps w kept) name o rules.shuts (λ p e. rules.takes p))

  pub cycling_kept : (name source : Name) (max n : ℕ) (w : World) → AreKept K w → AreKept K (pulls n w name source max).0
  cycling_kept name source max n w kept = (pulls_so (AreKept K) (λ v q. Unit {0}) (λ v r. Unit {0}) (λ o. Unit {0}) keeps_by_calls name source max n w kept).0

  may_call : (collects : Bool) (w : World) (name : Name) (what : Asked) → IsMildCall collects what → MayLine May (events.Calls name what) → May (call_meant what w.time)
  may_call collects w name (calls.Write what) mild may = rules.writes what w.time
  may_call collects w name (calls.Collect lifetime) mild may = may w.time
  may_call collects w name what mild may = absurd mild

  line_kept : (collects : Bool) (w : World) → AreKept K w → (e : Event) → IsMild collects e → MayLine May e → AreKept K (step w e).0
  line_kept collects w kept (events.Time now) mild may = kept
  line_kept collects w kept (events.Comes name inv (comings.Fresh dsa)) mild may = (came w.replicas (on_new_disk name (empty_state dsa inv)) (rules.begins dsa inv, rules.begins dsa inv) kept.0, kept.1)
  line_kept collects w kept (events.Comes name inv (comings.Restored image)) mild may = restores (gives w [] (inv ∷ [])) kept name image inv
  line_kept collects w kept (events.Calls name what) mild may = calls_so (AreKept K) May w (keeps w kept) name (call_meant what w.time) (may_call collects w name what mild may)
  line_kept collects w kept (events.Binds name (mades.Ask partner max version) bind) mild may = asks_so (AreKept K) May w (keeps w kept) name partner max version
  line_kept collects w kept (events.Binds name (mades.Serve request) bind) mild may = serves_so (AreKept K) May w (keeps w kept) name (bound_at w.requests request) rules.shuts
  line_kept collects w kept (events.Binds name mades.Backup bind) mild may = backs_up w kept name bind
  line_kept collects w kept (events.Goes name what) mild may = (goes_so (AreKept K) (λ v q. Unit {0}) (λ v r. Unit {0}) (λ o. Unit {0}) keeps_by_calls (λ n d v. tt) name what w kept).0
  line_kept collects w kept e mild may = absurd mild

  pub lines_kept : (collects : Bool) (es : List Event) (w : World) → AreMild collects es → MayLines May es → AreKept K w → AreKept K (after_lines w es)
  lines_kept collects [] w mild may kept = kept
  lines_kept collects (e ∷ es) w mild may kept = lines_kept collects es (step w e).0 mild.1 may.1 (line_kept collects w kept e mild.0 may.0)
