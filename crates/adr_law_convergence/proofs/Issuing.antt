-- What was issued stays issued, whatever line comes; a world that isn't clean stays so, and only a database that is put back makes one unclean.
use Rattle.std.proofs.Common.{◌≡◌, ℕ, List, [], ◌∷◌, ◌++◌, Bool, true, false, Option, Some, None, Result, Ok, Err, refl, ◌∙◌, fold}
use Rattle.adr_call.specs.declared.outcome.Outcome.TheVariants as outcomes
use Rattle.adr_call.specs.declared.event.Event.{Event}
use Rattle.adr_call.specs.declared.event.Event.TheVariants as events
use Rattle.adr_call.specs.declared.event.Coming.{Coming}
use Rattle.adr_call.specs.declared.event.Coming.TheVariants as comings
use Rattle.adr_call.specs.declared.event.Use.{Use}
use Rattle.adr_call.specs.declared.event.Use.TheVariants as used
use Rattle.adr_call.specs.declared.event.Made.{Made}
use Rattle.adr_call.specs.declared.event.Made.TheVariants as mades
use Rattle.adr_call.specs.declared.refusal.AdoptRefusal.{AdoptRefusal}
use Rattle.adr_model.specs.Lengths.{new_log, area_fits}
use Rattle.adr_model.specs.Member.{Member, Each}
use Rattle.adr_model.specs.Update.{Identifier}
use Rattle.adr_model.specs.Store.{State}
use Rattle.adr_model.specs.Client.{call_meant}
use Rattle.adr_model.specs.Write.{Revive}
use Rattle.adr_model.specs.Collect.{adopt}
use Rattle.adr_model.specs.Replica.{ToWrite, Pending, issued_by, Standing, Replica, on_new_disk, Book, begun, Move, Begin, Settle, Forget, moved, Device}
use Rattle.adr_model.specs.World.{Name, World, Snapshot, Gone, Sent, stays, nothing, bound_at, with_replica, begins, adopts, does, put_back, after_moves, reported}
use Rattle.adr_model.specs.Cycles.{pulls, pull_version}
use Rattle.adr_model.specs.Step.{gives, comes, uses, makes, step}
use Rattle.adr_model.specs.Convergence.{IssuedStays, StaysClean, StaysUnclean, puts_back}
use Rattle.adr_model.proofs.Members.{member_left}
use Rattle.adr_law_convergence.proofs.Reached.{made_case, within_case, image_case, installs_case, restores_case}
use Rattle.adr_model.specs.World.{noted}
use Rattle.adr_law_convergence.proofs.Called.{IsKeptBehind, AnyCall, by_moves, calls_so, asks_so, serves_so, delivers_so, backs_up_so, meets_so, reports_so}
use Rattle.adr_law_convergence.proofs.Exchanges.{IsKeptByCalls, worlds_alone, pulls_so, goes_so, way_case}
use Rattle.adr_model.specs.Serve.{Reply}

-- all that was issued in the one world is so in the other, and what isn't clean stays so; what is clean too, where no database is put back
pub record Keeps (put : Bool) (w v : World) : Type 0 where
  pub issued : Each (λ u. Member u v.book.issued) w.book.issued
  pub unclean : w.clean ≡ false → v.clean ≡ false
  pub alike : put ≡ false → v.clean ≡ w.clean

pub same : (put : Bool) (w : World) → Keeps put w w
same put w = record { issued = λ u m. m; unclean = λ e. e; alike = λ e. refl }

pub onward : (put : Bool) (w v x : World) → Keeps put w v → Keeps put v x → Keeps put w x
onward put w v x first next = record {
  issued = λ u m. next.issued u (first.issued u m);
  unclean = λ e. next.unclean (first.unclean e);
  alike = λ e. next.alike e ∙ first.alike e;
}

-- whatever was put back
pub loosely : (put : Bool) (w v : World) → Keeps put w v → Keeps true w v
loosely put w v k = record { issued = k.issued; unclean = k.unclean; alike = λ e. cc }

moves_keep : (ms : List Move) (t : Book × Replica) → Each (λ u. Member u (fold moved t ms).0.issued) t.0.issued
moves_keep [] t u m = m
moves_keep (Begin p ∷ ms) t u m = moves_keep ms (moved t (Begin p)) u m
moves_keep (Forget ∷ ms) t u m = moves_keep ms (moved t Forget) u m
moves_keep (Settle ∷ ms) t u m = moves_keep ms (moved t Settle) u (by t.1.kept)
  where
    by : (o : Option Pending) → Member u (moved (t.0, record t.1 { kept = o }) Settle).0.issued
    by None = m
    by (Some p) = member_left t.0.issued (issued_by p.call p.change) u m

module _ (put : Bool) (w : World) where
  abbrev Kept : Gone → Type 0
  Kept g = Keeps put w g.0

  abbrev KeptBy : {A : Type 0} → Sent A → Type 0
  KeptBy t = Keeps put w t.0

  moving : (v : World) → Keeps put w v → (r : Replica) → Member r v.replicas → (ms : List Move) (standing : Standing) (plan : Device) → Keeps put w (after_moves v r ms standing plan outcomes.Ok).0
  moving v kept r there ms standing plan = onward put w v (after_moves v r ms standing plan outcomes.Ok).0 kept (record { issued = moves_keep ms (v.book, r); unclean = λ e. e; alike = λ e. refl })

  notes_kept : (v : World) → Keeps put w v → (reply : Reply) → Keeps put w (noted v reply)
  notes_kept v kept reply = record { issued = kept.issued; unclean = kept.unclean; alike = kept.alike }

  keeping : (v : World) → Keeps put w v → IsKeptBehind (Keeps put w) AnyCall v
  keeping v kept = by_moves (Keeps put w) v kept (notes_kept v kept) (moving v kept)

  begins_keep : (placed : Replica → List Replica) (name : Name) (s : State) → Kept (begins w placed name s)
  begins_keep placed name s = within_case Kept w (area_fits (new_log s) s.store) (record w { book = begun w.book s; replicas = placed (on_new_disk name s) }, outcomes.Ok) (same put w) (record { issued = λ u m. m; unclean = λ e. e; alike = λ e. refl })

  adopts_keep : (placed : Replica → List Replica) (name : Name) (t : Result State AdoptRefusal) → Kept (adopts w placed name t)
  adopts_keep placed name (Err x) = same put w
  adopts_keep placed name (Ok s) = begins_keep placed name s

put_back_keeps : (w : World) (name : Name) (o : Option Snapshot) → Kept true w (put_back w name o)
put_back_keeps w name None = same true w
put_back_keeps w name (Some s) = record { issued = λ u m. m; unclean = λ e. refl; alike = λ e. cc }

module _ (w : World) where
  pub calls_keep : IsKeptByCalls (Keeps false w) (λ v q. Unit {0}) (λ v r. Unit {0}) (λ o. Unit {0})
  calls_keep = worlds_alone (Keeps false w) (λ v name partner max kept. asks_so (Keeps false w) AnyCall v (keeping false w v kept) name partner max pull_version) (λ v name o kept. serves_so (Keeps false w) AnyCall v (keeping false w v kept) name o tt)
      (λ v name o kept. delivers_so (Keeps false w) AnyCall v (keeping false w v kept) name o tt (λ p e. tt))

  pulls_keep : (x : World) (name source : Name) (max n : ℕ) → Keeps false w x → Keeps false w (pulls n x name source max).0
  pulls_keep x name source max n kept = (pulls_so (Keeps false w) (λ v q. Unit {0}) (λ v r. Unit {0}) (λ o. Unit {0}) calls_keep name source max n x kept).0

  abbrev Q : World → Type 0
  Q = Keeps false w

  here : IsKeptBehind (Keeps false w) AnyCall w
  here = keeping false w w (same false w)

  -- more is given, whatever the line is answered
  given : (dsas invs : List Identifier) → Keeps false w (gives w dsas invs)
  given dsas invs = record { issued = λ u m. m; unclean = λ e. e; alike = λ e. refl }

  from_given : (dsas invs : List Identifier) → (v : World) → Keeps false (gives w dsas invs) v → Keeps false w v
  from_given dsas invs v k = onward false w (gives w dsas invs) v (given dsas invs) k

  comes_keep : (name : Name) (inv : Identifier) (how : Coming) → Keeps false w (comes w name inv how).0
  comes_keep name inv (comings.Fresh dsa) = record { issued = λ u m. m; unclean = λ e. e; alike = λ e. refl }
  comes_keep name inv (comings.Installed dsa image) = installs_case (Kept false w) w name inv image dsa (given (dsa ∷ []) (inv ∷ []))
      (λ i e. from_given (dsa ∷ []) (inv ∷ []) _ (adopts_keep false (gives w (dsa ∷ []) (inv ∷ [])) (λ r. w.replicas ++ r ∷ []) name (adopt i dsa inv)))
  comes_keep name inv (comings.Restored image) = restores_case (Kept false w) w name inv image (λ o plain. given [] (inv ∷ []))
      (λ r called i e. from_given [] (inv ∷ []) _ (adopts_keep false (gives w [] (inv ∷ [])) (with_replica w.replicas) name (adopt i r.safe.dsa inv)))

  uses_keep : (name bind : Name) (what : Use) → Keeps (puts_back (events.Uses name what bind)) w (uses w name what bind).0
  uses_keep name bind used.Deliver = delivers_so Q AnyCall w here name (bound_at w.replies bind) tt (λ p e. tt)
  uses_keep name bind (used.Revive guid parent text) = image_case (Kept false w) w (bound_at w.images bind) (λ i. does w name (ToWrite (Revive i guid parent text) w.time)) (same false w)
      (λ i e. calls_so Q AnyCall w here name (ToWrite (Revive i guid parent text) w.time) tt)
  uses_keep name bind used.Rollback = made_case (Kept true w) w name (stays w) (λ o. same true w) (λ r. put_back w name (bound_at w.snapshots bind)) (λ r called. put_back_keeps w name (bound_at w.snapshots bind))

  makes_keep : (name bind : Name) (what : Made) → Keeps false w (makes w name what bind).0
  makes_keep name bind (mades.Ask partner max version) = let k = asks_so Q AnyCall w here name partner max version in record { issued = k.issued; unclean = k.unclean; alike = k.alike }
  makes_keep name bind (mades.Serve request) = let k = serves_so Q AnyCall w here name (bound_at w.requests request) tt in record { issued = k.issued; unclean = k.unclean; alike = k.alike }
  makes_keep name bind mades.Backup = let k = backs_up_so Q AnyCall w here name in record { issued = k.issued; unclean = k.unclean; alike = k.alike }
  makes_keep name bind mades.Snapshot =
      let k = made_case (KeptBy false w) w name (nothing w) (λ o. same false w) (λ r. (w, outcomes.Ok, Some (record { state = r.read; log = r.device.read_log }))) (λ r called. same false w) in record { issued = k.issued; unclean = k.unclean; alike = k.alike }

  pub step_keeps : (e : Event) → Keeps (puts_back e) w (step w e).0
  step_keeps (events.Time now) = record { issued = λ u m. m; unclean = λ e. e; alike = λ e. refl }
  step_keeps (events.Comes name inv how) = comes_keep name inv how
  step_keeps (events.Calls name what) = calls_so Q AnyCall w here name (call_meant what w.time) tt
  step_keeps (events.Uses name what bind) = uses_keep name bind what
  step_keeps (events.Binds name what bind) = makes_keep name bind what
  step_keeps (events.Asks name what) = reports_so Q AnyCall w here name (λ r. reported w r.safe what)
  step_keeps (events.Goes name what) = (goes_so Q (λ v q. Unit {0}) (λ v r. Unit {0}) (λ o. Unit {0}) calls_keep (λ n d e. tt) name what w (same false w)).0
  step_keeps (events.Meets name what) = meets_so Q AnyCall w here name what

pub issued_stays : IssuedStays
issued_stays w e = (step_keeps w e).issued

pub stays_unclean : StaysUnclean
stays_unclean w e v way = way_case (Keeps false w) (λ (x : World). w.clean ≡ false → x.clean ≡ false) w e (same false w) (λ x name source max n is. pulls_keep w x name source max n is) (λ x k. k.unclean) (step_keeps w e).unclean v way

pub stays_clean : StaysClean
stays_clean w e v way none = way_case (Keeps false w) (λ (x : World). x.clean ≡ w.clean) w e (same false w) (λ x name source max n is. pulls_keep w x name source max n is) (λ x k. k.alike refl) ((step_keeps w e).alike none) v way
