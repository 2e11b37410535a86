-- Lines leave who is there, by name, which identifiers were given and what is bound, but for those that say otherwise.
use Rattle.std.proofs.Common.{◌≡◌, ◌∙◌, refl, sym, ap, ℕ, List, [], ◌∷◌, Bool, true, false, cond, map, Option, Some, None, Result, Ok, Err}
use Rattle.std.specs.Str.{bytes_eq}
use Rattle.adr_call.specs.declared.event.Use.{Use}
use Rattle.adr_call.specs.declared.event.Use.TheVariants as used
use Rattle.adr_call.specs.declared.event.Exchange.{Exchange}
use Rattle.adr_call.specs.declared.event.Meeting.{Meeting}
use Rattle.adr_call.specs.declared.outcome.Outcome.{Outcome}
use Rattle.adr_call.specs.declared.outcome.Outcome.TheVariants as outcomes
use Rattle.adr_call.specs.declared.refusal.Table.TheVariants.{Log}
use Rattle.adr_call.specs.declared.refusal.AdoptRefusal.{AdoptRefusal}
use Rattle.adr_model.specs.Store.{State, Store}
use Rattle.adr_model.specs.Lengths.{log_limit, new_log, area_fits}
use Rattle.adr_model.specs.Serve.{Request}
use Rattle.adr_model.specs.Write.{Revive}
use Rattle.adr_model.specs.Collect.{backup}
use Rattle.adr_model.specs.Refused.{adopt_refused, full}
use Rattle.adr_model.specs.Replica.{Call, ToWrite, Replica, on_new_disk, begun}
use Rattle.adr_model.specs.World.{Name, Snapshot, World, Gone, Sent, stays, nothing, noted, with_replica, does, asks, serves_request, backed_up, bound_at, adopts, of_image, put_back, of_made, of_controller, replica_at, after_moves}
use Rattle.adr_model.specs.Cycles.{pull_version}
use Rattle.adr_model.specs.Step.{uses, goes, meets}
use Rattle.adr_law_convergence.proofs.Called.{IsKeptBehind, AnyCall, by_moves, calls_so, asks_so, serves_so, delivers_so, backs_up_so, meets_so, reports_so}
use Rattle.adr_law_convergence.proofs.Exchanges.{IsKeptByCalls, worlds_alone, goes_so}
use Rattle.adr_law_convergence.proofs.Found.{same_name}
use Rattle.adr_law_convergence.proofs.Reached.{made_case, within_case, image_case}

-- the names of controllers, in order
abbrev pub names_of : List Replica → List Name
names_of rs = map (λ (r : Replica). r.name) rs

-- the same names, the same identifiers given, and the same messages, images and snapshots bound
pub record Stays (w v : World) : Type 0 where
  pub names : names_of v.replicas ≡ names_of w.replicas
  pub given : v.given ≡ w.given
  pub requests : v.requests ≡ w.requests
  pub replies : v.replies ≡ w.replies
  pub images : v.images ≡ w.images
  pub snapshots : v.snapshots ≡ w.snapshots

pub same : (w : World) → Stays w w
same w = record { names = refl; given = refl; requests = refl; replies = refl; images = refl; snapshots = refl }

pub onward : (w v x : World) → Stays w v → Stays v x → Stays w x
onward w v x first next = record {
  names = next.names ∙ first.names;
  given = next.given ∙ first.given;
  requests = next.requests ∙ first.requests;
  replies = next.replies ∙ first.replies;
  images = next.images ∙ first.images;
  snapshots = next.snapshots ∙ first.snapshots;
}

-- a controller in the place of the one of its name
replacing_keeps_names : (rs : List Replica) (r : Replica) → names_of (with_replica rs r) ≡ names_of rs
replacing_keeps_names [] r = refl
replacing_keeps_names (q ∷ qs) r = ap (λ ns. (cond (bytes_eq q.name r.name) r q).name ∷ ns) (replacing_keeps_names qs r) ∙ ap (λ n. n ∷ names_of qs) (by (bytes_eq q.name r.name) refl)
  where
    by : (b : Bool) → bytes_eq q.name r.name ≡ b → (cond b r q).name ≡ q.name
    by true is = sym (same_name q.name r.name is)
    by false is = refl

-- a controller comes of an image, or the world stays
pub adopted_case : (Q : Gone → Type 0) (w : World) (placed : Replica → List Replica) (name : Name) (image : Option Store) (adopted : Store → Result State AdoptRefusal) → ((o : Outcome) → Q (w, o))
    → ((s : State) → Q (record w { book = begun w.book s; replicas = placed (on_new_disk name s) }, outcomes.Ok)) → Q (of_image w image (λ i. adopts w placed name (adopted i)))
adopted_case Q w placed name image adopted others comes = image_case Q w image (λ i. adopts w placed name (adopted i)) (others outcomes.Absent) (λ i e. by (adopted i))
  where
    by : (t : Result State AdoptRefusal) → Q (adopts w placed name t)
    by (Err x) = others (adopt_refused x)
    by (Ok s) =
        within_case Q w (area_fits (new_log s) s.store) (record w { book = begun w.book s; replicas = placed (on_new_disk name s) }, outcomes.Ok) (others (full Log log_limit)) (comes s)

module _ (w : World) where
  abbrev Kept : Gone → Type 0
  Kept g = Stays w g.0

  abbrev KeptBy : {A : Type 0} → Sent A → Type 0
  KeptBy t = Stays w t.0

  -- whatever controllers come to stands in their places
  keeping : (v : World) → Stays w v → IsKeptBehind (Stays w) AnyCall v
  keeping v kept = by_moves (Stays w) v kept (λ reply. onward w v (noted v reply) kept (record { names = refl; given = refl; requests = refl; replies = refl; images = refl; snapshots = refl }))
      (λ r there ms standing device. onward w v (after_moves v r ms standing device outcomes.Ok).0 kept
      (record { names = replacing_keeps_names v.replicas _; given = refl; requests = refl; replies = refl; images = refl; snapshots = refl }))

  here : IsKeptBehind (Stays w) AnyCall w
  here = keeping w (same w)

  pub does_stay : (name : Name) (call : Call) → Kept (does w name call)
  does_stay name call = calls_so (Stays w) AnyCall w here name call tt

  pub asks_stay : (name partner : Name) (max version : ℕ) → KeptBy (asks w name partner max version)
  asks_stay name partner max version = asks_so (Stays w) AnyCall w here name partner max version

  pub serves_stay : (name : Name) (q : Option Request) → KeptBy (serves_request w name q)
  serves_stay name q = serves_so (Stays w) AnyCall w here name q tt

  pub backups_stay : (name : Name) → KeptBy (of_controller w name (nothing w) (λ r. backed_up w (backup r.safe)))
  backups_stay name = backs_up_so (Stays w) AnyCall w here name

  pub snapshots_stay : (name : Name) (copied : Replica → Snapshot) → KeptBy (of_made (nothing w) (replica_at w name) (λ r. (w, outcomes.Ok, Some (copied r))))
  snapshots_stay name copied = made_case KeptBy w name (nothing w) (λ o. same w) (λ r. (w, outcomes.Ok, Some (copied r))) (λ r called. same w)

  -- a controller in place of the one of its name
  pub restores_stay : (name : Name) (image : Option Store) (adopted : Replica → Store → Result State AdoptRefusal)
      → Kept (of_made (stays w) (replica_at w name) (λ r. of_image w image (λ i. adopts w (with_replica w.replicas) name (adopted r i))))
  restores_stay name image adopted =
      made_case Kept w name (stays w) (λ o. same w) (λ r. of_image w image (λ i. adopts w (with_replica w.replicas) name (adopted r i)))
      (λ r called. adopted_case Kept w (with_replica w.replicas) name image (adopted r) (λ o. same w)
      (λ s. record { names = replacing_keeps_names w.replicas _; given = refl; requests = refl; replies = refl; images = refl; snapshots = refl }))

  pub reports_stay : (name : Name) (what : Replica → Outcome) → Kept (of_controller w name (stays w) (λ r. (w, what r)))
  reports_stay name what = reports_so (Stays w) AnyCall w here name what

  rollbacks_stay : (name : Name) (snapshot : Option Snapshot) → Kept (of_made (stays w) (replica_at w name) (λ r. put_back w name snapshot))
  rollbacks_stay name snapshot = made_case Kept w name (stays w) (λ o. same w) (λ r. put_back w name snapshot) (λ r called. by snapshot)
    where
      by : (s : Option Snapshot) → Kept (put_back w name s)
      by None = same w
      by (Some s) = record { names = replacing_keeps_names w.replicas _; given = refl; requests = refl; replies = refl; images = refl; snapshots = refl }

  pub uses_stay : (name : Name) (what : Use) (bind : Name) → Kept (uses w name what bind)
  uses_stay name used.Deliver bind = delivers_so (Stays w) AnyCall w here name (bound_at w.replies bind) tt (λ p e. tt)
  uses_stay name (used.Revive guid parent text) bind =
      image_case Kept w (bound_at w.images bind) (λ i. does w name (ToWrite (Revive i guid parent text) w.time)) (same w) (λ i e. does_stay name (ToWrite (Revive i guid parent text) w.time))
  uses_stay name used.Rollback bind = rollbacks_stay name (bound_at w.snapshots bind)

  pub meets_stay : (name : Name) (what : Meeting) → Kept (of_made (stays w) (replica_at w name) (λ r. meets w r what))
  meets_stay name what = meets_so (Stays w) AnyCall w here name what

  -- ---- pulls

  calls_keep : IsKeptByCalls (Stays w) (λ v q. Unit {0}) (λ v r. Unit {0}) (λ o. Unit {0})
  calls_keep = worlds_alone (Stays w)
      (λ v name partner max kept. asks_so (Stays w) AnyCall v (keeping v kept) name partner max pull_version)
      (λ v name o kept. serves_so (Stays w) AnyCall v (keeping v kept) name o tt)
      (λ v name o kept. delivers_so (Stays w) AnyCall v (keeping v kept) name o tt (λ p e. tt))

  pub goes_stay : (name : Name) (what : Exchange) → Stays w (goes w name what).0
  goes_stay name what = (goes_so (Stays w) (λ v q. Unit {0}) (λ v r. Unit {0}) (λ o. Unit {0}) calls_keep (λ n d v. tt) name what w (same w)).0
