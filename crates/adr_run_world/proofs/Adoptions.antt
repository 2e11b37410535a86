-- Controllers that come of images, and disks that are put back.
use Rattle.std.proofs.Common.{◌≡◌, ◌∙◌, sym, ap, ℕ, List, [], ◌∷◌, ◌++◌, slice_set, Option, Some, None, false}
use Rattle.std.specs.Prelude.{slice_get}
use Rattle.adr_call.specs.declared.outcome.Outcome.{Outcome}
use Rattle.adr_call.specs.declared.outcome.Outcome.TheVariants as outcomes
use Rattle.adr_call.specs.declared.event.Coming.TheVariants.{Installed, Restored}
use Rattle.adr_model.specs.Update.{Identifier}
use Rattle.adr_model.specs.Replica.{Replica, begun, on_disk}
use Rattle.adr_model.specs.World.{World, Name, Sent, Snapshot, of_made, put_back, replica_at, stays, with_replica}
use Rattle.adr_model.specs.Step.{comes, gives, made_bound}
use Rattle.adr_law_convergence.proofs.Found.{replica_found}
use Rattle.adr_run_world.specs.declared.run.Run.{Run}
use Rattle.adr_run_world.specs.Adopted.{adoption}
use Rattle.adr_run_world.specs.Run.{AreApart, IsTidy, world_of}
use Rattle.adr_run_world.proofs.Places.{apart_still, placed}

-- what was made is bound, by what comes of its call
pub bound_so : {A : Type 0} (t : Sent A) (binds : World → Option A → World) (v : World) (o : Outcome) (x : Option A) → t ≡ (v, o, x) → made_bound t binds ≡ (binds v x, o)
bound_so {A = A} t binds v o x sent = ap (λ (s : Sent A). made_bound s binds) sent

-- a restore, by what comes of its image
module _ (w : World) (name image : Name) (inv : Identifier) where
  -- what the line gives
  abbrev given : World
  given = gives w [] (inv ∷ [])

  abbrev adopts_it : Replica → World × Outcome
  adopts_it r = adoption w.images image name r.safe.dsa inv given (with_replica w.replicas)

  pub restored_so : (r : Replica) (o : Outcome) (v : World) → replica_at w name ≡ Some r → adoption w.images image name r.safe.dsa inv (gives w [] (inv ∷ [])) (with_replica w.replicas) ≡ (v, o)
      → comes w name inv (Restored image) ≡ (v, o)
  restored_so r o v found is = ap (λ x. of_made (stays given) x adopts_it) found ∙ is

  pub restore_absent : replica_at w name ≡ None → comes w name inv (Restored image) ≡ (gives w [] (inv ∷ []), outcomes.Absent)
  restore_absent none = ap (λ x. of_made (stays given) x adopts_it) none

-- an installation, by what comes of its image
pub installed_so : (w : World) (name : Name) (dsa : Identifier) (image : Name) (inv : Identifier) (o : Outcome) (v : World)
    → adoption w.images image name dsa inv (gives w (dsa ∷ []) (inv ∷ [])) (λ r. w.replicas ++ r ∷ []) ≡ (v, o)
    → comes w name inv (Installed dsa image) ≡ (v, o)
installed_so w name dsa image inv o v is = is

-- the world in which one more controller begins
pub begun_last : (w : World) (dsa inv : Identifier) (made : Replica) (v : World) → made.safe.dsa ≡ dsa → made.safe.inv ≡ inv
    → v ≡ record (gives w (made.safe.dsa ∷ []) (made.safe.inv ∷ [])) { book = begun w.book made.safe; replicas = w.replicas ++ made ∷ [] }
    → record (gives w (dsa ∷ []) (inv ∷ [])) { book = begun w.book made.safe; replicas = w.replicas ++ made ∷ [] } ≡ v
begun_last w dsa inv made v dsa_is inv_is at =
    ap (λ k. record (gives w (k ∷ []) (inv ∷ [])) { book = begun w.book made.safe; replicas = w.replicas ++ made ∷ [] }) (sym dsa_is)
    ∙ ap (λ k. record (gives w (made.safe.dsa ∷ []) (k ∷ [])) { book = begun w.book made.safe; replicas = w.replicas ++ made ∷ [] }) (sym inv_is)
    ∙ sym at

-- another controller comes in place of the one of its name
module _ (r : Run) (name : Name) (i : ℕ) (d : Replica) (here : replica_at (world_of r) name ≡ Some d) (at : slice_get r.controllers.items i ≡ Some d)
    (tidy : IsTidy r) (made : Replica) (named : made.name ≡ name) where
  same_name : made.name ≡ d.name
  same_name = named ∙ sym (replica_found (world_of r) name d here).1

  in_place : slice_set r.controllers.items i made ≡ with_replica r.controllers.items made
  in_place = placed r.controllers.items i d made tidy.apart at same_name

  pub apart_there : AreApart (slice_set r.controllers.items i made)
  apart_there = apart_still r.controllers.items i d made tidy.apart at same_name

  -- the world in which it begins
  pub begun_there : (inv : Identifier) (v : World) → made.safe.inv ≡ inv
      → v ≡ record (gives (world_of r) [] (made.safe.inv ∷ [])) { book = begun r.past.book made.safe; replicas = slice_set r.controllers.items i made }
      → record (gives (world_of r) [] (inv ∷ [])) { book = begun r.past.book made.safe; replicas = with_replica r.controllers.items made } ≡ v
  begun_there inv v inv_is is =
      ap (λ k. record (gives (world_of r) [] (k ∷ [])) { book = begun r.past.book made.safe; replicas = with_replica r.controllers.items made }) (sym inv_is)
      ∙ ap (λ rs. record (gives (world_of r) [] (made.safe.inv ∷ [])) { book = begun r.past.book made.safe; replicas = rs }) (sym in_place)
      ∙ sym is

  -- what putting back a snapshot comes to
  pub put_back_so : (s : Snapshot) (o : Option Snapshot) → Some s ≡ o → made ≡ on_disk name s.state s.log
      → of_made (stays (world_of r)) (replica_at (world_of r) name) (λ x. put_back (world_of r) name o) ≡ (record (world_of r) { clean = false; replicas = slice_set r.controllers.items i made }, outcomes.Ok)
  put_back_so s o is made_is =
      ap (λ x. of_made (stays (world_of r)) x (λ y. put_back (world_of r) name o)) here
      ∙ ap (put_back (world_of r) name) (sym is)
      ∙ ap (λ q. (record (world_of r) { clean = false; replicas = with_replica r.controllers.items q }, outcomes.Ok)) (sym made_is)
      ∙ ap (λ rs. (record (world_of r) { clean = false; replicas = rs }, outcomes.Ok)) (sym in_place)

-- a snapshot that isn't there
pub no_snapshot_so : (w : World) (name : Name) (d : Replica) → replica_at w name ≡ Some d → (o : Option Snapshot) → None ≡ o
    → of_made (stays w) (replica_at w name) (λ x. put_back w name o) ≡ (w, outcomes.Absent)
no_snapshot_so w name d found o none = ap (λ x. of_made (stays w) x (λ y. put_back w name o)) found ∙ ap (put_back w name) (sym none)
