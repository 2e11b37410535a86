-- What a call of the controller at a place makes of the run's world.
use Rattle.std.proofs.Common.{◌≡◌, ◌≢◌, ◌∙◌, refl, sym, ap, subst, inl, inr, ◌⊎◌, ℕ, ◌<◌, length, slice_set, Option, Some}
use Rattle.std.specs.Prelude.{Result, IfOk, slice_get, slice_index_or}
use Rattle.std.proofs.lemmas.Result.{IfOk-weaker}
use Rattle.adr_call.specs.declared.outcome.Outcome.{Outcome}
use Rattle.adr_call.specs.declared.outcome.Outcome.TheVariants as outcomes
use Rattle.adr_call.specs.declared.event.Event.TheVariants.{Meets}
use Rattle.adr_call.specs.declared.event.Meeting.TheVariants.{Start}
use Rattle.adr_disk.specs.declared.memory.Plan.{Plan}
use Rattle.adr_model.specs.Replica.{Replica, Up}
use Rattle.adr_model.specs.World.{World, Name, Gone, Sent, replica_at, of_made, of_controller, where_up, stays, nothing, with_plan, with_replica}
use Rattle.adr_run_replica.specs.Past.{Past}
use Rattle.adr_run_replica.specs.Led.{StandsIn, IsUndone, IsDone, Leads, LeadsAt, synced, world_with}
use Rattle.adr_run_world.specs.declared.run.Run.{Run}
use Rattle.adr_run_world.specs.Run.{AreApart, AreRanged, AreSpelled, IsTidy, with_past, world_of}
use Rattle.adr_run_world.specs.Short.{IsCutShort}
use Rattle.adr_run_world.proofs.Places.{at_place, placed, unplaced, apart_still}
use Rattle.adr_run_world.proofs.Calls.{reaches}

-- the world in which the controller at a place became this one, and the past that one
abbrev pub run_with : Run → ℕ → Replica → Past → World
run_with r i new later = record (world_of r) { book = later.book; last_replies = later.last_replies; replicas = slice_set r.controllers.items i new; given = later.given }

-- the controller at the place of a name is the one of the name
pub found_there : (r : Run) (name : Name) (i : ℕ) (d : Replica) → i < length r.controllers.items → d ≡ slice_index_or r.controllers.items i d → replica_at (world_of r) name ≡ slice_get r.controllers.items i
    → replica_at (world_of r) name ≡ Some d
found_there r name i d lt read found = found ∙ at_place r.controllers.items i d lt read

-- what a call made of the controller of a name, at its place in a run in order, and of the past
pub record Becomes (r : Run) (name : Name) (i : ℕ) (d new : Replica) (later : Past) : Type 0 where
  pub place : i < length r.controllers.items
  pub read : d ≡ slice_index_or r.controllers.items i d
  pub found : replica_at (world_of r) name ≡ slice_get r.controllers.items i
  pub tidy : IsTidy r
  pub named : new.name ≡ d.name
  pub given : later.given ≡ r.past.given

module _ {r : Run} {name : Name} {i : ℕ} {d new : Replica} {later : Past} (b : Becomes r name i d new later) where
  at : slice_get r.controllers.items i ≡ Some d
  at = at_place r.controllers.items i d b.place b.read

  there : replica_at (world_of r) name ≡ Some d
  there = found_there r name i d b.place b.read b.found

  pub stands : StandsIn (world_of r) d r.past
  stands = record { book = refl; told = refl; there = sym (placed r.controllers.items i d d b.tidy.apart at refl) ∙ unplaced r.controllers.items i d at }

  -- nothing has changed
  pub undone : IsUndone d r.past new later → run_with r i new later ≡ world_of r
  undone is =
      ap (λ (x : Replica). run_with r i x later) is.0
      ∙ ap (λ rs. record (with_past later (world_of r)) { replicas = rs }) (unplaced r.controllers.items i d at)
      ∙ ap (λ (p : Past). with_past p (world_of r)) is.1

  -- names still differ, and a run with the same messages is in order
  pub apart_with : AreApart (slice_set r.controllers.items i new)
  apart_with = apart_still r.controllers.items i d new b.tidy.apart at b.named

  pub tidy_with : {v : Run} → v.controllers.items ≡ slice_set r.controllers.items i new → v.requests ≡ r.requests → v.replies ≡ r.replies → IsTidy v
  tidy_with controllers requests replies = record {
    apart = subst AreApart (sym controllers) apart_with;
    requests = subst AreRanged (sym requests) b.tidy.requests;
    replies = subst AreSpelled (sym replies) b.tidy.replies;
  }

  became : world_with (world_of r) new later ≡ run_with r i new later
  became =
      ap (λ rs. record (world_of r) { book = later.book; last_replies = later.last_replies; replicas = rs }) (sym (placed r.controllers.items i d new b.tidy.apart at b.named))
      ∙ ap (λ g. record (world_of r) { book = later.book; last_replies = later.last_replies; replicas = slice_set r.controllers.items i new; given = g }) (sym b.given)

  -- what a call by the name comes to, where the controller is up
  pub led : (act : Replica → Gone) (o : Outcome) → where_up (stays (world_of r)) d.standing (act d) ≡ (world_with (world_of r) new later, o)
      → of_controller (world_of r) name (stays (world_of r)) act ≡ (run_with r i new later, o)
  led act o is = reaches (world_of r) name (stays (world_of r)) act d there ∙ is ∙ ap (λ v. (v, o)) became

  pub led_to : {A : Type 0} (act : Replica → Sent A) (o : Outcome) (m : Option A) → where_up (nothing (world_of r)) d.standing (act d) ≡ (world_with (world_of r) new later, o, m)
      → of_controller (world_of r) name (nothing (world_of r)) act ≡ (run_with r i new later, o, m)
  led_to act o m is = reaches (world_of r) name (nothing (world_of r)) act d there ∙ is ∙ ap (λ v. (v, o, m)) became

  -- and however it stands
  pub led_anyhow : (act : Replica → Gone) (o : Outcome) → act d ≡ (world_with (world_of r) new later, o) → of_made (stays (world_of r)) (replica_at (world_of r) name) act ≡ (run_with r i new later, o)
  led_anyhow act o is = ap (λ x. of_made (stays (world_of r)) x act) there ∙ is ∙ ap (λ v. (v, o)) became

  -- the same, of what is returned
  pub leads : {E : Type 0} (t : Result Outcome E) (act : World → Replica → Gone) → IfOk t (λ o. Leads d r.past (λ w. where_up (stays w) d.standing (act w d)) new later o)
      → IfOk t (λ o. of_controller (world_of r) name (stays (world_of r)) (act (world_of r)) ≡ (run_with r i new later, o))
  leads t act = IfOk-weaker t _ _ (λ o is. led (act (world_of r)) o (is (world_of r) stands))

  pub leads_to : {A E : Type 0} (t : Result (Outcome × Option A) E) (act : World → Replica → Sent A)
      → IfOk t (λ m. LeadsAt r.time d r.past (λ w. where_up (nothing w) d.standing (act w d)) new later m.0 m.1)
      → IfOk t (λ m. of_controller (world_of r) name (nothing (world_of r)) (act (world_of r)) ≡ (run_with r i new later, m.0, m.1))
  leads_to t act = IfOk-weaker t _ _ (λ m is. led_to (act (world_of r)) m.0 m.1 (is (world_of r) refl stands))

  pub leads_anyhow : {E : Type 0} (t : Result Outcome E) (act : World → Replica → Gone) → IfOk t (λ o. Leads d r.past (λ w. act w d) new later o)
      → IfOk t (λ o. of_made (stays (world_of r)) (replica_at (world_of r) name) (act (world_of r)) ≡ (run_with r i new later, o))
  leads_anyhow t act = IfOk-weaker t _ _ (λ o is. led_anyhow (act (world_of r)) o (is (world_of r) stands))

  -- all of a call is done, though it wasn't answered
  done : (v : World) → v ≡ world_with (world_of r) new later → run_with r i new later ≡ v
  done v is = sym (is ∙ became)

  -- nothing of a start is done, or its sync
  pub start_short : IsUndone d r.past new later ⊎ ((d.standing ≢ Up) × IsDone d r.past (λ w. synced w d) new later) → IsCutShort (world_of r) (Meets name Start) (run_with r i new later)
  start_short (inl none) = inl (undone none)
  start_short (inr (not_up, all)) = inr (d, there, not_up, done (synced (world_of r) d) (all (world_of r) stands))

-- a plan was set
pub planned : {r : Run} {name : Name} {i : ℕ} {d new : Replica} → Becomes r name i d new r.past → (plan : Plan) → new ≡ record d { device = record d.device { plan = Some plan } }
    → of_made (stays (world_of r)) (replica_at (world_of r) name) (λ x. with_plan (world_of r) x plan) ≡ (run_with r i new r.past, outcomes.Ok)
planned {r} b plan is =
    let w = world_of r in
    led_anyhow b (λ x. with_plan w x plan) outcomes.Ok (ap (λ (x : Replica). (record w { replicas = with_replica w.replicas x }, outcomes.Ok)) (sym is))
