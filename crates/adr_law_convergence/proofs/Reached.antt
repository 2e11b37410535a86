-- What a call of a controller by its name comes to.
use Rattle.std.proofs.Common.{◌≡◌, ◌≢◌, Bool, true, false, Option, Some, None, refl, [], ◌∷◌, ◌++◌}
use Rattle.adr_call.specs.declared.outcome.Outcome.{Outcome}
use Rattle.adr_call.specs.declared.outcome.Outcome.TheVariants as outcomes
use Rattle.adr_call.specs.declared.event.Coming.TheVariants as comings
use Rattle.adr_call.specs.declared.event.Meeting.{Meeting}
use Rattle.adr_call.specs.declared.event.Meeting.TheVariants as meetings
use Rattle.adr_disk.specs.declared.memory.Mishap.TheVariants.{Fails, Stops}
use Rattle.adr_disk.specs.declared.memory.Plan.{Plan}
use Rattle.adr_call.specs.declared.refusal.Table.TheVariants.{Log}
use Rattle.adr_model.specs.Member.{Member}
use Rattle.adr_model.specs.Update.{Identifier}
use Rattle.adr_model.specs.Store.{Store}
use Rattle.adr_model.specs.Refused.{full}
use Rattle.adr_model.specs.Lengths.{log_limit}
use Rattle.adr_model.specs.Replica.{Standing, Up, Down, Failed, Replica}
use Rattle.adr_model.specs.World.{Name, World, Gone, stays, bound_at, replica_at, with_replica, adopts, of_made, of_image, where_up, of_controller, within_log, with_plan, stops, started, starts}
use Rattle.adr_model.specs.Collect.{adopt}
use Rattle.adr_model.specs.Step.{gives, comes, meets}
use Rattle.adr_law_convergence.proofs.Found.{replica_found}
use Rattle.adr_law_convergence.proofs.Refusals.{IsPlain}

-- a controller that a name finds
pub record IsCalled (w : World) (by : Name) (r : Replica) : Type 0 where
  pub there : Member r w.replicas
  pub name : r.name ≡ by

module _ {A : Type 0} (Q : A → Type 0) (w : World) (name : Name) (other : Outcome → A) where
  -- where a call that reaches no one is answered plainly
  module _ (others : (o : Outcome) → IsPlain o → Q (other o)) where
    pub plain_made : (act : Replica → A) → ((r : Replica) → IsCalled w name r → Q (act r)) → Q (of_made other (replica_at w name) act)
    plain_made act acts = by (replica_at w name) refl
      where
        by : (o : Option Replica) → replica_at w name ≡ o → Q (of_made other o act)
        by None is = others outcomes.Absent refl
        by (Some r) is = let t = replica_found w name r is in acts r (record { there = t.0; name = t.1 })

    pub plain_up : (standing : Standing) (gone : A) → (standing ≡ Up → Q gone) → Q (where_up other standing gone)
    plain_up Up gone goes = goes refl
    plain_up Down gone goes = others outcomes.Down refl
    plain_up Failed gone goes = others outcomes.Failed refl

    pub plain_reached : (act : Replica → A) → ((r : Replica) → IsCalled w name r → r.standing ≡ Up → Q (act r)) → Q (of_controller w name other act)
    plain_reached act acts = plain_made (λ r. where_up other r.standing (act r)) (λ r is. plain_up r.standing (act r) (λ up. acts r is up))

  -- where that answer doesn't matter
  module _ (others : (o : Outcome) → Q (other o)) where
    pub made_case : (act : Replica → A) → ((r : Replica) → IsCalled w name r → Q (act r)) → Q (of_made other (replica_at w name) act)
    made_case = plain_made (λ o plain. others o)

    pub up_case : (standing : Standing) (gone : A) → (standing ≡ Up → Q gone) → Q (where_up other standing gone)
    up_case = plain_up (λ o plain. others o)

    pub reached_case : (act : Replica → A) → ((r : Replica) → IsCalled w name r → r.standing ≡ Up → Q (act r)) → Q (of_controller w name other act)
    reached_case = plain_reached (λ o plain. others o)

-- a change that the log has no room for leaves the world as it was
pub fits_case : (Q : Gone → Type 0) (w : World) (fits : Bool) (gone : Gone) → Q (w, full Log log_limit) → (fits ≡ true → Q gone) → Q (within_log w fits gone)
fits_case Q w true gone refused goes = goes refl
fits_case Q w false gone refused goes = refused

pub within_case : (Q : Gone → Type 0) (w : World) (fits : Bool) (gone : Gone) → Q (w, full Log log_limit) → Q gone → Q (within_log w fits gone)
within_case Q w fits gone refused goes = fits_case Q w fits gone refused (λ so. goes)

-- what is bound to a name is an image, or nothing
pub image_case : (Q : Gone → Type 0) (w : World) (o : Option Store) (act : Store → Gone) → Q (w, outcomes.Absent) → ((i : Store) → o ≡ Some i → Q (act i)) → Q (of_image w o act)
image_case Q w None act none acts = none
image_case Q w (Some i) act none acts = acts i refl

-- an image is adopted, as a new controller or as one that is there; whatever the line is answered, it gives its identifiers
module _ (Q : Gone → Type 0) (w : World) (name : Name) (inv : Identifier) (image : Name) where
  pub installs_case : (dsa : Identifier) → Q (gives w (dsa ∷ []) (inv ∷ []), outcomes.Absent)
      → ((i : Store) → bound_at w.images image ≡ Some i → Q (adopts (gives w (dsa ∷ []) (inv ∷ [])) (λ r. w.replicas ++ r ∷ []) name (adopt i dsa inv))) → Q (comes w name inv (comings.Installed dsa image))
  installs_case dsa = image_case Q (gives w (dsa ∷ []) (inv ∷ [])) (bound_at w.images image) (λ i. adopts (gives w (dsa ∷ []) (inv ∷ [])) (λ r. w.replicas ++ r ∷ []) name (adopt i dsa inv))

  pub restores_case : ((o : Outcome) → IsPlain o → Q (gives w [] (inv ∷ []), o))
      → ((r : Replica) → IsCalled w name r → (i : Store) → bound_at w.images image ≡ Some i → Q (adopts (gives w [] (inv ∷ [])) (with_replica w.replicas) name (adopt i r.safe.dsa inv))) → Q (comes w name inv (comings.Restored image))
  restores_case others acts = plain_made Q w name (stays (gives w [] (inv ∷ []))) others (λ r. of_image (gives w [] (inv ∷ [])) (bound_at w.images image) (λ i. adopts (gives w [] (inv ∷ [])) (with_replica w.replicas) name (adopt i r.safe.dsa inv)))
      (λ r is. image_case Q (gives w [] (inv ∷ [])) (bound_at w.images image) (λ i. adopts (gives w [] (inv ∷ [])) (with_replica w.replicas) name (adopt i r.safe.dsa inv)) (others outcomes.Absent refl) (acts r is))

-- whatever befalls a controller stops it, starts it where it isn't up, or plans a mishap of its device
module _ (Q : Gone → Type 0) (w : World) (name : Name) (others : (o : Outcome) → IsPlain o → Q (w, o)) (stopping : (r : Replica) → IsCalled w name r → Q (stops w r))
    (starting : (r : Replica) → IsCalled w name r → r.standing ≢ Up → Q (started w r)) (planning : (r : Replica) → IsCalled w name r → (plan : Plan) → Q (with_plan w r plan)) where
  begun_again : (r : Replica) → IsCalled w name r → (standing : Standing) → r.standing ≡ standing → Q (starts w r standing)
  begun_again r is Up stands = others outcomes.Up refl
  begun_again r is Down stands = starting r is (λ up. absurd (cc))
  begun_again r is Failed stands = starting r is (λ up. absurd (cc))

  met : (r : Replica) → IsCalled w name r → (what : Meeting) → Q (meets w r what)
  met r is meetings.Stop = stopping r is
  met r is meetings.Start = begun_again r is r.standing refl
  met r is (meetings.StopAfter calls how) = planning r is (record { calls = calls; mishap = Stops how })
  met r is (meetings.Fail calls) = planning r is (record { calls = calls; mishap = Fails })

  pub meets_case : (what : Meeting) → Q (of_made (stays w) (replica_at w name) (λ r. meets w r what))
  meets_case what = plain_made Q w name (stays w) others (λ r. meets w r what) (λ r is. met r is what)
