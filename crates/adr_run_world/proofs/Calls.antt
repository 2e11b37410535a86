-- What calls by a name come to.
use Rattle.std.proofs.Common.{◌≡◌, ◌∙◌, ℕ, refl, sym, ap, Option, Some, None, Result, Ok, Err}
use Rattle.std.specs.Prelude.{IsSome}
use Rattle.adr_call.specs.declared.outcome.Outcome.{Outcome}
use Rattle.adr_call.specs.declared.outcome.Outcome.TheVariants as outcomes
use Rattle.adr_call.specs.declared.refusal.ServeRefusal.{ServeRefusal}
use Rattle.adr_call.specs.declared.refusal.ServeRefusal.TheVariants as serves
use Rattle.adr_model.specs.Update.{Identifier}
use Rattle.adr_model.specs.Serve.{Request, Reply, ask, serve}
use Rattle.adr_model.specs.Replica.{Standing, Up, Down, Failed, Replica}
use Rattle.adr_model.specs.World.{World, Name, Sent, replica_at, of_made, of_controller, where_up, nothing, not_sent, stays, asks, serves_request, after_serve, served, delivers, delivered, shown}
use Rattle.adr_run_replica.specs.Past.{Past}
use Rattle.adr_run_world.specs.Run.{with_past}

module _ {A : Type 0} (w : World) (name : Name) (other : Outcome → A) (act : Replica → A) where
  -- a call reaches the controller
  pub reaches : (r : Replica) → replica_at w name ≡ Some r → of_controller w name other act ≡ where_up other r.standing (act r)
  reaches r is = ap (λ o. of_made other o (λ x. where_up other x.standing (act x))) is

  -- or no one
  pub reaches_none : replica_at w name ≡ None → of_controller w name other act ≡ other outcomes.Absent
  reaches_none is = ap (λ o. of_made other o (λ x. where_up other x.standing (act x))) is

module _ (w : World) (name partner : Name) (max version : ℕ) where
  pub asked_so : (a b : Replica) (dsa : Identifier) (o : Outcome) (q : Option Request) → replica_at w name ≡ Some a → replica_at w partner ≡ Some b → dsa ≡ b.safe.dsa
      → where_up (nothing w) a.standing (w, outcomes.Ok, Some (ask a.safe dsa max version)) ≡ (w, o, q) → asks w name partner max version ≡ (w, o, q)
  asked_so a b dsa o q first second whom made =
      ap (λ x. of_made (nothing w) x (λ r. of_made (nothing w) (replica_at w partner) (λ p. where_up (nothing w) r.standing (w, outcomes.Ok, Some (ask r.safe p.safe.dsa max version))))) first
      ∙ ap (λ x. of_made (nothing w) x (λ p. where_up (nothing w) a.standing (w, outcomes.Ok, Some (ask a.safe p.safe.dsa max version)))) second
      ∙ ap (λ d. where_up (nothing w) a.standing (w, outcomes.Ok, Some (ask a.safe d max version))) (sym whom)
      ∙ made

  pub no_asker_so : replica_at w name ≡ None → asks w name partner max version ≡ (w, outcomes.Absent, None)
  no_asker_so none = ap (λ x. of_made (nothing w) x (λ r. of_made (nothing w) (replica_at w partner) (λ p. where_up (nothing w) r.standing (w, outcomes.Ok, Some (ask r.safe p.safe.dsa max version))))) none

  pub no_partner_so : replica_at w partner ≡ None → asks w name partner max version ≡ (w, outcomes.Absent, None)
  no_partner_so none = by (replica_at w name)
    where
      by : (o : Option Replica) → of_made (nothing w) o (λ r. of_made (nothing w) (replica_at w partner) (λ p. where_up (nothing w) r.standing (w, outcomes.Ok, Some (ask r.safe p.safe.dsa max version)))) ≡ (w, outcomes.Absent, None)
      by None = refl
      by (Some r) = ap (λ x. of_made (nothing w) x (λ p. where_up (nothing w) r.standing (w, outcomes.Ok, Some (ask r.safe p.safe.dsa max version)))) none

-- a message that isn't there is answered so also where messages are sent
pub nothing_sent : {A : Type 0} (w : World) (s : Standing) (o : Outcome) → where_up (stays w) s (w, outcomes.Absent) ≡ (w, o) → where_up (nothing {A = A} w) s (w, outcomes.Absent, None) ≡ (w, o, None)
nothing_sent w Up o is = ap not_sent is
nothing_sent w Down o is = ap not_sent is
nothing_sent w Failed o is = ap not_sent is

module _ (w : World) (name : Name) (r : Replica) (is : replica_at w name ≡ Some r) (o : Outcome) (said : where_up (stays w) r.standing (w, outcomes.Absent) ≡ (w, o)) where
  pub no_request_so : (q : Option Request) → None ≡ q → serves_request w name q ≡ (w, o, None)
  no_request_so q none = ap (serves_request w name) (sym none) ∙ reaches w name (nothing w) (λ x. served w x None) r is ∙ nothing_sent w r.standing o said

  pub no_reply_so : (p : Option Reply) → None ≡ p → delivers w name p ≡ (w, o)
  no_reply_so p none = ap (delivers w name) (sym none) ∙ reaches w name (stays w) (λ x. delivered w x None) r is ∙ said

-- ---- where a reply was made, nothing has changed but that it is noted

module _ (w : World) (p : Past) where
  after_kept : (r : Replica) (t : Result Reply ServeRefusal) (v : World) (o : Outcome) (reply : Reply) → after_serve w r t ≡ (v, o, Some reply) → with_past p v ≡ with_past p w
  after_kept r (Ok x) v o reply e = ap (with_past p) (sym (ap (λ (t : Sent Reply). t.0) e))
  after_kept r (Err (serves.RolledBack inv mine shown)) v o reply e = let none : None ≡ Some reply = ap (λ (t : Sent Reply). t.2) e in absurd (cc)
  after_kept r (Err x) v o reply e = let none : None ≡ Some reply = ap (λ (t : Sent Reply). t.2) e in absurd (cc)

  up_kept : (r : Replica) (t : Result Reply ServeRefusal) (s : Standing) (v : World) (o : Outcome) (reply : Reply) → where_up (nothing w) s (after_serve w r t) ≡ (v, o, Some reply) → with_past p v ≡ with_past p w
  up_kept r t Up v o reply e = after_kept r t v o reply e
  up_kept r t Down v o reply e = let none : None ≡ Some reply = ap (λ (t : Sent Reply). t.2) e in absurd (cc)
  up_kept r t Failed v o reply e = let none : None ≡ Some reply = ap (λ (t : Sent Reply). t.2) e in absurd (cc)

module _ (w : World) (p : Past) (name : Name) (q : Request) where
  -- where a reply was made, the world is as before, with the same past
  pub reply_keeps : (v : World) (o : Outcome) (reply : Reply) → serves_request w name (Some q) ≡ (v, o, Some reply) → with_past p v ≡ with_past p w
  reply_keeps v o reply e = by (replica_at w name) refl
    where
      by : (x : Option Replica) → replica_at w name ≡ x → with_past p v ≡ with_past p w
      by None is = let none : None ≡ Some reply = ap (λ (t : Sent Reply). t.2) (sym (reaches_none w name (nothing w) (λ r. served w r (Some q)) is) ∙ e) in absurd (cc)
      by (Some r) is = up_kept w p r (serve r.safe q w.time) r.standing v o reply (sym (reaches w name (nothing w) (λ x. served w x (Some q)) r is) ∙ e)

  -- and so where something was sent
  pub sent_keeps : (v : World) (o : Outcome) (sent : Option Reply) → IsSome sent → serves_request w name (Some q) ≡ (v, o, sent) → with_past p v ≡ with_past p w
  sent_keeps v o None some e = absurd (cc)
  sent_keeps v o (Some reply) some e = reply_keeps v o reply e
