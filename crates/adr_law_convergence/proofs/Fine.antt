-- A pull that went well was one between two controllers that are up, with one schema and nothing collected that the one doesn't cover.
use Rattle.std.proofs.Common.{◌≡◌, inl, inr, ℕ, List, Bool, true, false, Option, Some, None, Result, Ok, Err, refl, ap, ◌∙◌, subst, ◌==◌}
use Rattle.std.specs.Prelude.{codes}
use Rattle.std.proofs.lemmas.Bool.{eqb-true}
use Rattle.adr_call.specs.declared.answer.Answer.{Answer}
use Rattle.adr_call.specs.declared.outcome.Outcome.{Outcome}
use Rattle.adr_call.specs.declared.outcome.Outcome.TheVariants as outcomes
use Rattle.adr_call.specs.declared.refusal.ServeRefusal.{ServeRefusal}
use Rattle.adr_call.specs.declared.refusal.ServeRefusal.TheVariants as serves
use Rattle.adr_model.specs.Member.{Member}
use Rattle.adr_model.specs.Serve.{Request, Reply, ask, serve_refusal, serve_refusals, reply_to, serve}
use Rattle.adr_model.specs.Lengths.{change_fits}
use Rattle.adr_model.specs.Refused.{serve_refused}
use Rattle.adr_model.specs.Collect.{quarantine}
use Rattle.adr_disk.specs.declared.memory.Mishap.TheVariants.{Fails, Stops}
use Rattle.adr_model.specs.Replica.{ToQuarantine, Standing, Up, Down, Failed, Went, Passed, Met, Pending, Replica, outcome_after, commit_goes}
use Rattle.adr_model.specs.World.{Name, World, Gone, Sent, answer, replica_at, of_made, where_up, nothing, asks, after_serve, served, serves_request, committed, commit, quarantines}
use Rattle.adr_model.specs.Cycles.{Pulled, first_told, pull_asked, pull, and_then, pull_version}
use Rattle.adr_model.specs.Sound.{IsSoundWorld}
use Rattle.adr_model.proofs.Members.{member_left}
use Rattle.adr_law_knowledge.proofs.Refusing.{none_there, is_so, answered, no_gap}
use Rattle.adr_law_convergence.proofs.Reached.{within_case}
use Rattle.adr_law_convergence.proofs.Cycling.{Goes}
use Rattle.adr_model.specs.Rings.{is_fine}
use Rattle.adr_law_convergence.specs.Rounds.{IsWhole}

abbrev IsFine : Outcome → Type 0
IsFine o = is_fine o ≡ true

-- ---- calls that tell something else

after_calls : (o : Outcome) → (IsFine o → ⊥) → (g : Went) → IsFine (outcome_after g o) → ⊥
after_calls o none (Passed left) fine = none fine
after_calls o none (Met place (Stops how)) fine = absurd (cc)
after_calls o none (Met place Fails) fine = absurd (cc)

not_committed : (w : World) (r : Replica) (p : Pending) (o : Outcome) → (IsFine o → ⊥) → IsFine (commit w r p o).1 → ⊥
not_committed w r p o none = within_case (λ (g : Gone). IsFine g.1 → ⊥) w (change_fits r.device.safe_log r.safe.store p.change) (committed w r p o) (λ fine. absurd (cc)) (after_calls o none (commit_goes r p))

-- a request that is answered
was_served : (w : World) (s : Replica) (t : Result Reply ServeRefusal) → IsFine (after_serve w s t).1 → (r : Reply) × (t ≡ Ok r)
was_served w s (Ok r) fine = (r, refl)
was_served w s (Err serves.Quarantined) fine = absurd (cc)
was_served w s (Err (serves.WrongController mine asked)) fine = absurd (cc)
was_served w s (Err (serves.BadMark prop obj seen)) fine = absurd (cc)
was_served w s (Err (serves.RolledBack inv mine shown)) fine = absurd (refused fine)
  where
    refused : IsFine (quarantines w s (serve_refused (serves.RolledBack inv mine shown))).1 → ⊥
    refused = not_committed w s (record { call = ToQuarantine; change = quarantine s.safe }) (serve_refused (serves.RolledBack inv mine shown)) (λ f. absurd (cc))
was_served w s (Err (serves.SchemaMismatch mine theirs)) fine = absurd (cc)
was_served w s (Err (serves.TooOld inv purged has)) fine = absurd (cc)

is_up : {A : Type 0} (w : World) (st : Standing) (t : Sent A) → IsFine (where_up (nothing w) st t).1 → (st ≡ Up) × IsFine t.1
is_up w Up t fine = (refl, fine)
is_up w Down t fine = absurd (cc)
is_up w Failed t fine = absurd (cc)

-- ---- the pull

module _ (w : World) (sound : IsSoundWorld w) (dest source : Name) (most : ℕ) where
  -- what is asked, by who is found
  abbrev asked : Option Replica → Option Replica → Sent Request
  asked o p = of_made (nothing w) o (λ d. of_made (nothing w) p (λ s. where_up (nothing w) d.standing (w, outcomes.Ok, Some (ask d.safe s.safe.dsa most pull_version))))

  record Asks : Type 0 where
    d : Replica
    s : Replica
    d_found : replica_at w dest ≡ Some d
    s_found : replica_at w source ≡ Some s
    d_up : d.standing ≡ Up

  who_asks : (o p : Option Replica) → replica_at w dest ≡ o → replica_at w source ≡ p → IsFine (asked o p).1 → Asks
  who_asks None p e f fine = absurd (cc)
  who_asks (Some d) None e f fine = absurd (cc)
  who_asks (Some d) (Some s) e f fine = record { d = d; s = s; d_found = e; s_found = f; d_up = (is_up w d.standing (w, outcomes.Ok, Some (ask d.safe s.safe.dsa most pull_version)) fine).0 }

  module _ (a : Asks) where
    abbrev q : Request
    q = ask a.d.safe a.s.safe.dsa most pull_version

    asks_are : asks w dest source most pull_version ≡ (w, outcomes.Ok, Some q)
    asks_are =
        ap (λ o. asked o (replica_at w source)) a.d_found
        ∙ (ap (λ p. asked (Some a.d) p) a.s_found
        ∙ ap (λ st. where_up (nothing w) st (w, outcomes.Ok, Some q)) a.d_up)

    pull_is : pull w dest source most ≡ first_told (answer (codes "ask") dest outcomes.Ok) (pull_asked dest source w (Some q))
    pull_is = ap (λ (t : Sent Request). first_told (answer (codes "ask") dest t.1) (pull_asked dest source t.0 t.2)) asks_are

    serve_is : serves_request w source (Some q) ≡ where_up (nothing w) a.s.standing (after_serve w a.s (serve a.s.safe q w.time))
    serve_is = ap (λ o. of_made (nothing w) o (λ r. where_up (nothing w) r.standing (served w r (Some q)))) a.s_found

    goes : IsWhole (pull w dest source most).1 → (d : Replica) × (s : Replica) × Goes w w dest source d s
    goes fine = (
      a.d,
      a.s,
      record {
        sound = sound;
        issued = refl;
        d_found = a.d_found;
        s_found = a.s_found;
        d_up = a.d_up;
        s_up = up.0;
        schema = eqb-true q.schema a.s.safe.store.schema (is_so (q.schema == a.s.safe.store.schema) (serves.SchemaMismatch a.s.safe.store.schema q.schema)
            (all (inr (inr (inr (inr (inl refl)))))));
        purged = no_gap (λ gap. serves.TooOld gap.0 gap.2 gap.1) a.s.safe.store.purged q.vector (all (inr (inr (inr (inr (inr (inl refl)))))));
      },
    )
      where
        second : IsFine (serves_request w source (Some q)).1
        second = subst (λ (p : Pulled). IsWhole p.1) pull_is fine (answer (codes "serve") source (serves_request w source (Some q)).1) (inr (inl refl))

        up : (a.s.standing ≡ Up) × IsFine (after_serve w a.s (serve a.s.safe q w.time)).1
        up = is_up w a.s.standing (after_serve w a.s (serve a.s.safe q w.time)) (subst (λ (t : Sent Reply). IsFine t.1) serve_is second)

        none : serve_refusal a.s.safe q ≡ None
        none = let r = was_served w a.s (serve a.s.safe q w.time) up.1 in (answered (serve_refusal a.s.safe q) (reply_to a.s.safe q w.time) r.0 r.1).0

        all : {o : Option ServeRefusal} → Member o (serve_refusals a.s.safe q) → o ≡ None
        all {o} m = none_there (serve_refusals a.s.safe q) none o m

  pub goes_where_fine : IsWhole (pull w dest source most).1 → (d : Replica) × (s : Replica) × Goes w w dest source d s
  goes_where_fine fine = goes (who_asks (replica_at w dest) (replica_at w source) refl refl (fine (answer (codes "ask") dest (asks w dest source most pull_version).1) (inl refl))) fine

-- the first pull of what went well went well
pub first_is_fine : (p : Pulled) (go : World → World × List Answer) → IsWhole (and_then p go).1 → IsWhole p.1
first_is_fine p go = by p.2
  where
    by : (b : Bool) → IsWhole (and_then (p.0, p.1, b) go).1 → IsWhole p.1
    by true fine a m = fine a (member_left p.1 (go p.0).1 a m)
    by false fine a m = fine a m
