-- A cycle between controllers that are up, of one schema, with what was collected covered, is refused by limits alone.
use Rattle.std.proofs.Common.{◌≡◌, ◌⊎◌, inl, inr, ⊎_elim, ℕ, zero, suc, List, [], ◌∷◌, Bool, true, false, Some, None, is_none, refl, sym, ap, ◌∙◌, subst, codes}
use Rattle.adr_call.specs.declared.answer.Answer.{Answer}
use Rattle.adr_call.specs.declared.outcome.Outcome.{Outcome}
use Rattle.adr_call.specs.declared.outcome.Outcome.TheVariants as outcomes
use Rattle.adr_model.specs.Member.{Member, Each}
use Rattle.adr_model.specs.Reflects.{Numbers}
use Rattle.adr_model.specs.Store.{Store}
use Rattle.adr_model.specs.Replica.{Replica}
use Rattle.adr_model.specs.World.{Name, World, answer, replica_at}
use Rattle.adr_model.specs.Cycles.{Pulled, and_then, pulls, reply_limit, cycle}
use Rattle.adr_model.specs.Sound.{IsSoundWorld}
use Rattle.adr_model.specs.Convergence.{IsRefused, AreUnlimited}
use Rattle.adr_model.proofs.Members.{member_right, member_of_either}
use Rattle.adr_law_convergence.proofs.Cycling.{Goes, reply, next, behind, taking, told, Takes, MeetsLimit, took, taken_or_not, still_unplanned, server, goes_on}
use Rattle.adr_law_convergence.proofs.Found.{replica_found}
use Rattle.adr_run_exercise.specs.Summary.{refusals_in}
use Rattle.adr_run_exercised.proofs.Answered.{finds_named}
use Rattle.adr_run_exercised.proofs.Between.{AreBetween, covers_purged}
use Rattle.adr_run_exercised.proofs.Manned.{AreManned}
use Rattle.adr_run_exercised.proofs.Uncut.{NoneIsRefused}

-- ---- pulls

abbrev Goal : World × List Answer → Type 0
Goal t = AreUnlimited t.1 → NoneIsRefused t.1

pulls_unrefused : (w : World) (dest source : Name) (most fuel : ℕ) (v : World) (d s : Replica) → Goes w v dest source d s → d.device.plan ≡ None → Goal (pulls fuel v dest source most)
pulls_unrefused w dest source most zero v d s goes none = λ unlimited. more
  where
    more : NoneIsRefused (answer (codes "cycle") dest outcomes.More ∷ [])
    more a (inl e) = ap (λ (b : Answer). refusals_in b.outcome) e
    more a (inr m) = absurd m
pulls_unrefused w dest source most (suc fuel) v d s goes none = by (λ x e f is unplanned. pulls_unrefused w dest source most fuel x e f is unplanned) (taken_or_not w v dest source d s goes most none)
  where
    u : World
    u = behind w v dest source d s goes most

    answers : Outcome → List Answer
    answers o = told w v dest source d s goes most o

    go : World → World × List Answer
    go x = pulls fuel x dest source most

    Rest : Type 0
    Rest = (x : World) (e f : Replica) → Goes w x dest source e f → e.device.plan ≡ None → Goal (pulls fuel x dest source most)

    -- the answers of a pull that takes its reply
    well : NoneIsRefused (answers (taking w v dest source d s goes most))
    well a (inl e) = ap (λ (b : Answer). refusals_in b.outcome) e
    well a (inr (inl e)) = ap (λ (b : Answer). refusals_in b.outcome) e
    well a (inr (inr (inl e))) = ap (λ (b : Answer). refusals_in b.outcome) e
    well a (inr (inr (inr m))) = absurd m

    goes_further : Rest → Takes w v dest source d s goes most → (b : Bool) → Goal (and_then (u, answers (taking w v dest source d s goes most), b) go)
    goes_further rest ok true unlimited a m = ⊎_elim
        (λ l. well a l)
        (λ r. rest u (next w v dest source d s goes most) (server w v dest source d s goes most) (goes_on w v dest source d s goes most ok) (still_unplanned w v dest source d s goes most none)
        ((λ x k. unlimited.0 x (member_right (answers (taking w v dest source d s goes most)) (go u).1 x k)), (λ x k. unlimited.1 x (member_right (answers (taking w v dest source d s goes most)) (go u).1 x k))) a r)
        (member_of_either (answers (taking w v dest source d s goes most)) (go u).1 a m)
    goes_further rest ok false unlimited a m = well a m

    limited : (o : Outcome) → IsRefused 21 o ⊎ IsRefused 22 o → AreUnlimited (answers o) → ⊥
    limited o (inl is) unlimited = unlimited.0 (answer (codes "deliver") dest o) (inr (inr (inl refl))) is
    limited o (inr is) unlimited = unlimited.1 (answer (codes "deliver") dest o) (inr (inr (inl refl))) is

    by : Rest → Takes w v dest source d s goes most ⊎ MeetsLimit w v dest source d s goes most → Goal (pulls (suc fuel) v dest source most)
    by rest (inl ok) = subst (λ (p : Pulled). Goal (and_then p go)) (sym (took w v dest source d s goes most ok)) (goes_further rest ok (is_none (reply w v dest source d s goes most).last))
    by rest (inr (o, e, limit)) = subst (λ (p : Pulled). Goal (and_then p go)) (sym e) (λ unlimited. absurd (limited o limit unlimited))

-- ---- cycles

-- of one schema
abbrev pub HasFirstSchema : Store → Type 0
HasFirstSchema s = s.schema ≡ 1

module _ (V : Numbers) (names : List Name) (w : World) (sound : IsSoundWorld w) (are : AreManned names w.replicas) (schema : Each (λ r. HasFirstSchema r.safe.store) w.replicas) (between : AreBetween V names w) where
  pub cycle_unrefused : (dest source : Name) (most : ℕ) → Member dest names → Member source names → AreUnlimited (cycle w dest source most).1 → NoneIsRefused (cycle w dest source most).1
  cycle_unrefused dest source most m n = pulls_unrefused w dest source most reply_limit w d.0 s.0 goes (are.ready d.0 d_there.0).1
    where
      d : (r : Replica) × (replica_at w dest ≡ Some r)
      d = finds_named names w are dest m

      s : (r : Replica) × (replica_at w source ≡ Some r)
      s = finds_named names w are source n

      d_there : Member d.0 w.replicas × (d.0.name ≡ dest)
      d_there = replica_found w dest d.0 d.1

      s_there : Member s.0 w.replicas × (s.0.name ≡ source)
      s_there = replica_found w source s.0 s.1

      goes : Goes w w dest source d.0 s.0
      goes = record {
        sound = sound;
        issued = refl;
        d_found = d.1;
        s_found = s.1;
        d_up = (are.ready d.0 d_there.0).0;
        s_up = (are.ready s.0 s_there.0).0;
        schema = schema d.0 d_there.0 ∙ sym (schema s.0 s_there.0);
        purged = covers_purged V w sound s.0 d.0 s_there.0 (between s.0 s_there.0 (subst (λ x. Member x names) (sym s_there.1) n)) (between d.0 d_there.0 (subst (λ x. Member x names) (sym d_there.1) m));
      }
