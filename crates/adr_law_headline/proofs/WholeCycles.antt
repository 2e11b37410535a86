-- A cycle with nothing in its way is whole, where no limit is met and the source has no more units than a cycle may take replies.
use Rattle.std.proofs.Common.{◌≡◌, ◌⊎◌, inl, inr, ⊎_elim, ℕ, zero, suc, ◌+◌, ◌≤◌, List, ◌++◌, Option, Some, None, is_none, refl, sym, ap, ◌∙◌, subst, arith, filter, length}
use Rattle.std.specs.Prelude.{codes, nat_lt}
use Rattle.adr_values.specs.Vector.{Cursors}
use Rattle.adr_call.specs.declared.answer.Answer.{Answer}
use Rattle.adr_call.specs.declared.outcome.Outcome.{Outcome}
use Rattle.adr_model.specs.Update.{Identifier}
use Rattle.adr_model.specs.Store.{Held, State, kept_of, mark_of}
use Rattle.adr_model.specs.Serve.{last_local, units_of}
use Rattle.adr_model.specs.Replica.{Replica}
use Rattle.adr_model.specs.World.{Name, World, answer}
use Rattle.adr_model.specs.Cycles.{Pulled, and_then, pulls, cycle, reply_limit}
use Rattle.adr_model.specs.Rings.{is_fine}
use Rattle.adr_model.specs.Sound.{IsSoundWorld}
use Rattle.adr_model.specs.Convergence.{MayCycle, units_beyond, IsRefused, AreUnlimited}
use Rattle.adr_model.proofs.Members.{member_of_either, member_right}
use Rattle.adr_law_convergence.specs.Rounds.{IsWhole}
use Rattle.adr_law_convergence.proofs.Cycling.{Goes, IsLike, reply, next, behind, taking, told, Takes, MeetsLimit, took, taken_or_not, still_unplanned, server, server_like, goes_on, nearer_end}
use Rattle.adr_law_convergence.proofs.Completing.{found_by_name, cycle_ends}
use Rattle.adr_law_headline.specs.Cycles.{CyclesEnd}

-- the units beyond a mark, by what the source is and has
abbrev units_of_source : State → Identifier → Identifier → List Held → ℕ
units_of_source d dsa inv rows = length (filter (λ unit. nat_lt (mark_of (kept_of d.store dsa) inv).obj (last_local rows unit)) (units_of rows))

-- a source that is like another one has as many
beyond_alike : (d s z : State) → IsLike s z → units_beyond d z ≡ units_beyond d s
beyond_alike d s z like =
    ap (λ x. units_of_source d x z.inv z.store.rows) like.dsa
    ∙ (ap (λ x. units_of_source d s.dsa x z.store.rows) like.inv ∙ ap (units_of_source d s.dsa s.inv) like.rows)

unlimited_rest : (first rest : List Answer) → AreUnlimited (first ++ rest) → AreUnlimited rest
unlimited_rest first rest none = (λ a m. none.0 a (member_right first rest a m), λ a m. none.1 a (member_right first rest a m))

-- the pulls of a cycle, of which as many may come as there are units beyond the mark
whole_pulls : (w : World) (dest source : Name) (most : ℕ) → 1 ≤ most → (fuel : ℕ) (v : World) (d s : Replica) → Goes w v dest source d s → d.device.plan ≡ None
    → 1 ≤ fuel → units_beyond d.safe s.safe ≤ fuel → AreUnlimited (pulls fuel v dest source most).1 → IsWhole (pulls fuel v dest source most).1
whole_pulls w dest source most le zero v d s goes unplanned some few = absurd (omega (arith, some))
whole_pulls w dest source most le (suc fuel) v d s goes unplanned some few = by (λ x e f is none one fewer. whole_pulls w dest source most le fuel x e f is none one fewer) (taken_or_not w v dest source d s goes most unplanned)
  where
    n : Replica
    n = next w v dest source d s goes most

    z : Replica
    z = server w v dest source d s goes most

    u : World
    u = behind w v dest source d s goes most

    answers : List Answer
    answers = told w v dest source d s goes most (taking w v dest source d s goes most)

    go : World → World × List Answer
    go x = pulls fuel x dest source most

    Goal : World × List Answer → Type 0
    Goal t = AreUnlimited t.1 → IsWhole t.1

    Rest : Type 0
    Rest = (x : World) (e f : Replica) → Goes w x dest source e f → e.device.plan ≡ None → 1 ≤ fuel → units_beyond e.safe f.safe ≤ fuel → Goal (pulls fuel x dest source most)

    -- the answers of a pull whose reply was taken
    fine : IsWhole answers
    fine a (inl e) = ap (λ (b : Answer). is_fine b.outcome) e
    fine a (inr (inl e)) = ap (λ (b : Answer). is_fine b.outcome) e
    fine a (inr (inr (inl e))) = ap (λ (b : Answer). is_fine b.outcome) e
    fine a (inr (inr (inr m))) = absurd m

    was : Rest → (ok : Takes w v dest source d s goes most) → (o : Option Cursors) → (reply w v dest source d s goes most).last ≡ o → Goal (and_then (u, answers, is_none o) go)
    was rest ok (Some W) last none = fine
    was rest ok None more none = λ a m. ⊎_elim (λ l. fine a l) (λ k. onward a k) (member_of_either answers (go u).1 a m)
      where
        near : (units_beyond n.safe s.safe + 1 ≤ units_beyond d.safe s.safe) × (1 ≤ units_beyond n.safe s.safe)
        near = nearer_end w v dest source d s goes most le more

        same : units_beyond n.safe z.safe ≡ units_beyond n.safe s.safe
        same = beyond_alike n.safe s.safe z.safe (server_like w v dest source d s goes most ok)

        onward : IsWhole (go u).1
        onward = rest u n z (goes_on w v dest source d s goes most ok) (still_unplanned w v dest source d s goes most unplanned)
            (omega (arith, near.0, near.1, few)) (omega (arith, near.0, same, few)) (unlimited_rest answers (go u).1 none)

    -- an answer that says that a limit is met
    met : (o : Outcome) → IsRefused 21 o ⊎ IsRefused 22 o → AreUnlimited (told w v dest source d s goes most o) → ⊥
    met o limit none = ⊎_elim (none.0 (answer (codes "deliver") dest o) (inr (inr (inl refl)))) (none.1 (answer (codes "deliver") dest o) (inr (inr (inl refl)))) limit

    by : Rest → Takes w v dest source d s goes most ⊎ MeetsLimit w v dest source d s goes most → Goal (pulls (suc fuel) v dest source most)
    by rest (inl ok) = subst (λ (p : Pulled). Goal (and_then p go)) (sym (took w v dest source d s goes most ok)) (was rest ok (reply w v dest source d s goes most).last refl)
    by rest (inr (o, e, limit)) = subst (λ (p : Pulled). Goal (and_then p go)) (sym e) (λ none. absurd (met o limit none))

whole_cycle : (w : World) (dest source : Replica) (most : ℕ) → IsSoundWorld w → MayCycle w dest source → 1 ≤ most → units_beyond dest.safe source.safe ≤ reply_limit
    → AreUnlimited (cycle w dest.name source.name most).1 → IsWhole (cycle w dest.name source.name most).1
whole_cycle w dest source most sound may le few = whole_pulls w dest.name source.name most le reply_limit w dest source goes may.dest_unplanned (omega arith) few
  where
    goes : Goes w w dest.name source.name dest source
    goes = record {
      sound = sound;
      issued = refl;
      d_found = found_by_name w dest sound may.dest_there;
      s_found = found_by_name w source sound may.source_there;
      d_up = may.dest_up;
      s_up = may.source_up;
      schema = may.schema;
      purged = may.purged;
    }

pub cycles_end : (w : World) → IsSoundWorld w → CyclesEnd w
cycles_end w sound dest source most may le unlimited =
    (cycle_ends w dest source most sound may le unlimited, λ few. whole_cycle w dest source most sound may le few unlimited)
