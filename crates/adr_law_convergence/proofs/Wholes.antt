-- What a whole cycle leaves.
use Rattle.std.proofs.Common.{◌≡◌, ◌⊎◌, inl, inr, ⊎_elim, ℕ, zero, suc, ◌≤◌, List, true, false, Option, Some, None, is_none, refl, sym, ap, subst, arith}
use Rattle.std.specs.Prelude.{codes}
use Rattle.adr_values.specs.Vector.{Cursors, at_most}
use Rattle.adr_call.specs.declared.answer.Answer.{Answer}
use Rattle.adr_call.specs.declared.outcome.Outcome.{Outcome}
use Rattle.adr_call.specs.declared.outcome.Outcome.TheVariants as outcomes
use Rattle.adr_model.specs.Member.{Member}
use Rattle.adr_model.specs.Update.{Update}
use Rattle.adr_model.specs.Store.{State}
use Rattle.adr_model.specs.Replica.{Up, Replica}
use Rattle.adr_model.specs.World.{Name, World, answer}
use Rattle.adr_model.specs.Cycles.{Pulled, and_then, pull, pulls, reply_limit}
use Rattle.adr_model.specs.Step.{step}
use Rattle.adr_model.specs.Sound.{IsSoundWorld}
use Rattle.adr_model.specs.Convergence.{IsRefused, HasTakenAll}
use Rattle.adr_model.proofs.Members.{member_right}
use Rattle.adr_law_convergence.proofs.Found.{replica_found}
use Rattle.adr_law_convergence.proofs.Cycling.{Goes, reply, next, behind, taking, told, Takes, MeetsLimit, MeetsFault, took, taken_or_met, server, behind_sound, left, goes_on}
use Rattle.adr_law_convergence.proofs.Completing.{IsBeside, beside_on, beside, done, onward}
use Rattle.adr_model.specs.Rings.{is_fine}
use Rattle.adr_law_convergence.specs.Rounds.{Exchange, line_of, IsWhole}
use Rattle.adr_law_convergence.proofs.Fine.{goes_where_fine, first_is_fine}

-- what a cycle leaves of the state that pulled
pub record Carried (issued : List Update) (d s n : State) : Type 0 where
  pub inv : n.inv ≡ d.inv
  pub covered : at_most s.store.purged d.store.vector ≡ true
  pub rises : d.store.usn ≤ n.store.usn
  pub all : HasTakenAll issued d s n

-- behind one pull the USN is no less
module _ (w v : World) (dest source : Name) (d s : Replica) (goes : Goes w v dest source d s) (most : ℕ) (ok : Takes w v dest source d s goes most) where
  rises : d.safe.store.usn ≤ (next w v dest source d s goes most).safe.store.usn
  rises = omega (arith, (left w v dest source d s goes most ok).0.rises, (goes.sound.replicas d (replica_found v dest d goes.d_found).0).safe.last)

-- ---- the whole cycle

-- a world behind pulls, by who pulled and who served at their beginning
record Left (w v x : World) (dest : Name) (d s : Replica) : Type 0 where
  sound : IsSoundWorld x
  issued : x.book.issued ≡ w.book.issued
  n : Replica
  up : n.standing ≡ Up
  beside : IsBeside v x dest n
  carried : Carried w.book.issued d.safe s.safe n.safe

abbrev Goal : World → World → Name → Replica → Replica → World × List Answer → Type 0
Goal w v dest d s t = IsWhole t.1 → Left w v t.0 dest d s

not_refused : (number : ℕ) (o : Outcome) → IsRefused number o → is_fine o ≡ true → ⊥
not_refused number o is fine = let e : is_fine o ≡ false = ap is_fine is.2 in absurd (cc)

not_stopped : (o : Outcome) → (o ≡ outcomes.Stopped) ⊎ (o ≡ outcomes.Disk) → is_fine o ≡ true → ⊥
not_stopped o (inl is) fine = let e : is_fine o ≡ false = ap is_fine is in absurd (cc)
not_stopped o (inr is) fine = let e : is_fine o ≡ false = ap is_fine is in absurd (cc)

whole_pulls : (w : World) (dest source : Name) (most fuel : ℕ) (v : World) (d s : Replica) → Goes w v dest source d s → Goal w v dest d s (pulls fuel v dest source most)
whole_pulls w dest source most zero v d s goes = λ fine. let e : is_fine outcomes.More ≡ true = fine (answer (codes "cycle") dest outcomes.More) (inl refl) in absurd (cc)
whole_pulls w dest source most (suc fuel) v d s goes = by (λ x e f is. whole_pulls w dest source most fuel x e f is) (taken_or_met w v dest source d s goes most)
  where
    n : Replica
    n = next w v dest source d s goes most

    z : Replica
    z = server w v dest source d s goes most

    u : World
    u = behind w v dest source d s goes most

    answers : Outcome → List Answer
    answers o = told w v dest source d s goes most o

    go : World → World × List Answer
    go x = pulls fuel x dest source most

    Rest : Type 0
    Rest = (x : World) (e f : Replica) → Goes w x dest source e f → Goal w x dest e f (pulls fuel x dest source most)

    was : Rest → (ok : Takes w v dest source d s goes most) → (o : Option Cursors) → (reply w v dest source d s goes most).last ≡ o → Goal w v dest d s (and_then (u, answers (taking w v dest source d s goes most), is_none o) go)
    was rest ok (Some W) last fine = record {
      sound = behind_sound w v dest source d s goes most ok;
      issued = (goes_on w v dest source d s goes most ok).issued;
      n = n;
      up = refl;
      beside = beside w v dest source d s goes most ok;
      carried = record { inv = refl; covered = goes.purged; rises = rises w v dest source d s goes most ok; all = done w v dest source d s goes most ok W last };
    }
    was rest ok None more fine = record {
      sound = t.sound;
      issued = t.issued;
      n = t.n;
      up = t.up;
      beside = beside_on v u (go u).0 dest n t.n (beside w v dest source d s goes most ok) t.beside;
      carried = record {
        inv = t.carried.inv;
        covered = goes.purged;
        rises = omega (arith, rises w v dest source d s goes most ok, t.carried.rises);
        all = onward w v dest source d s goes most ok more t.n.safe t.carried.inv t.carried.all;
      };
    }
      where
        t : Left w u (go u).0 dest n z
        t = rest u n z (goes_on w v dest source d s goes most ok) (λ a m. fine a (member_right (answers (taking w v dest source d s goes most)) (go u).1 a m))

    -- what the delivery is told is among the answers
    delivered : (o : Outcome) → IsWhole (answers o) → is_fine o ≡ true
    delivered o fine = fine (answer (codes "deliver") dest o) (inr (inr (inl refl)))

    by : Rest → Takes w v dest source d s goes most ⊎ (MeetsLimit w v dest source d s goes most ⊎ MeetsFault w v dest source d s goes most) → Goal w v dest d s (pulls (suc fuel) v dest source most)
    by rest (inl ok) = subst (λ (p : Pulled). Goal w v dest d s (and_then p go)) (sym (took w v dest source d s goes most ok)) (was rest ok (reply w v dest source d s goes most).last refl)
    by rest (inr (inl (o, e, limit))) = subst (λ (p : Pulled). Goal w v dest d s (and_then p go)) (sym e) (λ fine. absurd (⊎_elim (λ l. not_refused 21 o l (delivered o fine)) (λ l. not_refused 22 o l (delivered o fine)) limit))
    by rest (inr (inr (x, o, e, fault, _))) = subst (λ (p : Pulled). Goal w v dest d s (and_then p go)) (sym e) (λ fine. absurd (not_stopped o fault (delivered o fine)))

-- what a whole cycle between two controllers leaves
pub record IsCycled (w v : World) (dest source : Name) : Type 0 where
  pub sound : IsSoundWorld v
  pub issued : v.book.issued ≡ w.book.issued
  pub d : Replica
  pub s : Replica
  pub n : Replica
  pub up : n.standing ≡ Up
  pub d_there : Member d w.replicas × (d.name ≡ dest)
  pub s_there : Member s w.replicas × (s.name ≡ source)
  pub beside : IsBeside w v dest n
  pub carried : Carried w.book.issued d.safe s.safe n.safe

pulled : (w : World) → IsSoundWorld w → (dest source : Name) (most fuel : ℕ) → IsWhole (pulls fuel w dest source most).1 → IsCycled w (pulls fuel w dest source most).0 dest source
pulled w sound dest source most zero fine = let e : is_fine outcomes.More ≡ true = fine (answer (codes "cycle") dest outcomes.More) (inl refl) in absurd (cc)
pulled w sound dest source most (suc fuel) fine = record {
  sound = t.sound;
  issued = t.issued;
  d = g.0;
  s = g.1;
  n = t.n;
  up = t.up;
  d_there = replica_found w dest g.0 g.2.d_found;
  s_there = replica_found w source g.1 g.2.s_found;
  beside = t.beside;
  carried = t.carried;
}
  where
    g : (d : Replica) × (s : Replica) × Goes w w dest source d s
    g = goes_where_fine w sound dest source most (first_is_fine (pull w dest source most) (λ v. pulls fuel v dest source most) fine)

    t : Left w w (pulls (suc fuel) w dest source most).0 dest g.0 g.1
    t = whole_pulls w dest source most (suc fuel) w g.0 g.1 g.2 fine

pub cycled : (w : World) → IsSoundWorld w → (x : Exchange) → IsWhole (step w (line_of x)).1 → IsCycled w (step w (line_of x)).0 x.dest x.source
cycled w sound x fine = pulled w sound x.dest x.source x.max reply_limit fine
