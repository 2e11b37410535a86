-- A cycle pull by pull, and cycles one after the other, as loops go through them.
use Rattle.std.proofs.Common.{◌≡◌, ℕ, suc, List, [], ◌∷◌, ◌++◌, Bool, true, false, not, Option, Some, None, refl, ap, ◌∙◌, codes, if◌then◌else◌}
use Rattle.std.specs.Prelude.{Result, Ok, Err}
use Rattle.adr_call.specs.declared.answer.Answer.{Answer}
use Rattle.adr_call.specs.declared.outcome.Outcome.{Outcome}
use Rattle.adr_call.specs.declared.outcome.Outcome.TheVariants as outcomes
use Rattle.adr_call.specs.declared.refusal.ServeRefusal.{ServeRefusal}
use Rattle.adr_call.specs.declared.refusal.ServeRefusal.TheVariants as serves
use Rattle.adr_model.specs.Serve.{Request, Reply, ask, serve}
use Rattle.adr_model.specs.Replica.{Standing, Up, Down, Failed, Replica}
use Rattle.adr_model.specs.World.{World, Name, Sent, Gone, answer, replica_at, of_made, where_up, nothing, asks, after_serve, served, serves_request, delivers}
use Rattle.adr_model.specs.Cycles.{Pulled, was_taken, pull_delivered, pull_served, pull_asked, pull_version, pull, and_then, pulls, cycle}
use Rattle.adr_model.specs.Rings.{is_fine, unfinished, or_else, Connection, cycles}

-- ---- what went on went well

-- a message that was made was answered ok
abbrev IsMadeFine : {A : Type 0} → Sent A → Type 0
IsMadeFine {A} t = (x : A) → t.2 ≡ Some x → is_fine t.1 ≡ true

up_fine : {A : Type 0} (w : World) (st : Standing) (t : Sent A) → IsMadeFine t → IsMadeFine (where_up (nothing w) st t)
up_fine w Up t fine x e = fine x e
up_fine w Down t fine x e = absurd (cc)
up_fine w Failed t fine x e = absurd (cc)

made_fine : {A : Type 0} (w : World) (o : Option Replica) (act : Replica → Sent A) → ((r : Replica) → IsMadeFine (act r)) → IsMadeFine (of_made (nothing w) o act)
made_fine w None act acts x e = absurd (cc)
made_fine w (Some r) act acts x e = acts r x e

asks_fine : (w : World) (name partner : Name) (max version : ℕ) → IsMadeFine (asks w name partner max version)
asks_fine w name partner max version = made_fine w (replica_at w name) _ (λ r. made_fine w (replica_at w partner) _ (λ p. up_fine w r.standing (w, outcomes.Ok, Some (ask r.safe p.safe.dsa max version)) (λ x e. refl)))

after_fine : (w : World) (r : Replica) (t : Result Reply ServeRefusal) → IsMadeFine (after_serve w r t)
after_fine w r (Ok reply) x e = refl
after_fine w r (Err serves.Quarantined) x e = absurd (cc)
after_fine w r (Err (serves.WrongController mine asked)) x e = absurd (cc)
after_fine w r (Err (serves.BadMark prop obj seen)) x e = absurd (cc)
after_fine w r (Err (serves.RolledBack inv mine shown)) x e = absurd (cc)
after_fine w r (Err (serves.SchemaMismatch mine theirs)) x e = absurd (cc)
after_fine w r (Err (serves.TooOld inv purged has)) x e = absurd (cc)

serves_fine : (w : World) (name : Name) (q : Request) → IsMadeFine (serves_request w name (Some q))
serves_fine w name q = made_fine w (replica_at w name) _ (λ r. up_fine w r.standing (served w r (Some q)) (after_fine w r (serve r.safe q w.time)))

taken_fine : (o : Outcome) → was_taken o ≡ true → is_fine o ≡ true
taken_fine (outcomes.Took items wrote usn) e = refl
taken_fine _ e = absurd (cc)

-- one answer that is ok in front says nothing
fine_first : (a : Answer) (rest : List Answer) → is_fine a.outcome ≡ true → unfinished rest ≡ None → unfinished (a ∷ rest) ≡ None
fine_first a rest fine none = ap (λ b. if not b then Some a else unfinished rest) fine ∙ none

delivered_on : (dest : Name) (r : Reply) (g : Gone) → (pull_delivered dest r g).2 ≡ true → unfinished (pull_delivered dest r g).1 ≡ None
delivered_on dest r g on = by (was_taken g.1) refl on
  where
    by : (b : Bool) → was_taken g.1 ≡ b → (pull_delivered dest r g).2 ≡ true → unfinished (pull_delivered dest r g).1 ≡ None
    by true is e = fine_first (answer (codes "deliver") dest g.1) [] (taken_fine g.1 is) refl
    by false is e = absurd (cc)

served_on : (dest : Name) (w : World) (o : Option Reply) → (pull_served dest w o).2 ≡ true → unfinished (pull_served dest w o).1 ≡ None
served_on dest w None on = absurd (cc)
served_on dest w (Some r) on = delivered_on dest r (delivers w dest (Some r)) on

asked_on : (dest source : Name) (w : World) (o : Option Request) → (pull_asked dest source w o).2 ≡ true → unfinished (pull_asked dest source w o).1 ≡ None
asked_on dest source w None on = absurd (cc)
asked_on dest source w (Some q) on = by t.2 refl
  where
    t : Sent Reply
    t = serves_request w source (Some q)

    by : (o : Option Reply) → t.2 ≡ o → unfinished (pull_asked dest source w (Some q)).1 ≡ None
    by None e = let none : (pull_served dest t.0 t.2).2 ≡ false = ap (λ p. (pull_served dest t.0 p).2) e in absurd (cc)
    by (Some r) e = fine_first (answer (codes "serve") source t.1) (pull_served dest t.0 t.2).1 (serves_fine w source q r e) (served_on dest t.0 t.2 on)

-- a pull that goes on has no answer that isn't ok
pub pull_on : (w : World) (dest source : Name) (max : ℕ) → (pull w dest source max).2 ≡ true → unfinished (pull w dest source max).1 ≡ None
pull_on w dest source max on = by t.2 refl
  where
    t : Sent Request
    t = asks w dest source max pull_version

    by : (o : Option Request) → t.2 ≡ o → unfinished (pull w dest source max).1 ≡ None
    by None e = let none : (pull_asked dest source t.0 t.2).2 ≡ false = ap (λ q. (pull_asked dest source t.0 q).2) e in absurd (cc)
    by (Some q) e = fine_first (answer (codes "ask") dest t.1) (pull_asked dest source t.0 t.2).1 (asks_fine w dest source max pull_version q e) (asked_on dest source t.0 t.2 on)

-- ---- a cycle, pull by pull

behind_fine : (xs ys : List Answer) → unfinished xs ≡ None → unfinished (xs ++ ys) ≡ unfinished ys
behind_fine [] ys none = refl
behind_fine (x ∷ xs) ys none = by (λ e. behind_fine xs ys e) (is_fine x.outcome) refl none
  where
    by : (unfinished xs ≡ None → unfinished (xs ++ ys) ≡ unfinished ys) → (b : Bool) → is_fine x.outcome ≡ b → (if not b then Some x else unfinished xs) ≡ None → unfinished (x ∷ xs ++ ys) ≡ unfinished ys
    by rest true is e = ap (λ c. if not c then Some x else unfinished (xs ++ ys)) is ∙ rest e
    by rest false is e = absurd (cc)

-- what a cycle comes to: the world, and its answer that isn't ok
abbrev pub Comes : World × List Answer → World × Option Answer
Comes t = (t.0, unfinished t.1)

-- a pull that goes on leaves what the others come to
pub cycle_goes_on : (n : ℕ) (w : World) (dest source : Name) (max : ℕ) → (pull w dest source max).2 ≡ true
    → Comes (pulls (suc n) w dest source max) ≡ Comes (pulls n (pull w dest source max).0 dest source max)
cycle_goes_on n w dest source max on = by (pull w dest source max) on (pull_on w dest source max on)
  where
    by : (p : Pulled) → p.2 ≡ true → unfinished p.1 ≡ None → Comes (and_then p (λ v. pulls n v dest source max)) ≡ Comes (pulls n p.0 dest source max)
    by p e none = ap (λ b. Comes (and_then (p.0, p.1, b) (λ v. pulls n v dest source max))) e ∙ ap (λ o. ((pulls n p.0 dest source max).0, o)) (behind_fine p.1 (pulls n p.0 dest source max).1 none)

-- and one that doesn't ends it
pub cycle_ends_there : (n : ℕ) (w : World) (dest source : Name) (max : ℕ) → (pull w dest source max).2 ≡ false
    → Comes (pulls (suc n) w dest source max) ≡ ((pull w dest source max).0, unfinished (pull w dest source max).1)
cycle_ends_there n w dest source max off = by (pull w dest source max) off
  where
    by : (p : Pulled) → p.2 ≡ false → Comes (and_then p (λ v. pulls n v dest source max)) ≡ (p.0, unfinished p.1)
    by p e = ap (λ b. Comes (and_then (p.0, p.1, b) (λ v. pulls n v dest source max))) e

-- ---- cycles one after the other

pub cycles_both : (cs ds : List Connection) (max : ℕ) (w : World) → cycles (cs ++ ds) max w ≡ or_else (cycles cs max w).1 (cycles cs max w).0 (λ v. cycles ds max v)
cycles_both [] ds max w = refl
cycles_both (c ∷ cs) ds max w = by (unfinished (cycle w c.0 c.1 max).1) (cycles_both cs ds max (cycle w c.0 c.1 max).0)
  where
    by : (o : Option Answer) → cycles (cs ++ ds) max (cycle w c.0 c.1 max).0 ≡ or_else (cycles cs max (cycle w c.0 c.1 max).0).1 (cycles cs max (cycle w c.0 c.1 max).0).0 (λ v. cycles ds max v)
        → or_else o (cycle w c.0 c.1 max).0 (λ v. cycles (cs ++ ds) max v) ≡ or_else (or_else o (cycle w c.0 c.1 max).0 (λ v. cycles cs max v)).1 (or_else o (cycle w c.0 c.1 max).0 (λ v. cycles cs max v)).0 (λ v. cycles ds max v)
    by (Some a) rest = refl
    by None rest = rest
