-- The walk from an object that goes.
use Rattle.std.proofs.Common.{◌≡◌, ◌⊎◌, inl, inr, ⊎_elim, ℕ, zero, suc, ◌<◌, Bool, true, false, ◌||◌, Option, Some, None, refl, sym, ap, ◌∙◌, subst, arith}
use Rattle.std.specs.Option.{option_map_or, option_and_then}
use Rattle.std.specs.Prelude.{if◌then◌else◌}
use Rattle.adr_model.specs.Update.{Identifier, same_identifier}
use Rattle.adr_model.specs.Place.{Node, breaks_loop}
use Rattle.adr_law_tree.specs.Walk.{Look, Up, Met, Breaks, free}
use Rattle.adr_law_tree.specs.Breaker.{loop_breaker}
use Rattle.adr_law_tree.specs.Opening.{first_breaker, comes_to, OpeningLaw}
use Rattle.adr_law_tree.proofs.Walks.{one, Keeps, IsMore, is_found, still, met_still, around, ClosedBy, IsIt, loop_apart, breaks_before, closer, closer_breaks}
use Rattle.adr_law_tree.proofs.Fuel.{same_guid, itself}
use Rattle.adr_law_tree.proofs.Unfixed.{keeps_free, within_free}
use Rattle.adr_law_tree.proofs.Loops.{as_more, closed, told_apart, breaks, is_breaking}

module _ (at : Look) (stop : Node → Bool) where
  breaker_met : (left : ℕ) (g : Identifier) (b : Node) → first_breaker at stop left g ≡ Some b → Met at g b × (stop b ≡ true)
  breaker_met zero g b e = cc
  breaker_met (suc left) g b e = by (at g) refl e (λ p. breaker_met left p.parent b)
    where
      by : (o : Option Node) → at g ≡ o → option_map_or (λ p. if stop p then Some p else first_breaker at stop left p.parent) o None ≡ Some b
          → ((p : Node) → first_breaker at stop left p.parent ≡ Some b → Met at p.parent b × (stop b ≡ true)) → Met at g b × (stop b ≡ true)
      by None found e again = cc
      by (Some p) found e again = on (stop p) refl e
        where
          on : (s : Bool) → stop p ≡ s → (if s then Some p else first_breaker at stop left p.parent) ≡ Some b → Met at g b × (stop b ≡ true)
          on true stops e = let it : p ≡ b = one {o = Some p} refl e in ((zero, found ∙ ap Some it), ap stop (sym it) ∙ stops)
          on false stops e = let t = again p e in ((suc t.0.0, (p, found, t.0.1)), t.1)

  none_breaks : (left k : ℕ) (g : Identifier) (m : Node) → k < left → Up at k g m → first_breaker at stop left g ≡ None → stop m ≡ false
  none_breaks zero k g m less up e = absurd (omega (arith, less))
  none_breaks (suc left) k g m less up e = by (at g) refl e k less up (λ p j. none_breaks left j p.parent m)
    where
      by : (o : Option Node) → at g ≡ o → option_map_or (λ p. if stop p then Some p else first_breaker at stop left p.parent) o None ≡ None
          → (j : ℕ) → j < suc left → Up at j g m → ((p : Node) (i : ℕ) → i < left → Up at i p.parent m → first_breaker at stop left p.parent ≡ None → stop m ≡ false) → stop m ≡ false
      by None found e zero l u again = cc
      by None found e (suc j) l (q, f, u) again = cc
      by (Some p) found e j l u again = on (stop p) refl e j l u
        where
          on : (s : Bool) → stop p ≡ s → (if s then Some p else first_breaker at stop left p.parent) ≡ None → (i : ℕ) → i < suc left → Up at i g m → stop m ≡ false
          on true stops e i l u = cc
          on false stops e zero l u = ap stop (one u found) ∙ stops
          on false stops e (suc i) l (q, f, u) = again p i (omega (arith, l)) (subst (λ (n : Node). Up at i n.parent m) (one f found) u) e

module _ (at : Look) where
  comes : (b : Node) → at b.object.guid ≡ Some b → (left : ℕ) (g : Identifier) → comes_to at b.object.guid left g ≡ true → Met at g b
  comes b here zero g e = cc
  comes b here (suc left) g e = by (same_identifier g b.object.guid) refl (at g) refl e (λ p. comes b here left p.parent)
    where
      by : (t : Bool) → same_identifier g b.object.guid ≡ t → (o : Option Node) → at g ≡ o → (t || option_map_or (λ p. comes_to at b.object.guid left p.parent) o false) ≡ true
          → ((p : Node) → comes_to at b.object.guid left p.parent ≡ true → Met at p.parent b) → Met at g b
      by true same o found e again = (zero, ap at (same_guid g b.object.guid same) ∙ here)
      by false other None found e again = cc
      by false other (Some p) found e again = let t = again p e in (suc t.0, (p, found, t.1))

  never_comes : Keeps at → (b : Node) → (left k : ℕ) (g : Identifier) → k < left → Up at k g b → comes_to at b.object.guid left g ≡ false → ⊥
  never_comes keeps b zero k g less up e = omega (arith, less)
  never_comes keeps b (suc left) k g less up e = by (same_identifier g b.object.guid) refl (at g) refl e k less up (λ p j. never_comes keeps b left j p.parent)
    where
      by : (t : Bool) → same_identifier g b.object.guid ≡ t → (o : Option Node) → at g ≡ o → (t || option_map_or (λ p. comes_to at b.object.guid left p.parent) o false) ≡ false
          → (j : ℕ) → j < suc left → Up at j g b → ((p : Node) (i : ℕ) → i < left → Up at i p.parent b → comes_to at b.object.guid left p.parent ≡ false → ⊥) → ⊥
      by true same o found e j l u again = cc
      by false other o found e zero l u again =
          let t : same_identifier g b.object.guid ≡ true = subst (λ h. same_identifier h b.object.guid ≡ true) (keeps g b u) (itself b.object.guid) in cc
      by false other None found e (suc j) l (q, f, u) again = cc
      by false other (Some p) found e (suc j) l (q, f, u) again = again p j (omega (arith, l)) (subst (λ (n : Node). Up at j n.parent b) (one f found) u) e

module _ (at more : Look) (x : Node) (is : IsMore at more x) where
  -- what is met above the new object is met without it, or from there again in fewer steps
  abbrev Past : Node → ℕ → Identifier → Type 0
  Past m k g = Met at g m ⊎ ((j : ℕ) × (j < k) × Up more j x.parent m)

  past : (m : Node) → (m ≡ x → ⊥) → (k : ℕ) (g : Identifier) → Up more k g m → Past m k g
  past m other zero g up = by (is.else g)
    where
      by : (g ≡ x.object.guid) ⊎ (more g ≡ at g) → Past m zero g
      by (inl here) = absurd (other (one up (ap more here ∙ is.here)))
      by (inr same) = inl (zero, sym same ∙ up)
  past m other (suc k) g (p, e, up) = by (is.else g) (past m other k p.parent up)
    where
      by : (g ≡ x.object.guid) ⊎ (more g ≡ at g) → Past m k p.parent → Past m (suc k) g
      by (inl here) rest = inr (k, (let l : k < suc k = omega arith in l), subst (λ (n : Node). Up more k n.parent m) (one e (ap more here ∙ is.here)) up)
      by (inr same) (inl met) = inl (suc met.0, (p, sym same ∙ e, met.1))
      by (inr same) (inr (j, lt, u)) = inr (j, (let l : j < suc k = omega (arith, lt) in l), u)

  past_it : (m : Node) → (m ≡ x → ⊥) → (bound k : ℕ) → k < bound → Up more k x.parent m → Met at x.parent m
  past_it m other zero k less up = absurd (omega (arith, less))
  past_it m other (suc bound) k less up = by (past m other k x.parent up) (λ j l u. past_it m other bound j l u)
    where
      by : Past m k x.parent → ((j : ℕ) → j < bound → Up more j x.parent m → Met at x.parent m) → Met at x.parent m
      by (inl met) again = met
      by (inr (j, lt, u)) again = again j (omega (arith, lt, less)) u

pub opening_law : OpeningLaw
opening_law all x more is x_free left enough = by (breaks_loop more x) refl (first_breaker (free all) (breaks_loop more) left x.parent) refl (loop_breaker more x) (closed all x more is)
  where
    F : Look
    F = free all

    G : Look
    G = free more

    m : IsMore F G x
    m = as_more all x more is x_free

    it_is : (r : Option Node) (n : Node) → IsIt r n → Some n ≡ r
    it_is None n it = absurd it
    it_is (Some c) n it = ap Some it

    breaks_here : (n : Node) → G n.object.guid ≡ Some n → breaks_loop more n ≡ true → Breaks G n
    breaks_here n here e = breaks more n (λ y f. one f here) e

    none_there : (c : Node) → breaks_loop more x ≡ false → first_breaker F (breaks_loop more) left x.parent ≡ None → ClosedBy G x (Some c) → ⊥
    none_there c breaks_not first closes =
        let b : Breaks G c = closer_breaks F G x m c closes in
        let t : breaks_loop more c ≡ true = is_breaking more c b in
        let up : Met F x.parent c = past_it F G x m c (λ e. let u : breaks_loop more x ≡ true = ap (breaks_loop more) (sym e) ∙ t in cc) (suc closes.1.0) closes.1.0 (omega arith) closes.1.1 in
        let w = within_free left all enough x.parent c up in
        let u : breaks_loop more c ≡ false = none_breaks F (breaks_loop more) left w.0 x.parent c w.1 w.2 first in cc

    by : (b : Bool) → breaks_loop more x ≡ b → (f : Option Node) → first_breaker F (breaks_loop more) left x.parent ≡ f → (r : Option Node) → ClosedBy G x r
        → (if b then Some x else option_and_then (λ (b : Node). if comes_to F b.object.guid left b.parent then None else Some b) f) ≡ r
    by true breaks_it f first r c =
        let b : Breaks G x = breaks_here x m.here breaks_it in
        it_is r x (closer F G x m (told_apart more) r c x b b.0)
    by false breaks_not None first None c = refl
    by false breaks_not None first (Some b) c = absurd (none_there b breaks_not first c)
    by false breaks_not (Some b) first r c = on (comes_to F b.object.guid left b.parent) refl r c
      where
        met : Met F x.parent b × (breaks_loop more b ≡ true)
        met = breaker_met F (breaks_loop more) left x.parent b first

        here : F b.object.guid ≡ Some b
        here = is_found F (keeps_free all) met.0.0 x.parent b met.0.1

        breaks_b : Breaks G b
        breaks_b = breaks_here b (still F G x m b.object.guid b here) met.1

        on : (t : Bool) → comes_to F b.object.guid left b.parent ≡ t → (r : Option Node) → ClosedBy G x r → (if t then None else Some b) ≡ r
        on true comes_back None c = refl
        on true comes_back (Some d) c =
            absurd (loop_apart F G x m b (comes F b here left b.parent comes_back) (around G x b c.0 (met_still F G x m x.parent b met.0)))
        on false opened r c = ⊎_elim
            (λ old. absurd (let w = within_free left all enough b.parent b old.0 in never_comes F (keeps_free all) b left w.0 b.parent w.1 w.2 opened))
            (λ up. it_is r b (closer F G x m (told_apart more) r c b breaks_b up))
            (breaks_before F G x m b breaks_b)
