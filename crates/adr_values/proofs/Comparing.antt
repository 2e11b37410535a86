-- Whether one vector is at most another, at each identifier, and the first at which it isn't.
use Rattle.std.proofs.Common.{◌≡◌, ℕ, ◌≤◌, ◌<◌, Bool, true, false, cond, ◌&&◌, List, [], ◌∷◌, Option, None, Some, IfSome, refl, sym, ap, subst, arith}
use Rattle.std.specs.Prelude.{find, not, option_map, is_some}
use Rattle.std.specs.Ordering.{is_eq}
use Rattle.std.specs.declared.cmp.Ordering.TheVariants.{Less}
use Rattle.std.proofs.lemmas.Bool.{leb-true, leb-false, le-leb, lt-leb}
use Rattle.adr_values.specs.Order.{identifier_order}
use Rattle.adr_values.specs.Vector.{Cursors, at, covers, at_most, first_gap}
use Rattle.adr_values.proofs.Cursors.{IsRising, IsBelow, at_head, at_rest, at_below, below_all, same_from_test, head_below, tail_rising}

pub both_true : (a b : Bool) → (a && b) ≡ true → (a ≡ true) × (b ≡ true)
both_true true b h = (refl, h)
both_true false b h = absurd (cc)

pub everywhere_from_at_most : (v w : Cursors) → at_most v w ≡ true → (q : List ℕ) → at v q ≤ at w q
everywhere_from_at_most [] w h q = omega arith
everywhere_from_at_most (c ∷ cs) w h q =
    let parts = both_true (covers w c.0 c.1) (at_most cs w) h in
    by (is_eq (identifier_order q c.0)) refl (leb-true c.1 (at w c.0) parts.0) (everywhere_from_at_most cs w parts.1 q)
  where
    by : (b : Bool) → is_eq (identifier_order q c.0) ≡ b → c.1 ≤ at w c.0 → at cs q ≤ at w q → cond b c.1 (at cs q) ≤ at w q
    by true e first rest = let same : at w q ≡ at w c.0 = ap (at w) (same_from_test q c.0 e) in omega arith
    by false e first rest = rest

-- the tail's numbers are no greater than those of the whole
tail_at_most : (c : List ℕ × ℕ) (cs : Cursors) (q : List ℕ) → IsBelow c.0 cs → at cs q ≤ at (c ∷ cs) q
tail_at_most c cs q h = by (is_eq (identifier_order q c.0)) refl
  where
    by : (b : Bool) → is_eq (identifier_order q c.0) ≡ b → at cs q ≤ cond b c.1 (at cs q)
    by true e = let none : at cs q ≡ 0 = at_rest q c cs h e in omega arith
    by false e = omega arith

pub at_most_from_everywhere : (v w : Cursors) → IsRising v → ((q : List ℕ) → at v q ≤ at w q) → at_most v w ≡ true
at_most_from_everywhere [] w s h = refl
at_most_from_everywhere (c ∷ cs) w s h =
    let first : c.1 ≤ at w c.0 = (let all = h c.0 in let head = at_head c cs in omega arith) in
    let rest = at_most_from_everywhere cs w (tail_rising c cs s) (λ q. let all = h q in let some = tail_at_most c cs q (head_below c cs s) in omega arith) in
    rw (le-leb c.1 (at w c.0) first) rest

pub gap-is-not_at_most : (v w : Cursors) → is_some (first_gap v w) ≡ not (at_most v w)
gap-is-not_at_most [] w = refl
gap-is-not_at_most (c ∷ cs) w = by (covers w c.0 c.1) (gap-is-not_at_most cs w)
  where
    gap : Option (List ℕ × ℕ) → Option (List ℕ × ℕ × ℕ)
    gap found = option_map (λ c. (c.0, at w c.0, c.1)) found

    by : (b : Bool) → is_some (first_gap cs w) ≡ not (at_most cs w) → is_some (gap (cond (not b) (Some c) (find (λ c. not (covers w c.0 c.1)) cs))) ≡ not (b && at_most cs w)
    by true h = h
    by false h = refl

-- where the first of these cursors is above, that is the gap; where it isn't, the gap is behind it
module _ (c : List ℕ × ℕ) (cs w : Cursors) where
  pub gap_first : at w c.0 < c.1 → first_gap (c ∷ cs) w ≡ Some (c.0, at w c.0, c.1)
  gap_first above = rw (lt-leb c.1 (at w c.0) above) refl

  pub gap_behind : c.1 ≤ at w c.0 → first_gap (c ∷ cs) w ≡ first_gap cs w
  gap_behind within = rw (le-leb c.1 (at w c.0) within) refl

pub none_from_at_most : (b : Bool) → not b ≡ false → b ≡ true
none_from_at_most true h = refl
none_from_at_most false h = absurd (cc)

-- what is said of the first gap
pub record IsFirstGap (v w : Cursors) (gap : List ℕ × ℕ × ℕ) : Type 0 where
  pub theirs : gap.1 ≡ at w gap.0
  pub own : gap.2 ≡ at v gap.0
  pub above : gap.1 < gap.2
  pub least : (q : List ℕ) → identifier_order q gap.0 ≡ Less → at v q ≤ at w q

pub gap_is_first : (v w : Cursors) → IsRising v → IfSome (first_gap v w) (IsFirstGap v w)
gap_is_first [] w s = tt
gap_is_first (c ∷ cs) w s = by (covers w c.0 c.1) refl (find (λ c. not (covers w c.0 c.1)) cs) (gap_is_first cs w (tail_rising c cs s))
  where
    among : (q : List ℕ) (b : Bool) → is_eq (identifier_order q c.0) ≡ b → c.1 ≤ at w c.0 → at cs q ≤ at w q → cond b c.1 (at cs q) ≤ at w q
    among q true e first rest = let same : at w q ≡ at w c.0 = ap (at w) (same_from_test q c.0 e) in omega arith
    among q false e first rest = rest

    later : (d : List ℕ × ℕ) (b : Bool) → is_eq (identifier_order d.0 c.0) ≡ b → c.1 ≤ at w c.0 → IsFirstGap cs w (d.0, at w d.0, d.1) → IsFirstGap (c ∷ cs) w (d.0, at w d.0, d.1)
    later d true e first h = absurd (let none : at cs d.0 ≡ 0 = at_rest d.0 c cs (head_below c cs s) e in let own : d.1 ≡ at cs d.0 = h.own in let above : at w d.0 < d.1 = h.above in omega arith)
    later d false e first h = record { theirs = refl; own = rw e h.own; above = h.above; least = λ q less. among q (is_eq (identifier_order q c.0)) refl first (h.least q less) }

    by : (b : Bool) → covers w c.0 c.1 ≡ b → (found : Option (List ℕ × ℕ)) → IfSome (option_map (λ c. (c.0, at w c.0, c.1)) found) (IsFirstGap cs w)
        → IfSome (option_map (λ c. (c.0, at w c.0, c.1)) (cond (not b) (Some c) found)) (IsFirstGap (c ∷ cs) w)
    by true e None h = tt
    by true e (Some d) h = later d (is_eq (identifier_order d.0 c.0)) refl (leb-true c.1 (at w c.0) e) h
    by false e found h = record {
      theirs = refl;
      own = sym (at_head c cs);
      above = leb-false c.1 (at w c.0) e;
      least = λ q less. let none : at (c ∷ cs) q ≡ 0 = at_below q (c ∷ cs) (less, below_all q c.0 cs less (head_below c cs s)) in let any : 0 ≤ at w q = omega arith in subst (λ (n : ℕ). n ≤ at w q) (sym none) any;
    }

-- each fact of the first gap, of an answer that is it
pub of_gap : (P : List ℕ × ℕ × ℕ → Type 0) (v w : Cursors) (r : Option (List ℕ × ℕ × ℕ)) → r ≡ first_gap v w → IsRising v → ((g : List ℕ × ℕ × ℕ) → IsFirstGap v w g → P g) → IfSome r P
of_gap P v w r e s f = subst (λ (o : Option (List ℕ × ℕ × ℕ)). IfSome o P) (sym e) (each (first_gap v w) (gap_is_first v w s))
  where
    each : (o : Option (List ℕ × ℕ × ℕ)) → IfSome o (IsFirstGap v w) → IfSome o P
    each None h = tt
    each (Some g) h = f g h
