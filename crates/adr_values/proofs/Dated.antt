-- Moments that are told beside cursors, and back.
use Rattle.std.proofs.Common.{◌≡◌, ℕ, zero, suc, ◌≤◌, Bool, true, false, cond, eqb, List, [], ◌∷◌, ◌++◌, length, refl, sym, ap, subst, ◌∙◌, arith}
use Rattle.std.specs.List.{AllByRecursion}
use Rattle.std.specs.Ordering.{is_eq}
use Rattle.std.specs.declared.cmp.Ordering.TheVariants.{Less}
use Rattle.std.proofs.lemmas.Bool.{eqb-true}
use Rattle.adr_values.specs.Order.{identifier_order}
use Rattle.adr_values.specs.Times.{AreTimesOf}
use Rattle.adr_values.specs.Vector.{Cursors, at}
use Rattle.adr_values.specs.Dated.{Dated, cursors_of, moments_of, with_moments}
use Rattle.adr_values.proofs.Cursors.{IsRising, FromOne, IsBelow, at_below, at_head, head_below, tail_rising, cons_rising, nil_rising, turned_back, same_from_test, same_cursors}

-- ---- moments that are known

-- the number at an identifier below a head is that of the rest
passed_by : (k : List ℕ) (n : ℕ) (ts : Cursors) (q : List ℕ) → identifier_order k q ≡ Less → at ((k, n) ∷ ts) q ≡ at ts q
passed_by k n ts q less = rw (turned_back k q less) refl

below_moments : (a : List ℕ) (ds : List Dated) → IsBelow a (cursors_of ds) → IsBelow a (moments_of ds)
below_moments a [] b = tt
below_moments a (d ∷ ds) b = by (eqb d.1 0) (below_moments a ds b.1)
  where
    by : (t : Bool) → IsBelow a (moments_of ds) → IsBelow a (cond t (moments_of ds) ((d.0.0, d.1) ∷ moments_of ds))
    by true k = k
    by false k = (b.0, k)

pub rising_moments : (ds : List Dated) → IsRising (cursors_of ds) → IsRising (moments_of ds)
rising_moments [] s = nil_rising
rising_moments (d ∷ ds) s = by (eqb d.1 0) (rising_moments ds (tail_rising d.0 (cursors_of ds) s))
  where
    by : (t : Bool) → IsRising (moments_of ds) → IsRising (cond t (moments_of ds) ((d.0.0, d.1) ∷ moments_of ds))
    by true k = k
    by false k = cons_rising (d.0.0, d.1) (moments_of ds) (below_moments d.0.0 ds (head_below d.0 (cursors_of ds) s)) k

some : (n : ℕ) → eqb n 0 ≡ false → 1 ≤ n
some zero e = absurd (cc)
some (suc n) e = omega arith

pub from_one_moments : (ds : List Dated) → FromOne (moments_of ds)
from_one_moments [] = tt
from_one_moments (d ∷ ds) = by (eqb d.1 0) refl (from_one_moments ds)
  where
    by : (t : Bool) → eqb d.1 0 ≡ t → FromOne (moments_of ds) → FromOne (cond t (moments_of ds) ((d.0.0, d.1) ∷ moments_of ds))
    by true e k = k
    by false e k = (some d.1 e, k)

-- one more cursor hides none
seen_more : (c : List ℕ × ℕ) (cs ts : Cursors) → 1 ≤ c.1 → AllByRecursion (λ t. 1 ≤ at cs t.0) ts → AllByRecursion (λ t. 1 ≤ at (c ∷ cs) t.0) ts
seen_more c cs [] one all = tt
seen_more c cs (t ∷ ts) one all = (by (is_eq (identifier_order t.0 c.0)), seen_more c cs ts one all.1)
  where
    by : (b : Bool) → 1 ≤ cond b c.1 (at cs t.0)
    by true = one
    by false = all.0

pub seen_moments : (ds : List Dated) → FromOne (cursors_of ds) → AllByRecursion (λ t. 1 ≤ at (cursors_of ds) t.0) (moments_of ds)
seen_moments [] one = tt
seen_moments (d ∷ ds) one = by (eqb d.1 0) (seen_more d.0 (cursors_of ds) (moments_of ds) one.0 (seen_moments ds one.1))
  where
    here : 1 ≤ at (d.0 ∷ cursors_of ds) d.0.0
    here = subst (λ (n : ℕ). 1 ≤ n) (sym (at_head d.0 (cursors_of ds))) one.0

    by : (t : Bool) → AllByRecursion (λ t. 1 ≤ at (d.0 ∷ cursors_of ds) t.0) (moments_of ds) → AllByRecursion (λ t. 1 ≤ at (d.0 ∷ cursors_of ds) t.0) (cond t (moments_of ds) ((d.0.0, d.1) ∷ moments_of ds))
    by true k = k
    by false k = (here, k)

-- ---- and back

-- what is told of each
abbrev pub AreTold : Cursors → List Dated → Type 0
AreTold times ds = AllByRecursion (λ (d : Dated). at times d.0.0 ≡ d.1) ds

told_further : (k : List ℕ) (n : ℕ) (ts : Cursors) (es : List Dated) → IsBelow k (cursors_of es) → AreTold ts es → AreTold ((k, n) ∷ ts) es
told_further k n ts [] b all = tt
told_further k n ts (e ∷ es) b all = (passed_by k n ts e.0.0 b.0 ∙ all.0, told_further k n ts es b.1 all.1)

pub told_each : (ds : List Dated) → IsRising (cursors_of ds) → AreTold (moments_of ds) ds
told_each [] s = tt
told_each (d ∷ ds) s = by (eqb d.1 0) refl (told_each ds (tail_rising d.0 (cursors_of ds) s))
  where
    below : IsBelow d.0.0 (cursors_of ds)
    below = head_below d.0 (cursors_of ds) s

    by : (t : Bool) → eqb d.1 0 ≡ t → AreTold (moments_of ds) ds → AreTold (cond t (moments_of ds) ((d.0.0, d.1) ∷ moments_of ds)) (d ∷ ds)
    by true e k = (at_below d.0.0 (moments_of ds) (below_moments d.0.0 ds below) ∙ sym (eqb-true d.1 0 e), k)
    by false e k = (at_head (d.0.0, d.1) (moments_of ds), told_further d.0.0 d.1 (moments_of ds) ds below k)

pub with_told : (times : Cursors) (ds : List Dated) → AreTold times ds → with_moments times (cursors_of ds) ≡ ds
with_told times [] all = refl
with_told times (d ∷ ds) all = let rest = with_told times ds all.1 in λ i. (d.0, all.0 i) ∷ rest i

pub cursors_with : (times cs : Cursors) → cursors_of (with_moments times cs) ≡ cs
cursors_with times [] = refl
cursors_with times (c ∷ cs) = ap (λ (l : Cursors). c ∷ l) (cursors_with times cs)

module _ (times : Cursors) (q : List ℕ) where
  abbrev kept : Cursors → Cursors
  kept cs = moments_of (with_moments times cs)

  none_kept : (cs : Cursors) → at times q ≡ 0 → at (kept cs) q ≡ 0
  none_kept [] none = refl
  none_kept (c ∷ cs) none = by (eqb (at times c.0) 0) refl (is_eq (identifier_order q c.0)) refl (none_kept cs none)
    where
      by : (t : Bool) → eqb (at times c.0) 0 ≡ t → (b : Bool) → is_eq (identifier_order q c.0) ≡ b → at (kept cs) q ≡ 0 → at (cond t (kept cs) ((c.0, at times c.0) ∷ kept cs)) q ≡ 0
      by true e b f k = k
      by false e true f k = rw f (ap (at times) (sym (same_from_test q c.0 f)) ∙ none)
      by false e false f k = rw f k

  not_kept : (cs : Cursors) → FromOne cs → at cs q ≡ 0 → at (kept cs) q ≡ 0
  not_kept [] one none = refl
  not_kept (c ∷ cs) one none = by (is_eq (identifier_order q c.0)) refl (eqb (at times c.0) 0) (λ h. not_kept cs one.1 h) none
    where
      by : (b : Bool) → is_eq (identifier_order q c.0) ≡ b → (t : Bool) → (at cs q ≡ 0 → at (kept cs) q ≡ 0) → cond b c.1 (at cs q) ≡ 0 → at (cond t (kept cs) ((c.0, at times c.0) ∷ kept cs)) q ≡ 0
      by true f t k nil = absurd (let one = one.0 in omega arith)
      by false f true k none = k none
      by false f false k none = rw f (k none)

  is_kept : (cs : Cursors) → FromOne cs → 1 ≤ at cs q → at (kept cs) q ≡ at times q
  is_kept [] one there = absurd (omega (arith, there))
  is_kept (c ∷ cs) one there = by (is_eq (identifier_order q c.0)) refl (eqb (at times c.0) 0) refl (λ h. is_kept cs one.1 h) there
    where
      by : (b : Bool) → is_eq (identifier_order q c.0) ≡ b → (t : Bool) → eqb (at times c.0) 0 ≡ t → (1 ≤ at cs q → at (kept cs) q ≡ at times q) → 1 ≤ cond b c.1 (at cs q)
          → at (cond t (kept cs) ((c.0, at times c.0) ∷ kept cs)) q ≡ at times q
      by true f true e k h =
          let none : at times q ≡ 0 = ap (at times) (same_from_test q c.0 f) ∙ eqb-true (at times c.0) 0 e in
          none_kept cs none ∙ sym none
      by true f false e k h = rw f (ap (at times) (sym (same_from_test q c.0 f)))
      by false f true e k h = k h
      by false f false e k h = rw f (k h)

-- of whom nothing was seen no moment is known
unseen : (cs ts : Cursors) (q : List ℕ) → AllByRecursion (λ t. 1 ≤ at cs t.0) ts → at cs q ≡ 0 → at ts q ≡ 0
unseen cs [] q all none = refl
unseen cs (t ∷ ts) q all none = by (is_eq (identifier_order q t.0)) refl (unseen cs ts q all.1 none)
  where
    by : (b : Bool) → is_eq (identifier_order q t.0) ≡ b → at ts q ≡ 0 → cond b t.1 (at ts q) ≡ 0
    by true f k = absurd (let zero : at cs t.0 ≡ 0 = ap (at cs) (sym (same_from_test q t.0 f)) ∙ none in let some = all.0 in omega arith)
    by false f k = k

pub moments_with : (cs times : Cursors) → IsRising cs → FromOne cs → AreTimesOf cs times → moments_of (with_moments times cs) ≡ times
moments_with cs times s one are =
    same_cursors (moments_of (with_moments times cs)) times
    (rising_moments (with_moments times cs) (subst IsRising (sym (cursors_with times cs)) s)) are.moments.rising
    (from_one_moments (with_moments times cs)) are.moments.from_one (λ q. by q (at cs q) refl)
  where
    by : (q : List ℕ) (n : ℕ) → at cs q ≡ n → at (moments_of (with_moments times cs)) q ≡ at times q
    by q zero e = not_kept times q cs one e ∙ sym (unseen cs times q are.seen e)
    by q (suc n) e = is_kept times q cs one (omega (arith, e))

pub as_many : (times cs : Cursors) → length (with_moments times cs) ≡ length cs
as_many times [] = refl
as_many times (c ∷ cs) = ap suc (as_many times cs)

pub as_many_cursors : (ds : List Dated) → length (cursors_of ds) ≡ length ds
as_many_cursors [] = refl
as_many_cursors (d ∷ ds) = ap suc (as_many_cursors ds)

pub moments_more : (ds : List Dated) (d : Dated) → moments_of (ds ++ d ∷ []) ≡ moments_of ds ++ moments_of (d ∷ [])
moments_more [] d = refl
moments_more (e ∷ es) d = by (eqb e.1 0) (moments_more es d)
  where
    by : (t : Bool) → moments_of (es ++ d ∷ []) ≡ moments_of es ++ moments_of (d ∷ [])
        → cond t (moments_of (es ++ d ∷ [])) ((e.0.0, e.1) ∷ moments_of (es ++ d ∷ [])) ≡ cond t (moments_of es) ((e.0.0, e.1) ∷ moments_of es) ++ moments_of (d ∷ [])
    by true k = k
    by false k = ap (λ (l : Cursors). (e.0.0, e.1) ∷ l) k
