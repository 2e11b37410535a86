-- A walk along a rising list finds what the list has.
use Rattle.std.proofs.Common.{◌≡◌, ℕ, zero, suc, Bool, true, false, cond, List, [], ◌∷◌, drop, ◌<◌, get_or, ◌+◌, refl, sym, ap, subst, ◌∙◌, length, add-one}
use Rattle.std.proofs.Math.Seq.{drop-cons}
use Rattle.std.specs.List.{AllByRecursion}
use Rattle.std.specs.Ordering.{is_eq, is_lt}
use Rattle.std.specs.declared.cmp.Ordering.TheVariants.{Less, Greater}
use Rattle.adr_values.specs.Order.{identifier_order}
use Rattle.adr_values.specs.Vector.{Cursors, at}
use Rattle.adr_values.proofs.Cursors.{IsRising, IsBelow, turned, turned_back, itself, below_all, at_below, same_from_test, head_below, tail_rising}

pub not_below : (inv q : List ℕ) → identifier_order inv q ≡ Less → is_lt (identifier_order q inv) ≡ false
not_below inv q less = ap is_lt (turned_back inv q less)

pub not_below_itself : (inv : List ℕ) → is_lt (identifier_order inv inv) ≡ false
not_below_itself inv = ap is_lt (itself inv)

module _ (c : List ℕ × ℕ) (cs : Cursors) (inv : List ℕ) where
  -- a lesser identifier is passed
  pub passed_less : identifier_order c.0 inv ≡ Less → (q : List ℕ) → is_lt (identifier_order q inv) ≡ false → at cs q ≡ at (c ∷ cs) q
  passed_less less q other = by (is_eq (identifier_order q c.0)) refl
    where
      by : (b : Bool) → is_eq (identifier_order q c.0) ≡ b → at cs q ≡ cond b c.1 (at cs q)
      by true e = absurd (let below : is_lt (identifier_order q inv) ≡ true = subst (λ (x : List ℕ). is_lt (identifier_order x inv) ≡ true) (sym (same_from_test q c.0 e)) (ap is_lt less) in cc)
      by false e = refl

  -- so is this one, for those above it
  pub passed_here : c.0 ≡ inv → (q : List ℕ) → identifier_order inv q ≡ Less → at cs q ≡ at (c ∷ cs) q
  passed_here same q less = by (is_eq (identifier_order q c.0)) refl
    where
      by : (b : Bool) → is_eq (identifier_order q c.0) ≡ b → at cs q ≡ cond b c.1 (at cs q)
      by true e = absurd (let again : identifier_order inv inv ≡ Less = subst (λ (x : List ℕ). identifier_order inv x ≡ Less) (same_from_test q c.0 e ∙ same) less in let equal = itself inv in cc)
      by false e = refl

  pub not_there : IsRising (c ∷ cs) → identifier_order c.0 inv ≡ Greater → at (c ∷ cs) inv ≡ 0
  not_there s greater = let less = turned c.0 inv greater in at_below inv (c ∷ cs) (less, below_all inv c.0 cs less (head_below c cs s))

-- ---- beside another list

-- what is left of a walk has the numbers of the whole, at each of these
abbrev pub Agrees : Cursors → Cursors → Cursors → Type 0
Agrees left whole cs = AllByRecursion (λ c. at left c.0 ≡ at whole c.0) cs

pub agrees_first : (whole cs : Cursors) → Agrees whole whole cs
agrees_first whole [] = tt
agrees_first whole (c ∷ cs) = (refl, agrees_first whole cs)

agrees_above : (left next whole : Cursors) (inv : List ℕ) → ((q : List ℕ) → identifier_order inv q ≡ Less → at next q ≡ at left q) → (cs : Cursors) → IsBelow inv cs → Agrees left whole cs → Agrees next whole cs
agrees_above left next whole inv above [] below all = tt
agrees_above left next whole inv above (c ∷ cs) below all = (above c.0 below.0 ∙ all.0, agrees_above left next whole inv above cs below.1 all.1)

rising_drop : (cs : Cursors) (i : ℕ) → IsRising cs → IsRising (drop i cs)
rising_drop cs zero s = s
rising_drop [] (suc i) s = s
rising_drop (c ∷ cs) (suc i) s = rising_drop cs i (tail_rising c cs s)

pub left_of : (cs : Cursors) (i : ℕ) (c : List ℕ × ℕ) → i < length cs → c ≡ get_or cs i c → drop i cs ≡ c ∷ drop (suc i) cs
left_of cs i c lt is = drop-cons cs i c lt ∙ ap (λ (d : List ℕ × ℕ). d ∷ drop (suc i) cs) (sym is)

module _ (left whole cs : Cursors) (i : ℕ) (c : List ℕ × ℕ) (lt : i < length cs) (is : c ≡ get_or cs i c) (all : Agrees left whole (drop i cs)) where
  -- at the next of them
  pub agrees_here : at left c.0 ≡ at whole c.0
  agrees_here = (subst (Agrees left whole) (left_of cs i c lt is) all).0

  -- and behind it
  pub agrees_behind : (next : Cursors) → IsRising cs → ((q : List ℕ) → identifier_order c.0 q ≡ Less → at next q ≡ at left q) → Agrees next whole (drop (i + 1) cs)
  agrees_behind next s above =
      let below = head_below c (drop (suc i) cs) (subst IsRising (left_of cs i c lt is) (rising_drop cs i s)) in
      let rest = (subst (Agrees left whole) (left_of cs i c lt is) all).1 in
      rw add-one (agrees_above left next whole c.0 above (drop (suc i) cs) below rest)
