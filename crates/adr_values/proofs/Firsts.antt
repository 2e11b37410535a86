-- Where nothing is found: what that says of each element of a list.
use Rattle.std.proofs.Common.{◌≡◌, ℕ, zero, suc, ◌+◌, ◌<◌, List, [], ◌∷◌, take, Bool, true, false, cond, ◌||◌, not, None, Some, refl, ap, arith}
use Rattle.std.specs.List.{find, list_any, range_with_len, slice_get}

pub false_from_refuted : (b : Bool) → (b ≡ true → ⊥) → b ≡ false
false_from_refuted true h = absurd (h refl)
false_from_refuted false h = refl

pub true_from_not : (b : Bool) → not b ≡ false → b ≡ true
true_from_not true h = refl
true_from_not false h = cc

module _ {X : Type 0} (p : X → Bool) where
  -- no element passes
  pub none_passes : (xs : List X) → find p xs ≡ None → (k : ℕ) (x : X) → slice_get xs k ≡ Some x → p x ≡ false
  none_passes [] none k x at = cc
  none_passes (y ∷ ys) none k x at = step (p y) refl none (none_passes ys) k at
    where
      step : (b : Bool) → p y ≡ b → cond b (Some y) (find p ys) ≡ None → (find p ys ≡ None → (k : ℕ) (z : X) → slice_get ys k ≡ Some z → p z ≡ false)
          → (k : ℕ) → slice_get (y ∷ ys) k ≡ Some x → p x ≡ false
      step true e none rest k at = cc
      step false e none rest zero at = let same : y ≡ x = cc in rw (← same) e
      step false e none rest (suc k) at = rest none k x at

  pub none_from_each : (xs : List X) → ((k : ℕ) (x : X) → slice_get xs k ≡ Some x → p x ≡ false) → find p xs ≡ None
  none_from_each [] each = refl
  none_from_each (y ∷ ys) each = rw (each 0 y refl) (none_from_each ys (λ k x at. each (suc k) x at))

  -- an element before k passes
  pub any-take : (xs : List X) (j k : ℕ) (x : X) → j < k → slice_get xs j ≡ Some x → p x ≡ true → list_any p (take k xs) ≡ true
  any-take [] j k x below at passes = cc
  any-take (y ∷ ys) j zero x below at passes = absurd (omega arith)
  any-take (y ∷ ys) zero (suc k) x below at passes = let same : y ≡ x = cc in rw (same, passes) refl
  any-take (y ∷ ys) (suc j) (suc k) x below at passes = rw (any-take ys j k x (omega arith) at passes) (or_true (p y))
    where
      or_true : (b : Bool) → (b || true) ≡ true
      or_true true = refl
      or_true false = refl

  pub none-take : (xs : List X) (k : ℕ) → ((j : ℕ) (x : X) → j < k → slice_get xs j ≡ Some x → p x ≡ false) → list_any p (take k xs) ≡ false
  none-take [] zero each = refl
  none-take [] (suc k) each = refl
  none-take (y ∷ ys) zero each = refl
  none-take (y ∷ ys) (suc k) each = rw (each 0 y (omega arith) refl) (none-take ys k (λ j x below at. each (suc j) x (omega arith) at))

-- the places of a range
pub slice_get-range_with_len : (a n k j : ℕ) → k < n → a + k ≡ j → slice_get (range_with_len a n) k ≡ Some j
slice_get-range_with_len a zero k j below e = absurd (omega arith)
slice_get-range_with_len a (suc n) zero j below e = ap Some (omega arith)
slice_get-range_with_len a (suc n) (suc k) j below e = slice_get-range_with_len (a + 1) n k j (omega arith) (omega arith)

pub in_range : (a n k j : ℕ) → slice_get (range_with_len a n) k ≡ Some j → (a + k ≡ j) × (k < n)
in_range a zero k j at = cc
in_range a (suc n) zero j at = let same : a ≡ j = cc in (omega arith, omega arith)
in_range a (suc n) (suc k) j at = let rest = in_range (a + 1) n k j at in (omega (arith, rest.0), omega (arith, rest.1))
