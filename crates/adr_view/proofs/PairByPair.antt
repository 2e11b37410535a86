-- Lists that are compared pair by pair, from the front.
use Rattle.std.proofs.Common.{◌≡◌, ℕ, zero, suc, ◌<◌, ◌≤◌, List, [], ◌∷◌, Bool, true, ◌&&◌, length, drop, slice_index_or, refl, sym, ap, ◌∙◌, arith}
use Rattle.std.specs.Cmp.Lexicographic.{pointwise}

module _ {A : Type 0} (E : A → A → Bool) where
  pub next_pair : (k : ℕ) (xs ys : List A) (x y : A) → k < length xs → length xs ≡ length ys → x ≡ slice_index_or xs k x → y ≡ slice_index_or ys k y
      → pointwise E (drop k xs) (drop k ys) ≡ (E x y && pointwise E (drop (suc k) xs) (drop (suc k) ys))
  next_pair k [] ys x y within same f g = absurd (omega (arith, within))
  next_pair k (a ∷ xs) [] x y within same f g = absurd (omega (arith, same))
  next_pair zero (a ∷ xs) (b ∷ ys) x y within same f g = ap (λ z. E z b && pointwise E xs ys) (sym f) ∙ ap (λ z. E x z && pointwise E xs ys) (sym g)
  next_pair (suc k) (a ∷ xs) (b ∷ ys) x y within same f g = next_pair k xs ys x y (omega (arith, within)) (omega (arith, same)) f g

  -- and behind all of them nothing is left
  pub no_pair : (k : ℕ) (xs ys : List A) → length xs ≤ k → length xs ≡ length ys → pointwise E (drop k xs) (drop k ys) ≡ true
  no_pair zero [] [] far same = refl
  no_pair (suc k) [] [] far same = refl
  no_pair k [] (b ∷ ys) far same = absurd (omega (arith, same))
  no_pair k (a ∷ xs) [] far same = absurd (omega (arith, same))
  no_pair zero (a ∷ xs) (b ∷ ys) far same = absurd (omega (arith, far))
  no_pair (suc k) (a ∷ xs) (b ∷ ys) far same = no_pair k xs ys (omega (arith, far)) (omega (arith, same))
