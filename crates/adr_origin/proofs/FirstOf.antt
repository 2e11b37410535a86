-- The first of a list of refusals is the first of those of its parts.
use Rattle.std.proofs.Common.{◌≡◌, List, [], ◌∷◌, ◌++◌, Option, Some, None, refl, ap, ◌∙◌}
use Rattle.adr_values.specs.First.{first_of}

module _ {A : Type 0} where
  pub alone : (o : Option A) → o ≡ first_of (o ∷ [])
  alone None = refl
  alone (Some x) = refl

  pub in_two : (xs ys : List (Option A)) → first_of (xs ++ ys) ≡ first_of (first_of xs ∷ first_of ys ∷ [])
  in_two [] ys = alone (first_of ys)
  in_two (None ∷ xs) ys = in_two xs ys
  in_two (Some x ∷ xs) ys = refl

  -- the first of some refusals, and then others
  pub in_front : (xs ys : List (Option A)) → first_of (xs ++ ys) ≡ first_of (first_of xs ∷ ys)
  in_front [] ys = refl
  in_front (None ∷ xs) ys = in_front xs ys
  in_front (Some x ∷ xs) ys = refl

  pub in_three : (xs ys zs : List (Option A)) → first_of (xs ++ (ys ++ zs)) ≡ first_of (first_of xs ∷ first_of ys ∷ first_of zs ∷ [])
  in_three [] ys zs = in_two ys zs
  in_three (None ∷ xs) ys zs = in_three xs ys zs
  in_three (Some x ∷ xs) ys zs = refl

  -- what each of three parts tells, where those before it pass
  pub first_of_three : (x : A) (o p q : Option A) → Some x ≡ o → Some x ≡ first_of (o ∷ p ∷ q ∷ [])
  first_of_three x o p q is = ap (λ a. first_of (a ∷ p ∷ q ∷ [])) is

  pub second_of_three : (x : A) (o p q : Option A) → None ≡ o → Some x ≡ p → Some x ≡ first_of (o ∷ p ∷ q ∷ [])
  second_of_three x o p q none is = ap (λ a. first_of (a ∷ q ∷ [])) is ∙ ap (λ a. first_of (a ∷ p ∷ q ∷ [])) none

  pub third_of_three : (o p q : Option A) → None ≡ o → None ≡ p → q ≡ first_of (o ∷ p ∷ q ∷ [])
  third_of_three o p q none free = alone q ∙ (ap (λ a. first_of (a ∷ q ∷ [])) free ∙ ap (λ a. first_of (a ∷ p ∷ q ∷ [])) none)
