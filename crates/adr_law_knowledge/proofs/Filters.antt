-- What filters leave.
use Rattle.std.proofs.Common.{◌≡◌, Bool, true, false, cond, List, [], ◌∷◌, Option, None, refl, sym, ap, ◌∙◌, filter, filter_map}
use Rattle.std.specs.List.{cons_option}

module _ {A : Type 0} where
  -- tests that agree where the other one holds
  pub filters_swap : (p r q : A → Bool) → ((x : A) → q x ≡ true → p x ≡ r x) → (xs : List A) → filter p (filter q xs) ≡ filter q (filter r xs)
  filters_swap p r q same [] = refl
  filters_swap p r q same (x ∷ xs) = by (q x) refl (r x) refl (filters_swap p r q same xs)
    where
      by : (b : Bool) → q x ≡ b → (c : Bool) → r x ≡ c → filter p (filter q xs) ≡ filter q (filter r xs)
          → filter p (cond b (x ∷ filter q xs) (filter q xs)) ≡ filter q (cond c (x ∷ filter r xs) (filter r xs))
      by true is true rs rest =
          ap (λ d. cond d (x ∷ filter p (filter q xs)) (filter p (filter q xs))) (same x is ∙ rs) ∙ ap (λ ys. x ∷ ys) rest
          ∙ sym (ap (λ d. cond d (x ∷ filter q (filter r xs)) (filter q (filter r xs))) is)
      by true is false rs rest = ap (λ d. cond d (x ∷ filter p (filter q xs)) (filter p (filter q xs))) (same x is ∙ rs) ∙ rest
      by false is true rs rest = rest ∙ sym (ap (λ d. cond d (x ∷ filter q (filter r xs)) (filter q (filter r xs))) is)
      by false is false rs rest = rest

  pub filters_turn : (p q : A → Bool) (xs : List A) → filter p (filter q xs) ≡ filter q (filter p xs)
  filters_turn p q xs = filters_swap p p q (λ x is. refl) xs

  -- a filter of which the next one needs nothing
  pub none_missed : (p q : A → Bool) → ((x : A) → q x ≡ true → p x ≡ true) → (xs : List A) → filter q (filter p xs) ≡ filter q xs
  none_missed p q to [] = refl
  none_missed p q to (x ∷ xs) = by (q x) refl (p x) refl (none_missed p q to xs)
    where
      by : (b : Bool) → q x ≡ b → (c : Bool) → p x ≡ c → filter q (filter p xs) ≡ filter q xs → filter q (cond c (x ∷ filter p xs) (filter p xs)) ≡ cond b (x ∷ filter q xs) (filter q xs)
      by true qs true ps rest = ap (λ d. cond d (x ∷ filter q (filter p xs)) (filter q (filter p xs))) qs ∙ ap (λ (ys : List A). x ∷ ys) rest
      by true qs false ps rest = let k : p x ≡ true = to x qs in cc
      by false qs true ps rest = ap (λ d. cond d (x ∷ filter q (filter p xs)) (filter q (filter p xs))) qs ∙ rest
      by false qs false ps rest = rest

  -- and one that asks no more than the one before it
  pub all_stay : (p q : A → Bool) → ((x : A) → q x ≡ true → p x ≡ true) → (xs : List A) → filter p (filter q xs) ≡ filter q xs
  all_stay p q to xs = filters_turn p q xs ∙ none_missed p q to xs

  -- what gives nothing may go
  pub givers_kept : {B : Type 0} (f : A → Option B) (q : A → Bool) → ((x : A) → q x ≡ false → f x ≡ None) → (xs : List A) → filter_map f (filter q xs) ≡ filter_map f xs
  givers_kept f q gives [] = refl
  givers_kept {B} f q gives (x ∷ xs) = by (q x) refl (givers_kept f q gives xs)
    where
      by : (b : Bool) → q x ≡ b → filter_map f (filter q xs) ≡ filter_map f xs → filter_map f (cond b (x ∷ filter q xs) (filter q xs)) ≡ cons_option (f x) (filter_map f xs)
      by true is rest = ap (λ (ys : List B). cons_option (f x) ys) rest
      by false is rest = rest ∙ sym (ap (λ (o : Option B). cons_option o (filter_map f xs)) (gives x is))
