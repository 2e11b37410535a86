-- Writings that tell what was written whatever follows them: where they stand in front of equal bytes, they are equal.
use Rattle.std.proofs.Common.{◌≡◌, ℕ, Bool, true, not, List, [], ◌∷◌, ◌++◌, length, flat_map, refl, sym, subst, ◌∙◌, arith, append_assoc}
use Rattle.std.specs.List.{All, list_all}
use Rattle.std.proofs.lemmas.Bool.{and_parts}
use Rattle.std.proofs.lemmas.List.Elements.{All-head, All-tail}

-- none of these bytes stands in front
abbrev pub ends : (ℕ → Bool) → List ℕ → Bool
ends p [] = true
ends p (b ∷ bs) = not (p b)

pub clash : (p : ℕ → Bool) (a b : ℕ) → p a ≡ true → not (p b) ≡ true → a ≡ b → ⊥
clash p a b h g e =
    let other : not (p a) ≡ true = subst (λ c. not (p c) ≡ true) (sym e) g in
    let none : not true ≡ true = subst (λ t. not t ≡ true) h other in
    cc

-- words of some bytes, before what is none of them
pub words_divide : (p : ℕ → Bool) (x y r s : List ℕ) → list_all p x ≡ true → list_all p y ≡ true → ends p r ≡ true → ends p s ≡ true → x ++ r ≡ y ++ s → (x ≡ y) × (r ≡ s)
words_divide p [] [] r s hx hy er es e = (refl, e)
words_divide p [] (b ∷ y) [] s hx hy er es e = absurd (cc)
words_divide p [] (b ∷ y) (c ∷ r) s hx hy er es e =
    let first : b ≡ c = cc in
    absurd (clash p b c (and_parts (p b) (list_all p y) hy).0 er first)
words_divide p (a ∷ x) [] r [] hx hy er es e = absurd (cc)
words_divide p (a ∷ x) [] r (c ∷ s) hx hy er es e =
    let first : a ≡ c = cc in
    absurd (clash p a c (and_parts (p a) (list_all p x) hx).0 es first)
words_divide p (a ∷ x) (b ∷ y) r s hx hy er es e =
    let first : a ≡ b = cc in
    let rest : x ++ r ≡ y ++ s = cc in
    let more = words_divide p x y r s (and_parts (p a) (list_all p x) hx).1 (and_parts (p b) (list_all p y) hy).1 er es rest in
    (λ i. first i ∷ more.0 i, more.1)

-- one element told, and then the others
both : {A : Type 0} (a b : A) (x y : List A) (r s : List ℕ) → a ≡ b → (x ≡ y) × (r ≡ s) → (a ∷ x ≡ b ∷ y) × (r ≡ s)
both a b x y r s e more = (λ i. e i ∷ more.0 i, more.1)

-- lists of writings that are told before what F has, before what E has: this is no further writing
module _ {A : Type 0} (f : A → List ℕ) (P : A → Type 0) (F E : List ℕ → Type 0)
    (one : (a b : A) (r s : List ℕ) → P a → P b → F r → F s → f a ++ r ≡ f b ++ s → (a ≡ b) × (r ≡ s))
    (goes : (xs : List A) (r : List ℕ) → E r → F (flat_map f xs ++ r))
    (apart : (a : A) (r s : List ℕ) → P a → F r → E s → f a ++ r ≡ s → ⊥) where
  pub lists_divide : (xs ys : List A) (r s : List ℕ) → All P xs → All P ys → E r → E s → flat_map f xs ++ r ≡ flat_map f ys ++ s → (xs ≡ ys) × (r ≡ s)
  lists_divide [] [] r s hx hy er es e = (refl, e)
  lists_divide [] (y ∷ ys) r s hx hy er es e =
      absurd (apart y (flat_map f ys ++ s) r (All-head P y ys hy) (goes ys s es) er (sym (e ∙ append_assoc (f y) (flat_map f ys) s)))
  lists_divide (x ∷ xs) [] r s hx hy er es e =
      absurd (apart x (flat_map f xs ++ r) s (All-head P x xs hx) (goes xs r er) es (sym (append_assoc (f x) (flat_map f xs) r) ∙ e))
  lists_divide (x ∷ xs) (y ∷ ys) r s hx hy er es e =
      let first = one x y (flat_map f xs ++ r) (flat_map f ys ++ s) (All-head P x xs hx) (All-head P y ys hy) (goes xs r er) (goes ys s es)
      (sym (append_assoc (f x) (flat_map f xs) r) ∙ e ∙ append_assoc (f y) (flat_map f ys) s) in
      both x y xs ys r s first.0 (lists_divide xs ys r s (All-tail P x xs hx) (All-tail P y ys hy) er es first.1)

-- as many writings, each told whatever follows it
module _ {A : Type 0} (f : A → List ℕ) (P : A → Type 0)
    (one : (a b : A) (r s : List ℕ) → P a → P b → f a ++ r ≡ f b ++ s → (a ≡ b) × (r ≡ s)) where
  pub as_many_divide : (xs ys : List A) (r s : List ℕ) → length xs ≡ length ys → All P xs → All P ys → flat_map f xs ++ r ≡ flat_map f ys ++ s → (xs ≡ ys) × (r ≡ s)
  as_many_divide [] [] r s n hx hy e = (refl, e)
  as_many_divide [] (y ∷ ys) r s n hx hy e = absurd (omega arith)
  as_many_divide (x ∷ xs) [] r s n hx hy e = absurd (omega arith)
  as_many_divide (x ∷ xs) (y ∷ ys) r s n hx hy e =
      let first = one x y (flat_map f xs ++ r) (flat_map f ys ++ s) (All-head P x xs hx) (All-head P y ys hy)
      (sym (append_assoc (f x) (flat_map f xs) r) ∙ e ∙ append_assoc (f y) (flat_map f ys) s) in
      let fewer : length xs ≡ length ys = omega arith in
      both x y xs ys r s first.0 (as_many_divide xs ys r s fewer (All-tail P x xs hx) (All-tail P y ys hy) first.1)
