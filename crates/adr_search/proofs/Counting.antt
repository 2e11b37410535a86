-- How many elements meet a test, where another test is met wherever it is.
use Rattle.std.proofs.Common.{◌≡◌, ℕ, suc, ◌≤◌, List, [], ◌∷◌, length, Bool, true, false, cond, Some, refl, sym, ◌∙◌, subst, arith}
use Rattle.std.specs.List.{find}

abbrev ticked : Bool → ℕ → ℕ
ticked true n = suc n
ticked false n = n

abbrev pub count : {A : Type 0} → (A → Bool) → List A → ℕ
count p [] = 0
count p (x ∷ xs) = ticked (p x) (count p xs)

pub at_most_all : {A : Type 0} (p : A → Bool) (xs : List A) → count p xs ≤ length xs
at_most_all p [] = omega arith
at_most_all p (x ∷ xs) = by (p x) (at_most_all p xs)
  where
    by : (b : Bool) → count p xs ≤ length xs → ticked b (count p xs) ≤ suc (length xs)
    by true h = omega arith
    by false h = omega arith

module _ {A : Type 0} (p q : A → Bool) (also : (x : A) → p x ≡ true → q x ≡ true) where
  pub as_many : (xs : List A) → count p xs ≤ count q xs
  as_many [] = omega arith
  as_many (x ∷ xs) = by (p x) (q x) (also x) (as_many xs)
    where
      by : (b c : Bool) → (b ≡ true → c ≡ true) → count p xs ≤ count q xs → ticked b (count p xs) ≤ ticked c (count q xs)
      by true true h k = omega arith
      by true false h k = let no : false ≡ true = h refl in cc
      by false true h k = omega arith
      by false false h k = k

  -- where as many meet both, both are met by the same ones
  pub same_tests : (xs : List A) → count p xs ≡ count q xs → (t : A → Bool) (e : A) → find t xs ≡ Some e → p e ≡ q e
  same_tests [] same t e h = cc
  same_tests (x ∷ xs) same t e h = by (λ rest k. same_tests xs rest t e k) (p x) (q x) refl refl (also x) same
    where
      there : (count p xs ≡ count q xs → find t xs ≡ Some e → p e ≡ q e) → p x ≡ q x → count p xs ≡ count q xs → (b : Bool) → cond b (Some x) (find t xs) ≡ Some e → p e ≡ q e
      there later here rest true k = let is : x ≡ e = cc in subst (λ (y : A). p y ≡ q y) is here
      there later here rest false k = later rest k

      by : (count p xs ≡ count q xs → find t xs ≡ Some e → p e ≡ q e) → (b c : Bool) → p x ≡ b → q x ≡ c → (b ≡ true → c ≡ true) → ticked b (count p xs) ≡ ticked c (count q xs) → p e ≡ q e
      by later true true i j imp k = there later (i ∙ sym j) (omega arith) (t x) h
      by later true false i j imp k = let no : false ≡ true = imp refl in cc
      by later false true i j imp k = let more = as_many xs in absurd (omega arith)
      by later false false i j imp k = there later (i ∙ sym j) k (t x) h
