-- Which of several refusals comes first, and what it means that none comes.
use Rattle.std.proofs.Common.{◌≡◌, inl, inr, ℕ, List, [], ◌∷◌, Bool, true, false, not, Option, Some, None, Ok, Err, refl, sym, ap, ◌∙◌, subst}
use Rattle.std.specs.Prelude.{is_some}
use Rattle.std.specs.List.{AllByRecursion}
use Rattle.std.specs.Bool.{then_some}
use Rattle.std.specs.Option.{IfSome, option_map}
use Rattle.std.proofs.lemmas.Bool.{not-false}
use Rattle.adr_values.proofs.ExactCalls.{not_then}
use Rattle.adr_values.specs.Vector.{Cursors, at_most, first_gap}
use Rattle.adr_values.proofs.Comparing.{gap-is-not_at_most}
use Rattle.adr_model.specs.Member.{Each}
use Rattle.adr_values.specs.First.{first_of}
use Rattle.adr_model.specs.Refusing.{unless}

module _ {A : Type 0} where
  -- where none comes first there is none
  pub none_there : (os : List (Option A)) → first_of os ≡ None → Each (λ (o : Option A). o ≡ None) os
  none_there [] none o m = absurd m
  none_there (None ∷ os) none o (inl is) = is
  none_there (None ∷ os) none o (inr m) = none_there os none o m
  none_there (Some x ∷ os) none o m = absurd (cc)

  pub none_comes : (o : Option A) (os : List (Option A)) → o ≡ None → first_of (o ∷ os) ≡ first_of os
  none_comes o os none = ap (λ p. first_of (p ∷ os)) none

  -- ---- what a test refuses

  pub is_so : (b : Bool) (x : A) → then_some (not b) x ≡ None → b ≡ true
  is_so b x none = not-false b (not_then (not b) x none)

  pub unmet : (b : Bool) (x : A) → b ≡ false → then_some b x ≡ None
  unmet b x fails = ap (λ c. then_some c x) fails

  module _ (P : A → Type 0) where
    pub where_it_is : (o : Option A) (x : A) → IfSome o P → o ≡ Some x → P x
    where_it_is None x is e = absurd (cc)
    where_it_is (Some y) x is e = let same : y ≡ x = cc in subst P same is

    pub none_is : (o : Option A) → o ≡ None → IfSome o P
    none_is o none = subst (λ p. IfSome p P) (sym none) tt

    -- a fact of each, where those before are none, is one of the first
    pub first_is : (o : Option A) (os : List (Option A)) → IfSome o P → (o ≡ None → IfSome (first_of os) P) → IfSome (first_of (o ∷ os)) P
    first_is None os is rest = rest refl
    first_is (Some x) os is rest = is

    pub all_is : (os : List (Option A)) → AllByRecursion (λ o. IfSome o P) os → IfSome (first_of os) P
    all_is [] each = tt
    all_is (o ∷ os) each = first_is o os each.0 (λ _. all_is os each.1)

    pub tested_is : (b : Bool) (x : A) → P x → IfSome (then_some b x) P
    tested_is true x is = is
    tested_is false x is = tt

-- ---- what comes where there is none

module _ {A E : Type 0} where
  pub answered : (o : Option E) (x y : A) → unless o x ≡ Ok y → (o ≡ None) × (x ≡ y)
  answered None x y e = (refl, cc)
  answered (Some z) x y e = absurd (cc)

  pub refused_by : (o : Option E) (x : A) (z : E) → unless o x ≡ Err z → o ≡ Some z
  refused_by None x z e = absurd (cc)
  refused_by (Some y) x z e = cc

-- ---- refusals that are made of others

module _ {A B : Type 0} (f : A → B) where
  pub not_mapped : (o : Option A) → option_map f o ≡ None → o ≡ None
  not_mapped None none = refl
  not_mapped (Some x) none = absurd (cc)

  pub mapped_is : (P : B → Type 0) → ((x : A) → P (f x)) → (o : Option A) → IfSome (option_map f o) P
  mapped_is P each None = tt
  mapped_is P each (Some x) = each x

module _ {B : Type 0} (f : List ℕ × ℕ × ℕ → B) (v w : Cursors) where
  pub no_gap : option_map f (first_gap v w) ≡ None → at_most v w ≡ true
  no_gap none = not-false (at_most v w) (sym (gap-is-not_at_most v w) ∙ ap is_some (not_mapped f (first_gap v w) none))

  pub all_covered : at_most v w ≡ true → option_map f (first_gap v w) ≡ None
  all_covered all = by (first_gap v w) (gap-is-not_at_most v w ∙ ap not all)
    where
      by : (o : Option (List ℕ × ℕ × ℕ)) → is_some o ≡ false → option_map f o ≡ None
      by None is = refl
      by (Some g) is = absurd (cc)
