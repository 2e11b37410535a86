-- The first of several refusals, taken one after the other.
use Rattle.std.proofs.Common.{◌≡◌, List, [], ◌∷◌, Option, None, Some, refl}
use Rattle.std.specs.Option.{option_or}
use Rattle.adr_values.specs.First.{first_of}

module _ {A : Type 0} where
  pub first_of_one : (a : Option A) → a ≡ first_of (a ∷ [])
  first_of_one None = refl
  first_of_one (Some x) = refl

  pub first_of_two : (a b : Option A) → option_or a b ≡ first_of (a ∷ b ∷ [])
  first_of_two None b = first_of_one b
  first_of_two (Some x) b = refl

  -- what is first of two stands for both
  pub first_of_more : (a b : Option A) (os : List (Option A)) → first_of (option_or a b ∷ os) ≡ first_of (a ∷ b ∷ os)
  first_of_more None b os = refl
  first_of_more (Some x) b os = refl
