-- What is found among a list, and what a reference to it tells.
use Rattle.std.proofs.Common.{◌≡◌, Bool, true, false, cond, ◌||◌, List, [], ◌∷◌, Option, Some, None, refl, find, Bor}
use Rattle.std.specs.List.{list_any}
use Rattle.std.specs.Option.{is_some, option_copied}

-- what a reference refers to is there where the reference is
pub is_copied : {A : Type 0} (o : Option (Bor A)) → is_some o ≡ is_some (option_copied o)
is_copied None = refl
is_copied (Some x) = refl

module _ {A : Type 0} where
  pub is_found : (t : A → Bool) (xs : List A) → is_some (find t xs) ≡ list_any t xs
  is_found t [] = refl
  is_found t (x ∷ xs) = by (t x) (is_found t xs)
    where
      by : (b : Bool) → is_some (find t xs) ≡ list_any t xs → is_some (cond b (Some x) (find t xs)) ≡ (b || list_any t xs)
      by true is = refl
      by false is = is
