-- What is there, where it is told.
use Rattle.std.proofs.Common.{◌≡◌, Option, Some, None, IfSome, IsSome, refl, sym, ap, subst}
use Rattle.std.specs.Prelude.{unwrap_or}

pub if_told : {A : Type 0} (o : Option A) (P : A → Type 0) → ((there : A) → o ≡ Some there → P there) → IfSome o P
if_told None P h = tt
if_told (Some there) P h = h there refl

pub at_told : {A : Type 0} (o : Option A) (P : A → Type 0) (there : A) → o ≡ Some there → IfSome o P → P there
at_told {A} o P there is h = let Q : Option A → Type 0 = λ o. IfSome o P in subst Q is h

pub some_of : {A : Type 0} (o : Option A) → IsSome o → (x : A) × (o ≡ Some x)
some_of None is = absurd (cc is)
some_of (Some x) is = (x, refl)

pub is_some_of : {A : Type 0} (o : Option A) (x : A) → o ≡ Some x → IsSome o
is_some_of {A} o x is = let Q : Option A → Type 0 = λ o. IsSome o in subst Q (sym is) refl

pub some_is : {A : Type 0} (x y : A) → Some x ≡ Some y → x ≡ y
some_is x y is = ap (λ o. unwrap_or o x) is
