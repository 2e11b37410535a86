-- What an option and a result are.
use Rattle.std.proofs.Common.{◌≡◌, Option, Some, None, Result, Ok, Err, refl, sym, ◌∙◌, ap}

pub none_of : {A : Type 0} (o : Option A) → ((x : A) → o ≡ Some x → ⊥) → o ≡ None
none_of None h = refl
none_of (Some x) h = absurd (h x refl)

the_err : {T E : Type 0} → E → Result T E → E
the_err a (Ok x) = a
the_err a (Err b) = b

pub err_same : {T E : Type 0} (a b : E) (r : Result T E) → r ≡ Err a → r ≡ Err b → a ≡ b
unfolding the_err
err_same a b r isa isb = ap (the_err a) (sym isa ∙ isb)
