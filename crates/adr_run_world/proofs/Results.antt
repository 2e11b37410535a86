-- What is said of an `Ok` or of an `Err` alone.
use Rattle.std.proofs.Common.{subst, sym}
use Rattle.std.specs.Prelude.{◌≡◌, Result, Ok, Err, IfOk, OnErr, OnOk, IsErrAnd}

pub on_err_so : {X Y P Q : Type 0} (r : Result X Y) → OnErr r P → (P → Q) → OnErr r Q
on_err_so (Ok x) p so = tt
on_err_so (Err e) p so = so p

-- what is said of an `Ok` holds of every `Err`
pub no_ok : {X Y : Type 0} (P : Type 0) (Q : Y → Type 0) (r : Result X Y) → IsErrAnd r Q → OnOk r P
no_ok P Q (Ok x) none = absurd none
no_ok P Q (Err e) is = tt

pub on_err_both : {X Y P Q R : Type 0} (r : Result X Y) → OnErr r P → OnErr r Q → (P → Q → R) → OnErr r R
on_err_both (Ok x) p q so = tt
on_err_both (Err e) p q so = so p q

-- what is said of an `Ok` that gives this
pub on_ok_as : {X Y Q : Type 0} (r : Result X Y) (x : X) (P : X → Type 0) → IfOk r (λ y. y ≡ x) → OnOk r Q → (Q → P x) → IfOk r P
on_ok_as (Ok y) x P is q so = subst P (sym is) (so q)
on_ok_as (Err e) x P is q so = tt

-- what holds behind an `Ok` and behind an `Err`
pub either_so : {X Y Q R : Type 0} (r : Result X Y) (P : Type 0) → OnOk r Q → OnErr r R → (Q → P) → (R → P) → P
either_so (Ok x) P q none ok err = ok q
either_so (Err e) P none p ok err = err p
