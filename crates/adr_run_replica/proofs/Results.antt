-- What is said of an `Ok` or of an `Err` alone, and of an option that is there.
use Rattle.std.proofs.Common.{◌≡◌, sym, subst, Option, Some, Result, Ok, Err}
use Rattle.std.specs.Prelude.{IfOk, IfSome, OnErr}
use Rattle.adr_call.specs.declared.outcome.Outcome.{Outcome}
use Rattle.adr_outcome.specs.Unsent.{unsent}

pub on_err : {X Y : Type 0} (P : Type 0) (r : Result X Y) → P → OnErr r P
on_err P (Ok x) p = tt
on_err P (Err e) p = p

pub on_err_so : {X Y : Type 0} (P Q : Type 0) (r : Result X Y) → OnErr r P → (P → Q) → OnErr r Q
on_err_so P Q (Ok x) p so = tt
on_err_so P Q (Err e) p so = so p

pub if_ok_so : {X Y : Type 0} (P Q : X → Type 0) (r : Result X Y) → IfOk r P → ((x : X) → P x → Q x) → IfOk r Q
if_ok_so P Q (Ok x) p so = so x p
if_ok_so P Q (Err e) p so = tt

pub if_ok_at : {X Y : Type 0} (P : X → Type 0) (r : Result X Y) (x : X) → r ≡ Ok x → P x → IfOk r P
if_ok_at P r x is p = subst (λ r. IfOk r P) (sym is) p

pub if_ok_is : {X Y : Type 0} (P : X → Type 0) (r : Result X Y) (x : X) → r ≡ Ok x → IfOk r P → P x
if_ok_is P r x is p = subst (λ r. IfOk r P) is p

pub if_ok_as : {X Y : Type 0} (P Q : X → Type 0) (r s : Result X Y) → r ≡ s → IfOk s P → ((x : X) → P x → Q x) → IfOk r Q
if_ok_as P Q r s is p so = subst (λ r. IfOk r Q) (sym is) (if_ok_so P Q s p so)

pub no_err : {X Y : Type 0} (P : Type 0) (r : Result X Y) (x : X) → r ≡ Ok x → OnErr r P
no_err P (Ok y) x is = tt
no_err P (Err e) x is = absurd (cc is)

pub on_err_as : {X Y : Type 0} (P Q : Type 0) (r s : Result X Y) → r ≡ s → OnErr s P → (P → Q) → OnErr r Q
on_err_as P Q r s is p so = subst (λ r. OnErr r Q) (sym is) (on_err_so P Q s p so)

-- ---- an answer without a message

pub on_err_unsent : {A E : Type 0} (P Q : Type 0) (r : Result (Outcome × Option A) E) (o : Result Outcome E) → r ≡ unsent o → OnErr o P → (P → Q) → OnErr r Q
on_err_unsent {A} {E} P Q r o is p so = subst (λ x. OnErr x Q) (sym is) (by o p)
  where
    by : (o : Result Outcome E) → OnErr o P → OnErr {T = Outcome × Option A} (unsent o) Q
    by (Ok told) p = tt
    by (Err e) p = so p

pub none_sent : {A E : Type 0} (P : A → Type 0) (r : Result (Outcome × Option A) E) (o : Result Outcome E) → r ≡ unsent o → IfOk r (λ sent. IfSome sent.1 P)
none_sent {A} {E} P r o is = subst (λ x. IfOk x (λ sent. IfSome sent.1 P)) (sym is) (by o)
  where
    by : (o : Result Outcome E) → IfOk {T = Outcome × Option A} (unsent o) (λ sent. IfSome sent.1 P)
    by (Ok told) = tt
    by (Err e) = tt

pub one_sent : {A E : Type 0} (P : A → Type 0) (Q : Outcome → Type 0) (r t : Result (Outcome × Option A) E) (a : A) → r ≡ t → IfOk t (λ sent. (sent.1 ≡ Some a) × Q sent.0) → P a
    → IfOk r (λ sent. IfSome sent.1 P)
one_sent P Q r t a is sends holds =
    if_ok_as (λ sent. (sent.1 ≡ Some a) × Q sent.0) (λ sent. IfSome sent.1 P) r t is sends (λ sent both. subst (λ o. IfSome o P) (sym both.0) holds)
