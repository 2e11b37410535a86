-- When a call answers that a vector is full, exit by exit: n is how many cursors there would be.
use Rattle.std.proofs.Common.{◌≡◌, ℕ, ◌≤◌, ◌<◌, ◌↔◌, Result, Ok, Err, arith, refl}
use Rattle.std.specs.Prelude.{IsErrOf}
use Rattle.std.specs.Result.{IsErrAnd}
use Rattle.std.proofs.lemmas.Result.{err_from_is_err_and}
use Rattle.adr_values.specs.declared.failure.Failure.{Failure}
use Rattle.adr_values.specs.declared.failure.Failure.TheVariants.{NoMemory}
use Rattle.adr_values.specs.declared.vector.Full.{Full}
use Rattle.adr_values.specs.Refusal.{full}

abbrev pub Answer : Type 0 → Type 0
Answer V = Result V (Failure Full)

abbrev pub IsFullWhen : {V : Type 0} → Answer V → ℕ → ℕ → Type 0
IsFullWhen r most n = IsErrOf r full ↔ (most < n)

pub done : {V : Type 0} (v : V) (most n : ℕ) → n ≤ most → IsFullWhen (Ok v) most n
done v most n le = (λ h. absurd (cc), λ lt. absurd (omega arith))

pub refused : {V : Type 0} (most n : ℕ) → most < n → IsFullWhen {V = V} (Err full) most n
refused most n lt = (λ h. lt, λ k. refl)

-- where memory ran out there was room
pub wanting : {V : Type 0} (r : Answer V) (most n : ℕ) → IsErrAnd r (λ e. e ≡ NoMemory) → n ≤ most → IsFullWhen r most n
wanting r most n h le =
    let p = err_from_is_err_and r h in
    (λ k. absurd (let a = p.1 in let b = p.2 in cc), λ lt. absurd (omega arith))
