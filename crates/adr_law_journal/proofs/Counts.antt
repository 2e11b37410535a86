-- A choice by a count.
use Rattle.std.proofs.Common.{◌≡◌, ℕ, ◌≤◌, ◌<◌, arith, if◌then◌else◌}
use Rattle.std.specs.Prelude.{nat_le}
use Rattle.std.proofs.lemmas.Bool.Decides.{nat_tests}

pub enough : {X : Type 0} (n k : ℕ) (x y : X) → n ≤ k → (if nat_le n k then x else y) ≡ x
enough n k x y le = grind (arith, nat_tests)

pub too_few : {X : Type 0} (n k : ℕ) (x y : X) → k < n → (if nat_le n k then x else y) ≡ y
too_few n k x y lt = grind (arith, nat_tests)
