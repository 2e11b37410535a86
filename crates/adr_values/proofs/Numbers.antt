-- The schema of a number has that number.
use Rattle.std.specs.Prelude.{◌≡◌, refl, ℕ, Bool, true, false, ◌==◌, if◌then◌else◌, Some, None, IsSome}
use Rattle.std.proofs.Common.{sym, subst, eqb-true}
use Rattle.std.proofs.lemmas.Bool.{false≢true}
use Rattle.adr_values.specs.Schemas.{schema_1, schema_2, schema_table}
use Rattle.adr_values.specs.Numbered.{numbered}

abbrev IsItsNumber : ℕ → Type 0
IsItsNumber number = (numbered number).number ≡ number

-- it has that number
pub number-numbered : (number : ℕ) → IsSome (schema_table number) → (numbered number).number ≡ number
unfolding schema_1 schema_2
number-numbered number there = one (number == 1) refl there
  where
    two : (b : Bool) → (number == 2) ≡ b → IsSome (if b then Some schema_2 else None) → IsItsNumber number
    two true e h = subst IsItsNumber (sym (eqb-true number 2 e)) refl
    two false e h = absurd (false≢true h)

    one : (b : Bool) → (number == 1) ≡ b → IsSome (if b then Some schema_1 else if number == 2 then Some schema_2 else None) → IsItsNumber number
    one true e h = subst IsItsNumber (sym (eqb-true number 1 e)) refl
    one false e h = two (number == 2) refl h
