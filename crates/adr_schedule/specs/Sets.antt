-- The sets of a line, as the values that they give.
use Rattle.std.specs.Prelude.{ℕ, zero, suc, List, [], ◌∷◌, ◌==◌, if◌then◌else◌, length, Option, Some, None, is_some}
use Rattle.adr_values.specs.Assignments.{Given, given, placed}
use Rattle.adr_token.specs.Gives.{◌>>=◌}
use Rattle.adr_token.specs.Words.{ended, unspaced}
use Rattle.adr_token.specs.Values.{set_at}

-- one more attribute with its values, unless it has values already
abbrev pub with_set : List Given → Given → Option (List Given)
with_set values set = if is_some (given set.0 values) then None else Some (placed set.0 set.1 values)

-- sets added to values
abbrev pub with_sets : List Given → List Given → Option (List Given)
with_sets values [] = Some values
with_sets values (set ∷ sets) = with_set values set >>= λ more. with_sets more sets

-- sets in rising order of attribute, where no attribute stands twice
abbrev pub rising : List Given → Option (List Given)
rising sets = with_sets [] sets

-- the values that the sets of a line give, to its end, added to values; a set has a byte, so there are at most as many as bytes
abbrev pub sets_within : ℕ → List Given → List ℕ → Option (List Given)
sets_within zero values bytes = ended bytes values
sets_within (suc most) values bytes =
    if length (unspaced bytes) == 0 then Some values
    else set_at bytes >>= λ set. with_set values set.0 >>= λ more. sets_within most more set.1

-- the values that the sets of a line give, to its end
unfoldable pub sets_at : List ℕ → Option (List Given)
sets_at bytes = sets_within (length bytes) [] bytes
