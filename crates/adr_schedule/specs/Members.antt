-- The names of the controllers of a ring, behind the first one.
use Rattle.std.specs.Prelude.{ℕ, zero, suc, List, [], ◌∷◌, ◌++◌, Bool, ◌||◌, ◌==◌, nat_le, ◌+◌, if◌then◌else◌, length, Option, Some, None}
use Rattle.std.specs.List.{list_any}
use Rattle.std.specs.Str.{bytes_eq}
use Rattle.adr_token.specs.Gives.{◌>>=◌}
use Rattle.adr_token.specs.Words.{ended, unspaced, name_at}
use Rattle.adr_schedule.specs.Limits.{controller_limit}

abbrev pub is_member : List (List ℕ) → List ℕ → Bool
is_member names name = list_any (λ (member : List ℕ). bytes_eq member name) names

-- one more name, unless it is there already, or there are as many as there may be
abbrev pub with_name : List ℕ → List (List ℕ) → List ℕ → Option (List (List ℕ))
with_name first names name = if bytes_eq first name || is_member names name || nat_le controller_limit (length names + 1) then None else Some (names ++ name ∷ [])

-- names added to others
abbrev pub with_names : List ℕ → List (List ℕ) → List (List ℕ) → Option (List (List ℕ))
with_names first names [] = Some names
with_names first names (name ∷ others) = with_name first names name >>= λ more. with_names first more others

-- the names of a line, to its end, added to others; a name has a byte, so there are at most as many as bytes
abbrev pub names_within : ℕ → List ℕ → List (List ℕ) → List ℕ → Option (List (List ℕ))
names_within zero first names bytes = ended bytes names
names_within (suc most) first names bytes =
    if length (unspaced bytes) == 0 then Some names
    else name_at bytes >>= λ name. with_name first names name.0 >>= λ more. names_within most first more name.1

-- the names of a line behind a first one, to its end
unfoldable pub names_at : List ℕ → List ℕ → Option (List (List ℕ))
names_at first bytes = names_within (length bytes) first [] bytes
