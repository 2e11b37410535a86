-- Patterns: pieces that stand in this order, without overlap.
use Rattle.std.specs.Prelude.{ℕ, List, [], ◌∷◌, Bool, ◌&&◌, ◌||◌, nat_eq, length, drop}
use Rattle.std.specs.List.{starts_with, ends_with}

abbrev pub begins_with : List ℕ → List ℕ → Bool
begins_with piece bytes = starts_with nat_eq bytes piece

-- a piece stands somewhere, and what is asked of the rest holds behind it
abbrev pub somewhere : List ℕ → (List ℕ → Bool) → List ℕ → Bool
somewhere piece rest [] = begins_with piece [] && rest (drop (length piece) [])
somewhere piece rest (b ∷ bs) = (begins_with piece (b ∷ bs) && rest (drop (length piece) (b ∷ bs))) || somewhere piece rest bs

-- pieces, and the last one at the end
abbrev pub in_turn : List (List ℕ) → List ℕ → List ℕ → Bool
in_turn [] last bytes = ends_with nat_eq bytes last
in_turn (piece ∷ pieces) last bytes = somewhere piece (in_turn pieces last) bytes

-- the initial piece at the start, those between, and the last one
abbrev pub is_of_pattern : List ℕ → List (List ℕ) → List ℕ → List ℕ → Bool
is_of_pattern initial middle last bytes = begins_with initial bytes && in_turn middle last (drop (length initial) bytes)
