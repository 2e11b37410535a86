-- The rest behind the first place at which a piece stands.
use Rattle.std.specs.Prelude.{ℕ, List, [], ◌∷◌, length, drop, Option, Some, None, if◌then◌else◌}
use Rattle.adr_search.specs.Pieces.{begins_with}

abbrev pub behind : List ℕ → List ℕ → Option (List ℕ)
behind piece [] = if begins_with piece [] then Some (drop (length piece) []) else None
behind piece (b ∷ bs) = if begins_with piece (b ∷ bs) then Some (drop (length piece) (b ∷ bs)) else behind piece bs
