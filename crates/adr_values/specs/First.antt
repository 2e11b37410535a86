-- The first of some reasons.
use Rattle.std.specs.Prelude.{List, [], ◌∷◌, Option, Some, None}

-- the first that is there
abbrev pub first_of : {A : Type 0} → List (Option A) → Option A
first_of [] = None
first_of (None ∷ os) = first_of os
first_of (Some x ∷ os) = Some x
