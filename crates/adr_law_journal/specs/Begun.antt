-- What a start has read so far.
use Rattle.std.specs.Prelude.{◌≡◌, ◌≤◌, ◌<◌, ℕ, Bool, List, ◌∷◌, length}
use Rattle.adr_model.specs.Lengths.{first_area}
use Rattle.adr_law_journal.specs.Log.{open_gate}
use Rattle.adr_law_journal.specs.Areas.{window, selector_place, is_second, slot_of}

-- an open gate and a head
abbrev pub HasFront : List ℕ → List ℕ → Type 0
HasFront front bytes = window 0 selector_place bytes ≡ open_gate ∷ front

-- the selected slot names this place, where an area may stand
pub record IsNamed (second : Bool) (place : ℕ) (bytes : List ℕ) : Type 0 where
  pub long : first_area ≤ length bytes
  pub selects : is_second bytes ≡ second
  pub named : slot_of second bytes ≡ place
  pub low : first_area ≤ place
  pub near : place < length bytes
