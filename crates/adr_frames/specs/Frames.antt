-- Frames: a length, and so many bytes; and what comes next in a connection.
use Rattle.std.specs.Prelude.{◌&&◌, ◌≤◌, ℕ, Bool, List, [], ◌∷◌, ◌++◌, length, nat_le, Ok, Err}
use Rattle.adr_wire.specs.Fields.{u32_at, u32}
use Rattle.adr_wire.specs.Reading.{Read, Reading, Rest, as_at, bytes_at, then_at, where_at}

-- the most bytes of a frame: 8 MiB
abbrev pub frame_limit : ℕ
frame_limit = 8388608

abbrev pub IsFrameLength : ℕ → Type 0
IsFrameLength n = (1 ≤ n) × (n ≤ frame_limit)

abbrev pub is_frame_length : ℕ → Bool
is_frame_length n = nat_le 1 n && nat_le n frame_limit

abbrev pub length_at : Reading ℕ
length_at = where_at is_frame_length u32_at

unfoldable pub frame_at : Reading (List ℕ)
frame_at = as_at (λ p. p.1) (then_at length_at bytes_at)

abbrev pub frame : List ℕ → List ℕ
frame bytes = u32 (length bytes) ++ bytes

-- ---- what comes next in a connection

pub data Next : Type 0 where
  IsOver : Next  -- nothing is left
  IsBroken : Next  -- what is left doesn't begin with a whole frame
  IsFrame : (bytes rest : List ℕ) → Next  -- a frame, and what is left behind it

abbrev pub from : List ℕ → Rest
from bytes = record { place = 0; bytes = bytes }

abbrev pub next_of : Read (List ℕ) → Next
next_of (Ok x) = IsFrame x.0 x.1.bytes
next_of (Err place) = IsBroken

abbrev pub next_in : List ℕ → Next
next_in [] = IsOver
next_in (b ∷ bs) = next_of (frame_at (from (b ∷ bs)))
