-- That a value and its bytes determine each other.
use Rattle.std.specs.Prelude.{◌≡◌, ℕ, ◌<◌, ◌+◌, List, ◌++◌, length, slice_index, Ok}
use Rattle.adr_wire.specs.Reading.{Rest, Reading}

-- these are bytes
abbrev pub AreBytes : List ℕ → Type 0
AreBytes bytes = (i : ℕ) → slice_index bytes i < 256

-- behind so many bytes
abbrev pub behind : ℕ → List ℕ → List ℕ → Rest
behind place spelled bytes = record { place = place + length spelled; bytes = bytes }

-- what was read: it is in range, the bytes spell it, and what is left is what follows
pub record Was {X : Type 0} (InRange : X → Type 0) (spelled : X → List ℕ) (place : ℕ) (bytes : List ℕ) (x : X) (rest : Rest) : Type 0 where
  pub in_range : InRange x
  pub spelled_so : bytes ≡ spelled x ++ rest.bytes
  pub moved : rest.place ≡ place + length (spelled x)

-- what is written is read again, whatever follows, and what is read was written so
pub record IsSpelling {X : Type 0} (InRange : X → Type 0) (spelled : X → List ℕ) (read : Reading X) : Type 0 where
  pub again : (place : ℕ) (x : X) (bytes : List ℕ) → InRange x → read (record { place = place; bytes = spelled x ++ bytes }) ≡ Ok (x, behind place (spelled x) bytes)
  pub only : (place : ℕ) (bytes : List ℕ) (x : X) (rest : Rest) → AreBytes bytes → read (record { place = place; bytes = bytes }) ≡ Ok (x, rest) → Was InRange spelled place bytes x rest
