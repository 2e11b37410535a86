-- What a writer of tokens takes of the room behind some bytes.
use Rattle.std.specs.Prelude.{ℕ, List, length, Option, Some, None, ◌+◌, ◌<◌, ◌≤◌, Result, OnOk, OnErr, Vec, vec_len, vec_capacity}

-- at most so many bytes come to those before, and the room stays; it fails only where there is no room for so many
pub record TakesRoom {Z E : Type 0} (most : ℕ) (before : Vec ℕ Z) (result : Result (Unit {0}) E) (after : Vec ℕ Z) : Type 0 where
  pub stays : vec_capacity before ≤ vec_capacity after
  pub within : OnOk result (vec_len after ≤ vec_len before + most)
  pub full : OnErr result (vec_capacity before < vec_len before + most)

-- the most that the name of a number takes, or else the number: a `%` and its figures
abbrev pub name_room : Option (List ℕ) → ℕ
name_room (Some name) = length name
name_room None = 21
