-- What is told of a network: what comes in its connections, and what was sent in them.
use Rattle.std.specs.Prelude.{◌≡◌, ◌⊎◌, ℕ, ◌<◌, ◌≤◌, List, [], ◌∷◌, ◌++◌, Bool, true, false, take, drop, length, Option, Some, if◌then◌else◌}

pub record Traffic : Type 0 where
  pub waiting : List (List ℕ)  -- what comes in each connection that isn't opened yet, in order
  pub is_open : Bool  -- whether one is open
  pub left : List ℕ  -- what comes in it and was not received yet
  pub sent : List ℕ  -- what was sent in it
  pub done : List (List ℕ)  -- what was sent in each one that was hung up, in order

-- no connection is open
abbrev pub closed : List (List ℕ) → List (List ℕ) → Traffic
closed waiting done = record { waiting = waiting; is_open = false; left = []; sent = []; done = done }

-- one is open, of which this is left, and in which this was sent
abbrev pub open_line : List (List ℕ) → List (List ℕ) → List ℕ → List ℕ → Traffic
open_line waiting done left sent = record { waiting = waiting; is_open = true; left = left; sent = sent; done = done }

-- the open connection, if there is one, is hung up
abbrev pub hung_up : Traffic → Traffic
hung_up t = if t.is_open then closed t.waiting (t.done ++ t.sent ∷ []) else t

-- the next connection is opened
abbrev pub Opens : Traffic → Option Traffic → Type 0
Opens before after =
    (bytes : List ℕ) × (rest : List (List ℕ)) × (before.waiting ≡ bytes ∷ rest)
    × (after ≡ Some (open_line rest (hung_up before).done bytes []))

-- of what comes in the open connection n bytes were read into the front of a buffer
pub record Receives (before : Traffic) (after : Option Traffic) (buffer : List ℕ) (n : ℕ) : Type 0 where
  pub connected : before.is_open ≡ true
  pub enough : n ≤ length before.left
  pub read : take n buffer ≡ take n before.left
  pub left : after ≡ Some (record before { left = drop n before.left })

-- these bytes were sent in the open connection
abbrev pub Sends : Traffic → Option Traffic → List ℕ → Type 0
Sends before after bytes = (before.is_open ≡ true) × (after ≡ Some (record before { sent = before.sent ++ bytes }))

-- so many bytes are fewer than all of these, or none
abbrev pub IsShort : ℕ → List ℕ → Type 0
IsShort n bytes = (n ≡ 0) ⊎ (n < length bytes)

-- a front of them was sent, and not all
abbrev pub SendsFront : Traffic → Option Traffic → List ℕ → Type 0
SendsFront before after bytes = (n : ℕ) × IsShort n bytes × (after ≡ Some (record before { sent = before.sent ++ take n bytes }))
