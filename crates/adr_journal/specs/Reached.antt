-- How far a start has read the bytes of a log.
use Rattle.std.specs.Prelude.{◌≡◌, ◌≤◌, ℕ, ◌+◌, Bool, List, length}
use Rattle.adr_wire.specs.Reading.{Reading}
use Rattle.adr_model.specs.Store.{State}
use Rattle.adr_model.specs.Lengths.{Log}
use Rattle.adr_law_journal.specs.Log.{Following}
use Rattle.adr_law_journal.specs.Areas.{Began, Reaches, window, IsHead, IsAtRest}
use Rattle.adr_law_journal.specs.Begun.{HasFront, IsNamed}

-- behind the first gate stands a head of these identifiers
pub record IsOwned (head : Reading (List ℕ × List ℕ)) (o : List ℕ × List ℕ) (bytes : List ℕ) : Type 0 where
  pub front : List ℕ
  pub is_head : IsHead head front o
  pub has_front : HasFront front bytes

-- a head, the selected area and so many of its records are read, up to where a gate is due, and lead to this state of the head's identifiers
pub record IsReached (head : Reading (List ℕ × List ℕ)) (area : List ℕ × List ℕ → Reading (Began State)) (following : ℕ → Following State) (second : Bool) (place version first gate : ℕ) (bytes : List ℕ) (s : State) : Type 0 where
  pub owned : IsOwned head (s.dsa, s.inv) bytes
  pub named : IsNamed second place bytes
  pub past : ℕ
  pub gate_is : place + past ≡ gate
  pub behind : first ≤ gate
  pub within : gate ≤ length bytes
  pub reaches : Reaches (area (s.dsa, s.inv)) following place version first (window place past bytes) s

-- a log of this state is at rest, under a head of its identifiers
pub record IsLog (head : Reading (List ℕ × List ℕ)) (area : List ℕ × List ℕ → Reading (Began State)) (following : ℕ → Following State) (bytes : List ℕ) (s : State) (log : Log) : Type 0 where
  pub front : List ℕ
  pub is_head : IsHead head front (s.dsa, s.inv)
  pub rests : IsAtRest (area (s.dsa, s.inv)) following front s log bytes
