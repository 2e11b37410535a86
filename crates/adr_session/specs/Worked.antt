-- A session, worked out: a greeting is answered by who is there, and a frame of no kind of a client ends the connection.
use Rattle.std.specs.Prelude.{◌≡◌, ℕ, List, [], ◌∷◌}
use Rattle.adr_model.specs.Store.{State}
use Rattle.adr_law_journal.specs.Areas.{Found}
use Rattle.adr_frames.specs.Frames.{frame}
use Rattle.adr_session.specs.Talk.{Point, Hung, Malformed, talk}

-- nothing was said yet
abbrev pub at_first : Found State → List ℕ → Point
at_first f left = record { stands = f; moments = []; left = left; sent = [] }

-- the greeting was answered
abbrev pub behind_greeting : Found State → Point
behind_greeting f = record { stands = f; moments = []; left = []; sent = frame (7 ∷ f.state.dsa) }

-- a frame of kind 6, and one of kind 9
abbrev pub greeting : List ℕ
greeting = 0 ∷ 0 ∷ 0 ∷ 1 ∷ 6 ∷ []

abbrev pub stranger : List ℕ
stranger = 0 ∷ 0 ∷ 0 ∷ 1 ∷ 9 ∷ []

-- one message is answered before the peer's end, and none before a malformed one
pub record IsWorked (f : Found State) : Type 0 where
  pub greets : talk 2 (at_first f greeting) ≡ (behind_greeting f, 1, Hung)
  pub estranged : talk 2 (at_first f stranger) ≡ (at_first f stranger, 0, Malformed)
