-- What the records of a log lead to, each behind a gate of its own.
use Rattle.std.specs.Prelude.{ℕ, zero, suc, ◌+◌, List, [], ◌∷◌, ◌++◌, length, ◌==◌, Option, Some, None, Result, Ok, Err, if◌then◌else◌}
use Rattle.adr_wire.specs.Reading.{Read, Reading, then_at, bytes_at}
use Rattle.adr_wire.specs.Fields.{u32_at, u32}

-- what records lead to: a state, and where the log ends, behind its closed gate
pub record Led (S : Type 0) : Type 0 where
  pub state : S
  pub log_end : ℕ

-- or the place of the damage
abbrev pub Followed : Type 0 → Type 0
Followed S = Result (Led S) ℕ

-- an open gate; every other byte is a closed one
abbrev pub open_gate : ℕ
open_gate = 0xC3

-- the state after a record of this body, if there may be one
abbrev pub Following : Type 0 → Type 0
Following S = S → List ℕ → Option S

-- a body behind its length
abbrev pub body_at : Reading (ℕ × List ℕ)
body_at = then_at u32_at bytes_at

abbrev pub with_length : List ℕ → List ℕ
with_length body = u32 (length body) ++ body

-- what a commit writes first: the body with its length, and the next gate, which is closed
abbrev pub record_of : List ℕ → List ℕ
record_of body = with_length body ++ 0 ∷ []

abbrev pub or_damaged : {S : Type 0} → ℕ → Option S → (S → Followed S) → Followed S
or_damaged place None go = Err place
or_damaged place (Some s) go = go s

abbrev pub behind_gate : {S : Type 0} → Following S → S → ℕ → Read (ℕ × List ℕ) → (S → ℕ → List ℕ → Followed S) → Followed S
behind_gate following s place (Err fault) go = Err place
behind_gate following s place (Ok b) go = or_damaged place (following s b.0.1) (λ t. go t b.1.place b.1.bytes)

-- from a gate on, past so many gates at most: what stands behind the last open record, or the place of the damage
abbrev pub found_from : {S : Type 0} → Following S → ℕ → S → ℕ → List ℕ → Followed S
found_from following zero s place bytes = Err place
found_from following (suc n) s place [] = Err place
found_from following (suc n) s place (gate ∷ rest) =
    if gate == open_gate
    then behind_gate following s place (body_at (record { place = place + 1; bytes = rest })) (λ t behind bytes. found_from following n t behind bytes)
    else Ok (record { state = s; log_end = place + 1 })

-- what stands behind the first gate of a log, where it is open
abbrev pub behind_first : {X : Type 0} → List ℕ → (List ℕ → Result X ℕ) → Result X ℕ
behind_first [] go = Err 0
behind_first (gate ∷ []) go = Err 0
behind_first (gate ∷ (b ∷ rest)) go = if gate == open_gate then go (b ∷ rest) else Err 0
