-- What the bytes of a log with areas stand for: a head behind an open gate, a selector with two slots, and the area that it selects.
use Rattle.std.specs.Prelude.{◌≡◌, ◌≢◌, ◌⊎◌, ◌≤◌, ℕ, ◌+◌, Bool, not, List, [], ◌∷◌, ◌++◌, length, take, drop, ◌==◌, nat_lt, Result, Ok, Err, if◌then◌else◌}
use Rattle.std.specs.Int.{w64, from_be_bytes}
use Rattle.adr_wire.specs.Reading.{Rest, Reading, ◌>>=◌, then_at}
use Rattle.adr_wire.specs.Spelling.{behind}
use Rattle.adr_wire.specs.Fields.{byte_of, u8_at, u64_at}
use Rattle.adr_law_journal.specs.Log.{Led, Following, open_gate, found_from, behind_first}
use Rattle.adr_model.specs.Lengths.{Log, first_area}

-- what a log stands for
pub record Found (S : Type 0) : Type 0 where
  pub state : S
  pub log : Log

abbrev pub found : {S : Type 0} → S → Log → Found S
found s log = record { state = s; log = log }

abbrev pub Started : Type 0 → Type 0
Started S = Result (Found S) ℕ

-- the selector that selects the second slot; every other one selects the first
abbrev pub selects_second : ℕ
selects_second = 0xC3

abbrev pub selector_place : ℕ
selector_place = 39

abbrev pub slot_place : Bool → ℕ
slot_place second = if second then 48 else 40

-- the selector and the two slots
abbrev pub slots_at : Reading (ℕ × (ℕ × ℕ))
slots_at = then_at u8_at (λ selector. then_at u64_at (λ zero. u64_at))

-- what an area begins with: its version, by which its records are read, and a state
pub record Began (S : Type 0) : Type 0 where
  pub version : ℕ
  pub state : S

abbrev pub with_log : {S : Type 0} → Bool → ℕ → ℕ → ℕ → Led S → Found S
with_log second place version first f = found f.state (record { second = second; place = place; version = version; first = first; log_end = f.log_end })

-- an area that stands here, with at most so many gates: its state and then each open record
abbrev pub found_in : {S : Type 0} → Reading (Began S) → (ℕ → Following S) → ℕ → Bool → Rest → Started S
found_in area following n second rest =
    area rest >>= λ a. found_from (following a.0.version) n a.0.state a.1.place a.1.bytes >>= λ f. Ok (with_log second rest.place a.0.version a.1.place f)

-- the area at a slot's place, where there may be one
abbrev pub selected : {S : Type 0} → Reading (Began S) → (ℕ → Following S) → Bool → ℕ → List ℕ → Started S
selected area following second place bytes =
    if nat_lt place first_area then Err (slot_place second)
    else if nat_lt place (length bytes) then found_in area following (length bytes) second (record { place = place; bytes = drop place bytes })
    else Err (slot_place second)

abbrev pub by_slots : {S : Type 0} → Reading (Began S) → (ℕ → Following S) → List ℕ → ℕ × (ℕ × ℕ) → Started S
by_slots area following bytes s =
    let second = s.0 == selects_second in
    selected area following second (if second then s.1.1 else s.1.0) bytes

-- what bytes stand for: the state of the area that their selector selects, and then each open record of it
abbrev pub start_of : {H S : Type 0} → Reading H → (H → Reading (Began S)) → (ℕ → Following S) → List ℕ → Started S
start_of head area following bytes =
    behind_first bytes (λ rest. head (record { place = 1; bytes = rest }) >>= λ h. slots_at h.1 >>= λ s. by_slots (area h.0) following bytes s.0)

-- ---- what stands where

-- a head in these 38 bytes, whatever follows
pub record IsHead {H : Type 0} (head : Reading H) (front : List ℕ) (h : H) : Type 0 where
  pub long : length front ≡ 38
  pub tells : (rest : List ℕ) → head (record { place = 1; bytes = front ++ rest }) ≡ Ok (h, behind 1 front rest)

-- these bytes at a place lead to a state behind an area's image and its open records, whatever follows
abbrev pub Reaches : {S : Type 0} → Reading (Began S) → (ℕ → Following S) → ℕ → ℕ → ℕ → List ℕ → S → Type 0
Reaches area following place version first opened s =
    (second : Bool) (behind : List ℕ) (n m : ℕ) → length opened + length behind ≤ n → length behind ≤ m
    → found_in area following n second (record { place = place; bytes = opened ++ behind })
    ≡ (found_from (following version) m s (place + length opened) behind >>= λ f. Ok (with_log second place version first f))

-- so many bytes from a place on
abbrev pub window : ℕ → ℕ → List ℕ → List ℕ
window place n bytes = take n (drop place bytes)

-- an area stands here, up to its closed gate
pub record IsArea {S : Type 0} (area : Reading (Began S)) (following : ℕ → Following S) (s : S) (place version first log_end : ℕ) (bytes : List ℕ) : Type 0 where
  pub opened : List ℕ
  pub gate : ℕ
  pub parts : window place (length opened + 1) bytes ≡ opened ++ gate ∷ []
  pub closed : gate ≢ open_gate
  pub long : place + length opened + 1 ≡ log_end
  pub reaches : Reaches area following place version first opened s

-- the place that a slot holds
abbrev pub slot_of : Bool → List ℕ → ℕ
slot_of second bytes = from_be_bytes w64 (window (slot_place second) 8 bytes)

-- whether the second slot is selected
abbrev pub is_second : List ℕ → Bool
is_second bytes = byte_of (window selector_place 1 bytes) == selects_second

-- a log's slot names its area, which stands there; the selector may be another's
pub record IsReady {S : Type 0} (area : Reading (Began S)) (following : ℕ → Following S) (front : List ℕ) (s : S) (log : Log) (bytes : List ℕ) : Type 0 where
  pub front_is : window 0 selector_place bytes ≡ open_gate ∷ front
  pub named : slot_of log.second bytes ≡ log.place
  pub low : first_area ≤ log.place
  pub stands : IsArea area following s log.place log.version log.first log.log_end bytes

-- and it is selected
pub record IsAtRest {S : Type 0} (area : Reading (Began S)) (following : ℕ → Following S) (front : List ℕ) (s : S) (log : Log) (bytes : List ℕ) : Type 0 where
  pub ready : IsReady area following front s log bytes
  pub selects : is_second bytes ≡ log.second

-- ---- a checkpoint

-- a new area of so many bytes may stand there: before the live one, or behind it
abbrev pub IsFree : Log → ℕ → ℕ → Type 0
IsFree log place n = (place ≡ log.log_end) ⊎ ((first_area ≤ place) × (place + n ≤ log.place))

-- the bytes of an area without records and without its closed gate
abbrev pub TellsArea : {S : Type 0} → Reading (Began S) → ℕ → List ℕ → ℕ → S → Type 0
TellsArea area place l version s = (rest : List ℕ) → area (record { place = place; bytes = l ++ rest }) ≡ Ok (record { version = version; state = s }, behind place l rest)

-- an area was read up to a rest: its bytes are one of that version and state, whatever follows
pub record WasArea {S : Type 0} (area : Reading (Began S)) (place : ℕ) (bytes : List ℕ) (began : Began S) (rest : Rest) : Type 0 where
  pub read : List ℕ
  pub parts : bytes ≡ read ++ rest.bytes
  pub moved : rest.place ≡ place + length read
  pub tells : TellsArea area place read began.version began.state

-- the log of a new area at a place, in the other slot
abbrev pub other_log : Log → ℕ → ℕ → ℕ → Log
other_log log place version n = record { second = not log.second; place = place; version = version; first = place + n; log_end = place + n + 1 }
