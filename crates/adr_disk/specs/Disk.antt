-- What the calls of a disk do to its bytes, and what a crash at some moment may leave of them.
use Rattle.std.specs.Prelude.{◌≡◌, ◌⊎◌, ℕ, ◌+◌, ◌≤◌, ◌<◌, max, List, ◌++◌, length, take, drop, Option, Some, None, Result, Ok, Err, OnOk, IsErrOf}
use Rattle.std.specs.Io.{StartsWith}
use Rattle.adr_io.specs.declared.Fault.{Fault}
use Rattle.adr_io.specs.declared.Fault.TheVariants.{Failed, NoMemory}

-- these bytes written at this place, over what is there and past the end
abbrev pub put : List ℕ → ℕ → List ℕ → List ℕ
put old at bytes = take at old ++ bytes ++ drop (at + length bytes) old

-- After a write of n bytes that a crash cuts short: any bytes in the range and past the old end, any length between
-- the old one and the new, and the same bytes elsewhere.
pub record Torn (at n : ℕ) (old new : List ℕ) : Type 0 where
  pub before : StartsWith new (take at old)
  pub after : drop (at + n) new ≡ drop (at + n) old
  pub no_shorter : length old ≤ length new
  pub no_longer : length new ≤ max (length old) (at + n)

-- what was left before, after a step
abbrev pub After : (List ℕ → List ℕ → Type 0) → (List ℕ → Type 0) → List ℕ → Type 0
After step left bytes = (old : List ℕ) × left old × step old bytes

-- each of the new outcomes of a crash is one of these
abbrev pub Among : {O : Type 0} → (O → Type 0) → (O → Type 0) → Type 0
Among {O} outcomes new = (left : O) → new left → outcomes left

-- a crash leaves these bytes and no others
abbrev pub Only : List ℕ → (List ℕ → Type 0) → Type 0
Only bytes = Among (λ left. left ≡ bytes)

-- Time goes on. What a crash might have left since an earlier moment is what it might have left before, or one of
-- the outcomes of the call.
pub record Elapses (before now : ℕ) (past since : ℕ → List ℕ → Type 0) (outcomes : List ℕ → Type 0) : Type 0 where
  pub later : before ≤ now
  pub nothing_else : (t : ℕ) (bytes : List ℕ) → t ≤ before → since t bytes → past t bytes ⊎ outcomes bytes
  pub keeps : (t : ℕ) (bytes : List ℕ) → t ≤ before → past t bytes → since t bytes

-- The count of faults rises where a call failed, and nowhere else.
pub record Counts {T : Type 0} (before now : ℕ) (result : Result T Fault) : Type 0 where
  pub never_falls : before ≤ now
  pub failed : IsErrOf result Failed → before < now
  pub passed : OnOk result (now ≡ before)
  pub no_memory : IsErrOf result NoMemory → now ≡ before

-- a call of a disk: one that writes these bytes at a place, a sync, or one that only looks
pub data Call : Type 0 where
  Writes : (at : ℕ) (bytes : List ℕ) → Call
  Syncs : Call
  Looks : Call

-- how a call ended: with no fault, or with this one
abbrev pub ended : {T : Type 0} → Result T Fault → Option Fault
ended (Ok _) = None
ended (Err fault) = Some fault

-- what a write with the sync behind it did: both passed, or one of them ended so
abbrev pub Through : {D : Type 0} → (D → Call → Option Fault → D → Type 0) → ℕ → List ℕ → D → Option Fault → D → Type 0
Through {D} gives at bytes old None new = (mid : D) × gives old (Writes at bytes) None mid × gives mid Syncs None new
Through {D} gives at bytes old (Some fault) new =
    gives old (Writes at bytes) (Some fault) new ⊎ ((mid : D) × gives old (Writes at bytes) None mid × gives mid Syncs (Some fault) new)

-- what a crash may leave of two writes
abbrev pub TornTwice : ℕ → ℕ → ℕ → ℕ → List ℕ → List ℕ → Type 0
TornTwice at n later m old new = (mid : List ℕ) × Torn at n old mid × Torn later m mid new

-- what two writes and the sync behind both did: all passed, or one of them ended so
abbrev pub Twice : {D : Type 0} → (D → Call → Option Fault → D → Type 0) → ℕ → List ℕ → ℕ → List ℕ → D → Option Fault → D → Type 0
Twice {D} gives at bytes later more old None new =
    (a : D) × (b : D) × gives old (Writes at bytes) None a × gives a (Writes later more) None b × gives b Syncs None new
Twice {D} gives at bytes later more old (Some fault) new =
    gives old (Writes at bytes) (Some fault) new
    ⊎ ((a : D) × gives old (Writes at bytes) None a
    × (gives a (Writes later more) (Some fault) new ⊎ ((b : D) × gives a (Writes later more) None b × gives b Syncs (Some fault) new)))

-- memory is sure to suffice for so many calls and bytes
abbrev pub IsSpare : ℕ → ℕ → ℕ → ℕ → Type 0
IsSpare calls bytes spare_calls spare_bytes = (calls ≤ spare_calls) × (bytes ≤ spare_bytes)

-- Nothing has changed of what is there, and of what a crash may leave or might have left.
pub record Keeps {D C O : Type 0} (content : D → Option C) (may_leave : D → O → Type 0) (moment : D → ℕ) (left_since : D → ℕ → O → Type 0) (old new : D) : Type 0 where
  pub content_stays : content new ≡ content old
  pub no_more : Among (may_leave old) (may_leave new)
  pub no_fewer : Among (may_leave new) (may_leave old)
  pub moment_stays : moment new ≡ moment old
  pub past_stays : (t : ℕ) → Among (left_since old t) (left_since new t)
  pub past_kept : (t : ℕ) → Among (left_since new t) (left_since old t)

-- A crash at any moment from old to new leaves what has P.
pub record LeavesOnly {D O : Type 0} (moment : D → ℕ) (left_since : D → ℕ → O → Type 0) (old new : D) (P : O → Type 0) : Type 0 where
  pub later : moment old ≤ moment new
  pub each : (left : O) → left_since new (moment old) left → P left
  -- for a run that began earlier
  pub before : (t : ℕ) (left : O) → t ≤ moment old → left_since new t left → left_since old t left ⊎ P left
