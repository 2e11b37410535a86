-- What is written to a disk, and what it means to a log.
use Rattle.std.specs.Prelude.{◌≡◌, ◌⊎◌, ℕ, ◌≤◌, ◌<◌, ◌^◌, max, List, [], Option, Some, Ok, Err, IfSome, length}
use Rattle.adr_disk.specs.Disk.{Among}
use Rattle.adr_model.specs.Store.{State}
use Rattle.adr_model.specs.Lengths.{Log}
use Rattle.adr_law_journal.specs.Log.{record_of}
use Rattle.adr_law_journal.specs.Areas.{found, slot_place, Started}
use Rattle.adr_law_journal.specs.Kept.{Layout, IsSettled, IsOneOf, Stages}

-- a settled log that ends here takes these bytes as a record of this body, which makes one state of another
pub record Takes {D H : Type 0} (l : Layout H State) (content : D → Option (List ℕ)) (may_leave : D → List ℕ → Type 0) (disk : D) (end : ℕ) (written : List ℕ) (s t : State) (log : Log) (body : List ℕ) : Type 0 where
  pub settled : IsSettled l content may_leave disk s log
  pub ends : log.log_end ≡ end
  pub follows : l.following log.version s body ≡ Some t
  pub is : written ≡ record_of body
  pub fits : length body < 2 ^ 32

-- no area is written, or these bytes are a new one of the state, and this is its log
abbrev pub IsBefore : {D H : Type 0} → Layout H State → (D → Option (List ℕ)) → (D → List ℕ → Type 0) → D → List ℕ → Log → State → Log → Log → Type 0
IsBefore l content may_leave disk area next s log mid =
    ((area ≡ []) × (mid ≡ log))
    ⊎ ((area ≡ [] → ⊥) × Stages l content may_leave disk next.place area (slot_place next.second) s log mid × (next.second ≡ mid.second))

-- a settled log takes these bytes as an area, if there are any, and then as a record that ends where this log does
pub record TakesBoth {D H : Type 0} (l : Layout H State) (content : D → Option (List ℕ)) (may_leave : D → List ℕ → Type 0) (disk : D) (area : List ℕ) (next : Log) (end : ℕ) (written : List ℕ) (s t : State) (log mid : Log) (body : List ℕ) : Type 0 where
  pub settled : IsSettled l content may_leave disk s log
  pub before : IsBefore l content may_leave disk area next s log mid
  pub ends : mid.log_end ≡ end
  pub follows : l.following mid.version s body ≡ Some t
  pub is : written ≡ record_of body
  pub fits : length body < 2 ^ 32

-- one state with its log or the other with its
abbrev pub IsEitherLog : State → Log → State → Log → Started State → Type 0
IsEitherLog s log t next f = (f ≡ Ok (found s log)) ⊎ (f ≡ Ok (found t next))

-- the state before a commit with either log, or the state after with its
abbrev pub IsOneOfThree : State → Log → Log → State → Log → Started State → Type 0
IsOneOfThree s log mid t next f = IsOneOf s log mid f ⊎ (f ≡ Ok (found t next))

-- no crash leaves more bytes than were there, or than up to this place
abbrev pub AreNoLonger : Option (List ℕ) → (List ℕ → Type 0) → ℕ → Type 0
AreNoLonger content left end = IfSome content (λ there. Among (λ bytes. length bytes ≤ max (length there) end) left)

-- no log, damaged at its first byte, or the new one
abbrev pub IsNone : State → Log → Started State → Type 0
IsNone s log t = (t ≡ Err 0) ⊎ (t ≡ Ok (found s log))
