-- What a disk keeps of a log: what it stands for now, and what a start finds after a crash.
use Rattle.std.specs.Prelude.{◌≡◌, ◌⊎◌, ℕ, ◌+◌, ◌<◌, ◌^◌, not, List, [], ◌∷◌, ◌++◌, length, Option, Ok}
use Rattle.std.specs.Option.{ForSome}
use Rattle.adr_wire.specs.Reading.{Reading}
use Rattle.adr_disk.specs.Disk.{Only}
use Rattle.adr_model.specs.Lengths.{Log}
use Rattle.adr_law_journal.specs.Log.{Following}
use Rattle.adr_law_journal.specs.Areas.{Began, found, Started, start_of, slot_place, IsHead, IsReady, IsAtRest, IsFree, TellsArea, other_log}

-- how logs are read: their head, the area behind a head, and records by the area's version; and one head
pub record Layout (H S : Type 0) : Type 0 where
  pub head : Reading H
  pub area : H → Reading (Began S)
  pub following : ℕ → Following S
  pub front : List ℕ
  pub told : H
  pub is_head : IsHead head front told

abbrev pub starts : {H S : Type 0} → Layout H S → List ℕ → Started S
starts l bytes = start_of l.head l.area l.following bytes

abbrev pub Rests : {H S : Type 0} → Layout H S → S → Log → List ℕ → Type 0
Rests l s log bytes = IsAtRest (l.area l.told) l.following l.front s log bytes

abbrev pub Ready : {H S : Type 0} → Layout H S → S → Log → List ℕ → Type 0
Ready l s log bytes = IsReady (l.area l.told) l.following l.front s log bytes

-- what a start finds in what is left
abbrev pub Finds : {H S : Type 0} → Reading H → (H → Reading (Began S)) → (ℕ → Following S) → (List ℕ → Type 0) → Started S → Type 0
Finds head area following left f = (bytes : List ℕ) × left bytes × (start_of head area following bytes ≡ f)

-- this state, wherever its log stands
abbrev pub FindsState : {S : Type 0} → S → Started S → Type 0
FindsState s f = (log : Log) × (f ≡ Ok (found s log))

-- the one state or the other
abbrev pub FindsEither : {S : Type 0} → S → S → Started S → Type 0
FindsEither before after f = FindsState before f ⊎ FindsState after f

-- the state is found with either log
abbrev pub IsOneOf : {S : Type 0} → S → Log → Log → Started S → Type 0
IsOneOf s log other f = (f ≡ Ok (found s log)) ⊎ (f ≡ Ok (found s other))

-- the log stands on the disk, and all of it is synced, where the disk tells its bytes
pub record IsSettled {D H S : Type 0} (l : Layout H S) (content : D → Option (List ℕ)) (may_leave : D → List ℕ → Type 0) (disk : D) (s : S) (log : Log) : Type 0 where
  pub at_rest : ForSome (content disk) (λ there. Rests l s log there)
  pub synced : ForSome (content disk) (λ there. Only there (may_leave disk))

-- and another area of the same state, which isn't selected
pub record IsBeside {D H S : Type 0} (l : Layout H S) (content : D → Option (List ℕ)) (may_leave : D → List ℕ → Type 0) (disk : D) (s : S) (log other : Log) : Type 0 where
  pub at_rest : ForSome (content disk) (λ there. Rests l s log there)
  pub ready : ForSome (content disk) (λ there. Ready l s other there)
  pub synced : ForSome (content disk) (λ there. Only there (may_leave disk))

-- a settled log takes these bytes as a new area of its state
pub record Stages {D H S : Type 0} (l : Layout H S) (content : D → Option (List ℕ)) (may_leave : D → List ℕ → Type 0) (disk : D) (place : ℕ) (written : List ℕ) (slot : ℕ) (s : S) (log other : Log) : Type 0 where
  pub settled : IsSettled l content may_leave disk s log
  pub version : ℕ
  pub image : List ℕ
  pub is : written ≡ image ++ 0 ∷ []
  pub tells : TellsArea (l.area l.told) place image version s
  pub free : IsFree log place (length image + 1)
  pub slot_is : slot ≡ slot_place (not log.second)
  pub becomes : other ≡ other_log log place version (length image)
  pub fits : place < 2 ^ 64
