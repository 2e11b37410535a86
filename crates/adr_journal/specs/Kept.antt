-- What a journal stands for, and what it is ready to write.
use Rattle.std.specs.Prelude.{◌≡◌, ◌⊎◌, ℕ, ◌+◌, ◌*◌, ◌≤◌, ◌<◌, ◌^◌, List, [], ◌∷◌, ◌++◌, length, true, false, Option, Ok, IfSome}
use Rattle.std.specs.Option.{ForSome}
use Rattle.adr_disk.specs.Disk.{Among, Only, IsSpare}
use Rattle.adr_wire.specs.Reading.{Reading}
use Rattle.adr_model.specs.Store.{State}
use Rattle.adr_model.specs.Change.{Change}
use Rattle.adr_model.specs.Lengths.{Log, area_version, first_area, is_due, next_log, change_fits}
use Rattle.adr_law_journal.specs.Log.{Following, record_of}
use Rattle.adr_law_journal.specs.Areas.{Began, Found, start_of, IsHead}
use Rattle.adr_law_journal.specs.Kept.{Layout, IsSettled}
use Rattle.adr_law_journal.specs.Bound.{IsBounded}

-- the two identifiers that a log's head names
abbrev pub Ids : Type 0
Ids = List ℕ × List ℕ

abbrev pub ids_of : State → Ids
ids_of s = (s.dsa, s.inv)

-- it has no log: its disk, where it tells its bytes, has none, and a crash leaves none
pub record IsEmpty {D : Type 0} (content : D → Option (List ℕ)) (may_leave : D → List ℕ → Type 0) (disk : D) : Type 0 where
  pub empty : ForSome (content disk) (λ there. there ≡ [])
  pub synced : ForSome (content disk) (λ there. Only there (may_leave disk))

-- logs of this form with this head
abbrev pub layout_of : (head : Reading Ids) → (Ids → Reading (Began State)) → (ℕ → Following State) → (front : List ℕ) → (told : Ids) → IsHead head front told → Layout Ids State
layout_of head area following front told is_head =
    record { head = head; area = area; following = following; front = front; told = told; is_head = is_head }

-- a settled log that stands for this, under a head of the state's identifiers, and all of whose places are low
pub record IsAt {D : Type 0} (head : Reading Ids) (area : Ids → Reading (Began State)) (following : ℕ → Following State) (content : D → Option (List ℕ)) (may_leave : D → List ℕ → Type 0) (disk : D) (log : Log) (f : Found State) : Type 0 where
  pub is_log : f.log ≡ log
  pub version : log.version ≤ area_version
  pub front : List ℕ
  pub is_head : IsHead head front (ids_of f.state)
  pub settled : IsSettled (layout_of head area following front (ids_of f.state) is_head) content may_leave disk f.state f.log
  pub place : first_area ≤ log.place
  pub first : log.first < 2 ^ 63
  pub begun : log.place < log.log_end
  pub ends : log.log_end < 2 ^ 63

-- these bytes are a new area of this image, where one is due before a change, and else none
abbrev pub IsAreaFor : Log → Change → List ℕ → List ℕ → Type 0
IsAreaFor log c image area = ((is_due log c ≡ false) × (area ≡ [])) ⊎ ((is_due log c ≡ true) × (area ≡ image ++ 0 ∷ []))

-- memory suffices for a record, and for the area before it where there is one
abbrev pub IsRoom : List ℕ → List ℕ → ℕ → ℕ → Type 0
IsRoom area written calls bytes = ((area ≡ []) × IsSpare 4 (length written + 1) calls bytes) ⊎ IsSpare 9 (length area + 9 + length written + 1) calls bytes

-- a record of this body is spelled, and the area that comes before it where one is due; there is room for both
pub record IsPrepared {D : Type 0} (spare_calls spare_bytes : D → ℕ) (disk : D) (log next : Log) (area written : List ℕ) (image body : List ℕ) (s : State) (c : Change) : Type 0 where
  pub is : written ≡ record_of body
  pub before : IsAreaFor log c image area
  pub leads : next ≡ next_log log s.store c
  pub fits : change_fits log s.store c ≡ true
  pub spare : IsRoom area written (spare_calls disk) (spare_bytes disk)

-- how long the disk has become, where that is told: what a crash may leave of it, and each log that a start finds there
abbrev pub IsWithin : {D : Type 0} → Reading Ids → (Ids → Reading (Began State)) → (ℕ → Following State) → (D → Option (List ℕ)) → (D → List ℕ → Type 0) → D → ℕ → ℕ → ℕ → Type 0
IsWithin head area following content may_leave disk file image longest =
    IfSome (content disk) (λ _. Among (λ bytes. (length bytes ≤ file + 5 * image + 2 * longest + 131200)
    × ((f : Found State) → start_of head area following bytes ≡ Ok f → IsBounded file image longest f.log)) (may_leave disk))
