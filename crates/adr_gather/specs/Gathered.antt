-- What a keeper stands for that holds records of its log in memory: what is read once they are written.
use Rattle.std.specs.Prelude.{◌≡◌, ◌⊎◌, ℕ, ◌+◌, ◌≤◌, true, List, [], length, Option, Ok, IsSome}
use Rattle.adr_disk.specs.Disk.{IsSpare}
use Rattle.adr_wire.specs.Reading.{Reading}
use Rattle.adr_model.specs.Store.{State}
use Rattle.adr_model.specs.Change.{Change}
use Rattle.adr_model.specs.Lengths.{Log, next_log, change_fits}
use Rattle.adr_law_journal.specs.Log.{Following, record_of}
use Rattle.adr_law_journal.specs.Areas.{Began, Found, Started}
use Rattle.adr_law_journal.specs.Kept.{Layout, IsSettled}
use Rattle.adr_journal.specs.Kept.{Ids, ids_of, layout_of, IsAt, IsAreaFor}
use Rattle.adr_gather.specs.Held.{with_held, once_written}

-- a disk, and the bytes that are held of its log behind a closed gate
pub record Gathered (D : Type 0) : Type 0 where
  pub disk : D
  pub gate : ℕ
  pub held : List ℕ

abbrev pub gathered : {D : Type 0} → D → ℕ → List ℕ → Gathered D
gathered disk gate held = record { disk = disk; gate = gate; held = held }

-- the bytes that a read gives once what is held is written
abbrev pub content_of : {D : Type 0} → (D → Option (List ℕ)) → Gathered D → Option (List ℕ)
content_of content g = once_written (content g.disk) g.gate g.held

-- the byte lists that there may be once what is held is written over what a crash leaves, where the disk tells its bytes
abbrev pub images_of : {D : Type 0} → (D → Option (List ℕ)) → (D → List ℕ → Type 0) → Gathered D → List ℕ → Type 0
images_of content may_leave g bytes = IsSome (content g.disk) → (left : List ℕ) × may_leave g.disk left × (with_held g.gate g.held left ≡ bytes)

-- a log of this state is at rest once what is held is written; until then a log of which all is synced ends behind the gate
pub record Holds {D H : Type 0} (l : Layout H State) (content : D → Option (List ℕ)) (may_leave : D → List ℕ → Type 0) (g : Gathered D) (s : State) (log : Log) : Type 0 where
  pub whole : IsSettled l (content_of content) (images_of content may_leave) g s log
  pub ends : g.gate + 1 + length g.held ≡ log.log_end
  pub base : Found State
  pub settled : IsSettled l content may_leave g.disk base.state base.log
  pub base_ends : g.gate + 1 ≡ base.log.log_end

-- once what is held is written, it stands for this, and until then for an earlier state
pub record IsGathered {D : Type 0} (head : Reading Ids) (area : Ids → Reading (Began State)) (following : ℕ → Following State) (content : D → Option (List ℕ)) (may_leave : D → List ℕ → Type 0) (g : Gathered D) (log : Log) (f : Found State) : Type 0 where
  pub at : IsAt head area following (content_of content) (images_of content may_leave) g log f
  pub holds : Holds (layout_of head area following at.front (ids_of f.state) at.is_head) content may_leave g f.state f.log

-- a record of this body is spelled, and the area that comes before it where one is due; there is room in memory for the record, and for all that an area writes
pub record IsNext {D : Type 0} (spare_calls spare_bytes : D → ℕ) (disk : D) (capacity : ℕ) (held : List ℕ) (log next : Log) (area written image body : List ℕ) (s : State) (c : Change) : Type 0 where
  pub is : written ≡ record_of body
  pub before : IsAreaFor log c image area
  pub leads : next ≡ next_log log s.store c
  pub fits : change_fits log s.store c ≡ true
  pub room : length held + length written ≤ capacity
  pub spare : (area ≡ []) ⊎ IsSpare 9 (length held + length area + 10) (spare_calls disk) (spare_bytes disk)

-- what is found is what was found before, or this
abbrev pub IsBeforeOr : (List ℕ → Started State) → Found State → List ℕ → List ℕ → Type 0
IsBeforeOr starts f there bytes = (starts bytes ≡ starts there) ⊎ (starts bytes ≡ Ok f)
