-- What a log in memory stands for, and what it is ready to take.
use Rattle.std.specs.Prelude.{◌≡◌, ℕ, ◌+◌, ◌≤◌, true, List, length, Option, Some}
use Rattle.adr_wire.specs.Reading.{Reading}
use Rattle.adr_model.specs.Store.{State}
use Rattle.adr_model.specs.Change.{Change}
use Rattle.adr_model.specs.Lengths.{Log, next_log, change_fits}
use Rattle.adr_law_journal.specs.Log.{Following, record_of}
use Rattle.adr_law_journal.specs.Areas.{Began, Found}
use Rattle.adr_journal.specs.Kept.{Ids, IsAt, IsAreaFor}

-- bytes in memory are told as they are, and a crash leaves them
abbrev pub told_as : List ℕ → Option (List ℕ)
told_as bytes = Some bytes

abbrev pub StaysAs : List ℕ → List ℕ → Type 0
StaysAs bytes left = left ≡ bytes

-- a log in memory that stands for this
abbrev pub IsAtBytes : (head : Reading Ids) → (Ids → Reading (Began State)) → (ℕ → Following State) → List ℕ → Log → Found State → Type 0
IsAtBytes head area following bytes log f = IsAt head area following told_as StaysAs bytes log f

-- the next record is one of this body, behind a new area where one is due, and there is room for both
pub record IsNext (capacity : ℕ) (bytes : List ℕ) (log next : Log) (area written image body : List ℕ) (s : State) (c : Change) : Type 0 where
  pub is : written ≡ record_of body
  pub before : IsAreaFor log c image area
  pub leads : next ≡ next_log log s.store c
  pub fits : change_fits log s.store c ≡ true
  pub room : length bytes + length area + length written ≤ capacity
