-- A record that isn't open yet.
use Rattle.std.specs.Prelude.{◌≡◌, ℕ, ◌+◌, false, List, [], ◌∷◌, ◌++◌, length}
use Rattle.adr_wire.specs.Fields.{u64}
use Rattle.adr_wire.specs.Reading.{Reading}
use Rattle.adr_model.specs.Lengths.{Log, first_area}
use Rattle.adr_law_journal.specs.Log.{Following, record_of}
use Rattle.adr_law_journal.specs.Areas.{Began, window, IsAtRest}

-- a log at rest, and behind it a record with its closed gate
pub record IsStaged {S : Type 0} (area : Reading (Began S)) (following : ℕ → Following S) (front : List ℕ) (s : S) (log : Log) (body bytes : List ℕ) : Type 0 where
  pub rests : IsAtRest area following front s log bytes
  pub there : window log.log_end (length (record_of body)) bytes ≡ record_of body

abbrev pub log_behind : Log → List ℕ → Log
log_behind log body = record log { log_end = log.log_end + 5 + length body }

-- what a format writes behind the first gate: the head, a selector, both slots, the area and its closed gate
abbrev pub new_bytes : List ℕ → List ℕ → List ℕ
new_bytes front image = front ++ (0 ∷ (u64 first_area ++ (u64 first_area ++ (image ++ 0 ∷ []))))

abbrev pub first_log : ℕ → ℕ → Log
first_log version n = record { second = false; place = first_area; version = version; first = first_area + n; log_end = first_area + n + 1 }
