-- What is held of a log and isn't written yet, and what is there once it is.
use Rattle.std.specs.Prelude.{ℕ, ◌+◌, nat_lt, if◌then◌else◌, List, [], ◌∷◌, ◌++◌, length, take, Option}
use Rattle.std.specs.Option.{option_map}
use Rattle.adr_disk.specs.Disk.{put}
use Rattle.adr_law_journal.specs.Log.{open_gate}

-- these bytes written behind a gate, and the gate opened
abbrev pub opened : List ℕ → ℕ → List ℕ → List ℕ
opened there gate written = put (put there (gate + 1) written) gate (open_gate ∷ [])

-- the bytes of a disk once what is held behind this gate is written; nothing is written where nothing is held, or where there is no such gate
abbrev pub with_held : ℕ → List ℕ → List ℕ → List ℕ
with_held gate [] there = there
with_held gate (b ∷ held) there = if nat_lt gate (length there) then opened there gate (b ∷ held) else there

-- the same where the disk tells its bytes
abbrev pub once_written : Option (List ℕ) → ℕ → List ℕ → Option (List ℕ)
once_written real gate held = option_map (with_held gate held) real

-- what is held with one more record behind it: the gate that was the last one is open
abbrev pub joined : List ℕ → List ℕ → List ℕ
joined [] record_bytes = record_bytes
joined (b ∷ held) record_bytes = take (length held) (b ∷ held) ++ open_gate ∷ record_bytes
