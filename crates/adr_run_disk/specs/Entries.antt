-- The writes whose bytes are in a log, with what they wrote over, and the bytes with these writes undone.
use Rattle.std.specs.Prelude.{ℕ, ◌+◌, ◌≤◌, ◌<◌, ◌^◌, List, [], ◌∷◌, take, drop, map}
use Rattle.adr_disk.specs.Disk.{put}
use Rattle.adr_disk.specs.Memory.{Write, Surface}
use Rattle.adr_run_disk.specs.declared.platter.Entry.{Entry}

abbrev pub write_of : List ℕ → Entry → Write
write_of log e = record { at = e.at; bytes = take e.len (drop e.from log) }

-- what a write wrote over
abbrev pub covered_by : List ℕ → Entry → List ℕ
covered_by covered e = take e.covered_len (drop e.covered_from covered)

-- These bytes with a write undone: what it added past the end is cut off, and what it wrote over is back.
abbrev pub without : List ℕ → Entry → List ℕ → List ℕ
without covered e bytes = put (take e.before bytes) e.at (covered_by covered e)

-- with these writes undone, the last one first
abbrev pub without_all : List ℕ → List Entry → List ℕ → List ℕ
without_all covered [] bytes = bytes
without_all covered (e ∷ es) bytes = without covered e (without_all covered es bytes)

-- what was synced, which is these bytes with the writes undone, and these writes since
abbrev pub surface_at : List ℕ → List ℕ → List ℕ → List Entry → Surface
surface_at bytes log covered entries = record { synced = without_all covered entries bytes; written = map (write_of log) entries }

abbrev pub IsInRange : ℕ → Entry → Type 0
IsInRange len e = (e.from + e.len ≤ len) × (e.at + e.len < 2 ^ 64)

-- What the write wrote over is among so many covered bytes, and undoing it wants room for so many at the most.
pub record IsUndoable (covered room : ℕ) (e : Entry) : Type 0 where
  pub in_covered : e.covered_from + e.covered_len ≤ covered
  pub no_longer : e.at + e.covered_len ≤ e.before
  pub in_room : e.before ≤ room
