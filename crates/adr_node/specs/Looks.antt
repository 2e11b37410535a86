-- What a command does that only looks at the controller on a disk, and writes something of it.
use Rattle.std.specs.Prelude.{◌≡◌, ◌⊎◌, ◌<◌, ◌≤◌, ℕ, List, ◌++◌, Bool, false, codes, if◌then◌else◌, Some, None, Option, Ok, Err, IfOk, IfSome, IsSome}
use Rattle.adr_io.specs.Told.{Adds, AddsFront}
use Rattle.adr_io.specs.declared.Sink.{Ghosts as SinkGhosts}
use Rattle.adr_disk.specs.Disk.{Among, LeavesOnly}
use Rattle.adr_model.specs.Collect.{backup}
use Rattle.adr_model.specs.Directory.{directory}
use Rattle.adr_model.specs.Refused.{quarantined}
use Rattle.adr_model.specs.Serve.{is_quarantined}
use Rattle.adr_model.specs.Store.{State, Store, updates_of}
use Rattle.adr_law_journal.specs.Areas.{Started}
use Rattle.adr_journal.specs.declared.keeper.Keeper.{Ghosts as KeeperGhosts}
use Rattle.adr_controller.specs.Running.{Running}
use Rattle.adr_image.specs.Stored.{image}
use Rattle.adr_records.specs.Logged.{IsLogged}
use Rattle.adr_answers.specs.Laws.{shown}
use Rattle.adr_json.specs.Text.{json_text}
use Rattle.adr_node.specs.Lines.{damaged_line, refusal_line}
use Rattle.adr_node.specs.Begins.{Begun}
use Rattle.adr_node.specs.Seen.{Seen, StandsAs, Stays, of_keeper}
use Rattle.adr_node.specs.declared.ended.Unbegun.{Unbegun}
use Rattle.adr_node.specs.declared.ended.Unbegun.TheVariants as unbegun
use Rattle.adr_node.specs.declared.ended.Looked.{Looked}
use Rattle.adr_node.specs.declared.ended.Looked.TheVariants as backed
use Rattle.adr_node.specs.declared.sights.Sight.{Sight}
use Rattle.adr_node.specs.declared.sights.Sight.TheVariants.{Directory, Json, Image}

-- ---- what is written of a state

-- the answer of a schedule's `show`
abbrev pub show_bytes : List ℕ → State → List ℕ
show_bytes name s = shown name (directory (updates_of s.store.rows))

-- the directory as JSON, and a line feed
abbrev pub export_bytes : State → List ℕ
export_bytes s = json_text (directory (updates_of s.store.rows)) ++ codes "\n"

-- the bytes of an image, or the line of its refusal
abbrev pub image_bytes : Option Store → List ℕ
image_bytes (Some store) = image store
image_bytes None = refusal_line quarantined

abbrev pub backup_bytes : State → List ℕ
backup_bytes s = image_bytes (backup s)

abbrev pub bytes_of : Sight → List ℕ → State → List ℕ
bytes_of Directory name = show_bytes name
bytes_of Json name = export_bytes
bytes_of Image name = backup_bytes

-- whether it is refused
abbrev pub never : State → Bool
never s = false

abbrev pub refuses_backup : State → Bool
refuses_backup s = is_quarantined s.mode

abbrev pub refuses : Sight → State → Bool
refuses Directory = never
refuses Json = never
refuses Image = refuses_backup

-- ---- how a command ends

-- what a command has to write, and how it then ends
pub record Due : Type 0 where
  pub ends : Looked
  pub bytes : List ℕ

-- all of a state
abbrev pub whole_of : Bool → Looked
whole_of is_refused = if is_refused then backed.Refused else backed.Done

-- of what a start finds
abbrev pub due_of : (State → Bool) → (State → List ℕ) → Started State → Due
due_of refuses bytes (Ok f) = record { ends = whole_of (refuses f.state); bytes = bytes f.state }
due_of refuses bytes (Err place) = record { ends = backed.Damaged place; bytes = damaged_line place }

-- all that was due is written
abbrev pub IsWhole : Looked → Type 0
IsWhole backed.Done = Unit {0}
IsWhole backed.Refused = Unit {0}
IsWhole (backed.Damaged place) = Unit {0}
IsWhole backed.WriteFault = ⊥
IsWhole backed.DiskFault = ⊥
IsWhole backed.NoMemory = ⊥

-- what was written, and how that ended
pub record Tells {K : Type 0} (k : SinkGhosts K) (due : Due) (before after : K) (how : Looked) : Type 0 where
  -- all of it, and so the command ends; or a front of it
  pub whole : IsWhole how → (how ≡ due.ends) × Adds (k.written before) (k.written after) due.bytes
  pub front : AddsFront (k.written before) (k.written after) due.bytes
  pub write_fault : how ≡ backed.WriteFault → k.faults before < k.faults after
  pub later : k.faults before ≤ k.faults after

-- how a command ends that had no controller to look at
abbrev pub unseen : Unbegun → Looked
unseen (unbegun.Damaged place) = backed.Damaged place
unseen unbegun.WriteFault = backed.WriteFault
unseen unbegun.DiskFault = backed.DiskFault
unseen unbegun.NoMemory = backed.NoMemory

-- The controller on a disk is started, and something is written of it.
pub record Looks {D K : Type 0} (d : Seen D) (k : SinkGhosts K) (due : Started State → Due) (old new : D) (before after : K)
    (how : Looked) : Type 0 where
  -- what the start finds, which is what the bytes of the disk are, where it tells them
  pub found : Started State
  pub is_found : IfSome (d.told old) (λ t. t ≡ found)
  pub logged : IsWhole how → IfOk found (λ f. IsLogged f.state)
  -- what is due of it is written, or a front of that
  pub tells : Tells k (due found) before after how
  -- behind a fault of the disk nothing is
  pub disk_fault : how ≡ backed.DiskFault → (d.faults old < d.faults new) × (after ≡ before)
  pub later : d.faults old ≤ d.faults new
  -- but for such a fault, the bytes are afterwards what they were, and a start finds what it found
  pub stays : (how ≡ backed.DiskFault → ⊥) → Stays d old new
  -- What was found is found behind a crash from then on. Else a call of the disk failed or memory was wanting, and nothing was
  -- written.
  pub durable : StandsAs d found new ⊎ (((how ≡ backed.DiskFault) ⊎ (how ≡ backed.NoMemory)) × (after ≡ before))
  -- and a disk that tells what a start finds goes on telling it
  pub still_told : IsSome (d.told old) → IsSome (d.told new)
  -- and behind a crash at any moment of the command, or from then on, nothing that it might not have found before
  pub any_moment : LeavesOnly d.moment d.left_since old new (d.may_leave old)
  pub left : Among (d.may_leave old) (d.may_leave new)

-- something is written of a controller, from whatever keeper it was started
abbrev pub LooksOn : {K S : Type 0} → KeeperGhosts K → SinkGhosts S → (Started State → Due) → Running K → K → S → S → Looked → Type 0
LooksOn {K} k s due c new before after how =
    (keeper : K) → Begun k keeper c → Looks (of_keeper k) s due keeper new before after how
