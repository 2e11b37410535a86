-- What the commands over a disk do, and the status of each.
use Rattle.std.specs.Prelude.{◌≡◌, ◌⊎◌, ◌<◌, ◌≤◌, ℕ, List, Option, Some, None, codes}
use Rattle.adr_io.specs.declared.Source.{Ghosts as SourceGhosts}
use Rattle.adr_io.specs.declared.Sink.{Ghosts as SinkGhosts}
use Rattle.adr_disk.specs.declared.disk.Disk.{Ghosts as DiskGhosts}
use Rattle.adr_outside.specs.declared.fresh.Fresh.{Ghosts as FreshGhosts}
use Rattle.adr_model.specs.Store.{State}
use Rattle.adr_model.specs.Update.{Identifier}
use Rattle.adr_law_journal.specs.Areas.{Started}
use Rattle.adr_node.specs.Seen.{Untouched, of_disk}
use Rattle.adr_node.specs.Looks.{Due, Looks, backup_bytes, due_of, export_bytes, never, refuses_backup, show_bytes}
use Rattle.adr_node.specs.Makes.{Adopts, IsNew, IsReadAtMost, Makes, ReadsSo, Verdict}
use Rattle.adr_node.specs.declared.ended.Looked.{Looked}
use Rattle.adr_node.specs.declared.ended.Looked.TheVariants as looks
use Rattle.adr_node.specs.declared.ended.Creation.{Creation}
use Rattle.adr_node.specs.declared.ended.Creation.TheVariants as makes
use Rattle.adr_words.specs.declared.kinds.DiskCommand.{DiskCommand}
use Rattle.adr_words.specs.declared.kinds.DiskCommand.TheVariants.{Create, Install, Restore, Backup, Show, Export}

-- what a command has at hand
pub record AtHand (S K D F : Type 0) : Type 0 where
  pub source : S
  pub sink : K
  pub disk : D
  pub fresh : F

-- ---- the status

abbrev pub status_of_look : Looked → ℕ
status_of_look looks.Done = 0
status_of_look looks.WriteFault = 5
status_of_look looks.DiskFault = 6
status_of_look looks.NoMemory = 8
status_of_look looks.Refused = 9
status_of_look (looks.Damaged place) = 10

abbrev pub status_of_making : Creation → ℕ
status_of_making makes.Done = 0
status_of_making makes.ReadFault = 4
status_of_making makes.WriteFault = 5
status_of_making makes.DiskFault = 6
status_of_making makes.NoMemory = 8
status_of_making (makes.Refused why) = 9
status_of_making makes.FreshFault = 13

-- ---- what they do

-- a command that only looks reads nothing, and draws no identifier
abbrev pub LooksSo : {S K D F : Type 0} → SinkGhosts K → DiskGhosts D → (Started State → Due) → AtHand S K D F → AtHand S K D F → ℕ → Type 0
LooksSo k d due before after status =
    (how : Looked) × (status ≡ status_of_look how) × Looks (of_disk d) k due before.disk after.disk before.sink after.sink how
    × (after.source ≡ before.source) × (after.fresh ≡ before.fresh)

-- A command that makes a controller has read so much. Where the disk has bytes, it has read and drawn nothing (`sees_first` of
-- `Makes`), and where reading or drawing failed, nothing has changed of the disk.
pub record MakesSo {S K D F : Type 0} (k : SinkGhosts K) (d : DiskGhosts D) (comes : Verdict → Type 0) (untaken : Type 0) (reads : Creation → Type 0)
    (verb name : List ℕ) (before after : AtHand S K D F) (status : ℕ) : Type 0 where
  pub how : Creation
  pub status_is : status ≡ status_of_making how
  pub made : Makes d k comes untaken verb name before.disk after.disk before.sink after.sink how
  pub reads_so : reads how
  pub untouched : (how ≡ makes.ReadFault) ⊎ (how ≡ makes.FreshFault) → Untouched d before.disk after.disk

-- of the source at most one byte more is read than an image may have, and so much where the command came further
abbrev pub ReadsImage : {S K D F : Type 0} → SourceGhosts S → AtHand S K D F → AtHand S K D F → Creation → Type 0
ReadsImage s before after how = IsReadAtMost (s.left before.source) (s.left after.source) × ReadsSo (s.left before.source) (s.left after.source) how

-- no image was read, and no identifier drawn
abbrev pub Untaken : {S K D F : Type 0} → AtHand S K D F → AtHand S K D F → Type 0
Untaken before after = (after.source ≡ before.source) × (after.fresh ≡ before.fresh)

-- a fault has its cause, and no count of faults falls
pub record HasCauses {S K D F : Type 0} (s : SourceGhosts S) (k : SinkGhosts K) (d : DiskGhosts D) (f : FreshGhosts F) (before after : AtHand S K D F)
    (status : ℕ) : Type 0 where
  pub read : status ≡ 4 → s.faults before.source < s.faults after.source
  pub unwritten : status ≡ 4 → after.sink ≡ before.sink
  pub write : status ≡ 5 → k.faults before.sink < k.faults after.sink
  pub disk : status ≡ 6 → d.faults before.disk < d.faults after.disk
  pub draw : status ≡ 13 → f.faults before.fresh < f.faults after.fresh
  pub source_later : s.faults before.source ≤ s.faults after.source
  pub sink_later : k.faults before.sink ≤ k.faults after.sink
  pub disk_later : d.faults before.disk ≤ d.faults after.disk
  pub fresh_later : f.faults before.fresh ≤ f.faults after.fresh

-- what comes of the image that is read, under identifiers that are drawn, but for the controller's where it is given
abbrev pub AdoptedSo : {S K D F : Type 0} → SourceGhosts S → FreshGhosts F → Option Identifier → AtHand S K D F → AtHand S K D F → Verdict → Type 0
AdoptedSo s f given before after = Adopts given (s.left before.source) (f.identifiers before.fresh) (f.identifiers after.fresh)

-- and of a new controller
abbrev pub NewSo : {S K D F : Type 0} → FreshGhosts F → AtHand S K D F → AtHand S K D F → Verdict → Type 0
NewSo f before after = IsNew (f.identifiers before.fresh) (f.identifiers after.fresh)

-- what each command does
abbrev pub DoesSo : {S K D F : Type 0} → SourceGhosts S → SinkGhosts K → DiskGhosts D → FreshGhosts F → DiskCommand → AtHand S K D F → AtHand S K D F → ℕ → Type 0
DoesSo s k d f (Create name) before after status =
    MakesSo k d (NewSo f before after) (after.fresh ≡ before.fresh) (λ how. after.source ≡ before.source) (codes "create") name before after status
DoesSo s k d f (Install name) before after status =
    MakesSo k d (AdoptedSo s f None before after) (Untaken before after) (ReadsImage s before after) (codes "install") name before after status
DoesSo s k d f (Restore name dsa) before after status =
    MakesSo k d (AdoptedSo s f (Some dsa) before after) (Untaken before after) (ReadsImage s before after) (codes "restore") name before after status
DoesSo s k d f (Backup name) before after status = LooksSo k d (due_of refuses_backup backup_bytes) before after status
DoesSo s k d f (Show name) before after status = LooksSo k d (due_of never (show_bytes name)) before after status
DoesSo s k d f (Export name) before after status = LooksSo k d (due_of never export_bytes) before after status
