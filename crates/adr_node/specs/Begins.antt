-- How a command begins that needs the controller on a disk: it is started, or it isn't, and why not is told.
use Rattle.std.specs.Prelude.{◌≡◌, ◌⊎◌, ◌↔◌, ◌<◌, ◌≤◌, ℕ, Ok, Err, IfSome, IsSome}
use Rattle.adr_io.specs.Told.{Adds, AddsFront}
use Rattle.adr_io.specs.declared.Sink.{Ghosts as SinkGhosts}
use Rattle.adr_disk.specs.Disk.{Among, LeavesOnly}
use Rattle.adr_model.specs.Store.{State}
use Rattle.adr_law_journal.specs.Areas.{Found, Started}
use Rattle.adr_law_journal.specs.Kept.{FindsState}
use Rattle.adr_journal.specs.declared.keeper.Keeper.{Ghosts as KeeperGhosts}
use Rattle.adr_journal.specs.declared.keeper.StartRefusal.{StartRefusal}
use Rattle.adr_journal.specs.declared.keeper.StartRefusal.TheVariants as starts
use Rattle.adr_controller.specs.Running.{IsStarted, Running}
use Rattle.adr_node.specs.Lines.{damaged_line}
use Rattle.adr_node.specs.Seen.{Seen, Mirrors, StandsAs, Stays, of_keeper}
use Rattle.adr_node.specs.declared.ended.Unbegun.{Unbegun}
use Rattle.adr_node.specs.declared.ended.Unbegun.TheVariants as unbegun

-- a start finds this state, also behind a crash, where what it finds is told
abbrev pub StandsOn : {D : Type 0} → Seen D → D → Found State → Type 0
StandsOn d disk f = IfSome (d.told disk) (λ t. (t ≡ Ok f) × Among (FindsState f.state) (d.may_leave disk))

-- ---- it is started

-- a controller was started from a keeper, whose bytes stay, and of which a crash leaves what it might have left before
pub record Begun {K : Type 0} (k : KeeperGhosts K) (keeper : K) (c : Running K) : Type 0 where
  pub started : IsStarted k keeper c
  pub unwritten : k.content c.keeper ≡ k.content keeper
  pub told : IsSome (k.told c.keeper) ↔ IsSome (k.told keeper)
  pub later : k.faults keeper ≤ k.faults c.keeper
  pub any_moment : LeavesOnly k.moment k.left_since keeper c.keeper (k.may_leave keeper)
  pub left : Among (k.may_leave keeper) (k.may_leave c.keeper)

-- from one of which as much is seen as of a disk
pub record BegunOn {D K : Type 0} (d : Seen D) (k : KeeperGhosts K) (disk : D) (c : Running K) : Type 0 where
  pub keeper : K
  pub mirrors : Mirrors d disk (of_keeper k) keeper
  pub begun : Begun k keeper c

-- ---- it isn't

-- the bytes of the disk are no log: that is written, or a front of it
abbrev pub TellsDamage : {S : Type 0} → SinkGhosts S → ℕ → S → S → Unbegun → Type 0
TellsDamage k place before after (unbegun.Damaged there) =
    (there ≡ place) × Adds (k.written before) (k.written after) (damaged_line place)
TellsDamage k place before after unbegun.WriteFault = AddsFront (k.written before) (k.written after) (damaged_line place)
TellsDamage k place before after unbegun.DiskFault = ⊥
TellsDamage k place before after unbegun.NoMemory = AddsFront (k.written before) (k.written after) (damaged_line place)

-- what is told of a start that was refused
abbrev pub TellsRefusal : {S : Type 0} → SinkGhosts S → StartRefusal → S → S → Unbegun → Type 0
TellsRefusal k starts.DiskFault before after why = (why ≡ unbegun.DiskFault) × (after ≡ before)
TellsRefusal k (starts.Damaged place) before after why = TellsDamage k place before after why
TellsRefusal k (starts.NoMemory settled) before after why = (why ≡ unbegun.NoMemory) × (after ≡ before)

-- a call of the disk failed, or memory was wanting, and nothing was written
abbrev pub IsHindered : {D S : Type 0} → Seen D → D → D → S → S → Unbegun → Type 0
IsHindered d old new before after why =
    ((why ≡ unbegun.DiskFault) ⊎ ((why ≡ unbegun.NoMemory) × Stays d old new)) × (after ≡ before)

-- or what a start finds is damage, also behind a crash, and that is told
abbrev pub IsDamaged : {D S : Type 0} → Seen D → SinkGhosts S → Started State → D → D → S → S → Unbegun → Type 0
IsDamaged d k (Ok f) old new before after why = ⊥
IsDamaged d k (Err place) old new before after why =
    TellsDamage k place before after why × Stays d old new × StandsAs d (Err place) new

-- one or the other, and a crash leaves what it might have left before
abbrev pub EndsUnbegun : {D S : Type 0} → Seen D → SinkGhosts S → Started State → D → D → S → S → Unbegun → Type 0
EndsUnbegun d k found old new before after why =
    (IsHindered d old new before after why ⊎ IsDamaged d k found old new before after why)
    × Among (d.may_leave old) (d.may_leave new)

-- no controller was started
pub record IsUnbegun {D S : Type 0} (d : Seen D) (k : SinkGhosts S) (old new : D) (before after : S) (why : Unbegun) : Type 0 where
  -- what a start finds, which is what the bytes of the disk are, where it tells them
  pub found : Started State
  pub is_found : IfSome (d.told old) (λ t. t ≡ found)
  pub ends : EndsUnbegun d k found old new before after why
  -- a disk that tells what a start finds goes on telling it
  pub still_told : IsSome (d.told old) → IsSome (d.told new)
  pub any_moment : LeavesOnly d.moment d.left_since old new (d.may_leave old)
  -- each fault comes where its count rose, and no count falls
  pub write_fault : why ≡ unbegun.WriteFault → k.faults before < k.faults after
  pub disk_fault : why ≡ unbegun.DiskFault → d.faults old < d.faults new
  pub sink_later : k.faults before ≤ k.faults after
  pub disk_later : d.faults old ≤ d.faults new
  -- a line that couldn't be written is told so
  pub write_ends : k.faults before < k.faults after → why ≡ unbegun.WriteFault
