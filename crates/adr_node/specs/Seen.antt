-- What is seen of a controller's disk: what a start would find, and what one may find behind a crash.
use Rattle.std.specs.Prelude.{◌≡◌, ◌≤◌, ℕ, List, Option, Ok, IfSome}
use Rattle.std.specs.Option.{option_map}
use Rattle.adr_disk.specs.Disk.{Among, LeavesOnly}
use Rattle.adr_disk.specs.declared.disk.Disk.{Ghosts as DiskGhosts}
use Rattle.adr_model.specs.Store.{State}
use Rattle.adr_model.specs.Lengths.{new_log}
use Rattle.adr_law_journal.specs.Areas.{Started, found, start_of}
use Rattle.adr_law_journal.specs.Kept.{Finds}
use Rattle.adr_journal.specs.declared.keeper.Keeper.{Ghosts as KeeperGhosts}
use Rattle.adr_records.specs.Head.{area_at, front_at}
use Rattle.adr_records.specs.Body.{following_in}

-- how many calls have failed; the bytes, and what a start would find, where they are told; what one may find behind a crash
-- now, and behind one at a moment or later
pub record Seen (D : Type 0) : Type 1 where
  pub faults : D → ℕ
  pub content : D → Option (List ℕ)
  pub told : D → Option (Started State)
  pub may_leave : D → Started State → Type 0
  pub moment : D → ℕ
  pub left_since : D → ℕ → Started State → Type 0

-- what a start finds in the bytes of a disk: a state and its log, or the place of the first fault
abbrev pub start_in : List ℕ → Started State
start_in bytes = start_of front_at area_at following_in bytes

abbrev pub of_disk : {D : Type 0} → DiskGhosts D → Seen D
of_disk d =
    record {
      faults = d.faults;
      content = d.content;
      told = λ disk. option_map (start_of front_at area_at following_in) (d.content disk);
      may_leave = λ disk. Finds front_at area_at following_in (d.may_leave disk);
      moment = d.moment;
      left_since = λ disk t. Finds front_at area_at following_in (d.left_since disk t);
    }

abbrev pub of_keeper : {K : Type 0} → KeeperGhosts K → Seen K
of_keeper k =
    record {
      faults = k.faults;
      content = k.content;
      told = k.told;
      may_leave = k.may_leave;
      moment = k.moment;
      left_since = k.left_since;
    }

-- Of the second as much is seen as of the first, a crash leaves nothing else, and no count of faults has fallen.
pub record Mirrors {D E : Type 0} (d : Seen D) (x : D) (e : Seen E) (y : E) : Type 0 where
  pub content : e.content y ≡ d.content x
  pub told : e.told y ≡ d.told x
  pub left : Among (d.may_leave x) (e.may_leave y)
  pub since : (t : ℕ) → Among (d.left_since x t) (e.left_since y t)
  pub moment : e.moment y ≡ d.moment x
  pub faults : d.faults x ≤ e.faults y

-- nothing has changed of a disk
abbrev pub Untouched : {D : Type 0} → DiskGhosts D → D → D → Type 0
Untouched d old new = Mirrors (of_disk d) old (of_disk d) new

-- the bytes are what they were, and a start finds what it found
abbrev pub Stays : {D : Type 0} → Seen D → D → D → Type 0
Stays d old new = (d.content new ≡ d.content old) × (d.told new ≡ d.told old)

-- So it is, and behind a crash at any moment, or from then on, a start finds nothing that it might not have found before.
pub record FindsAsBefore {D : Type 0} (d : Seen D) (old new : D) : Type 0 where
  pub stays : Stays d old new
  pub any_moment : LeavesOnly d.moment d.left_since old new (d.may_leave old)
  pub left : Among (d.may_leave old) (d.may_leave new)

-- a start finds this, also behind a crash, where what it finds is told
abbrev pub StandsAs : {D : Type 0} → Seen D → Started State → D → Type 0
StandsAs d this disk = IfSome (d.told disk) (λ t. (t ≡ this) × Among (λ f. f ≡ this) (d.may_leave disk))

-- it finds this state on a new log
abbrev pub StandsNew : {D : Type 0} → Seen D → State → D → Type 0
StandsNew d s disk = StandsAs d (Ok (found s (new_log s))) disk
