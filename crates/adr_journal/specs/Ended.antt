-- How a call of a keeper ended, and what it leaves.
use Rattle.std.specs.Prelude.{◌≡◌, ℕ, true, false, Option, Some, None, Result, Ok, Err, IfSome}
use Rattle.adr_disk.specs.Disk.{Among, Keeps}
use Rattle.adr_model.specs.Store.{State}
use Rattle.adr_model.specs.Change.{Change, after}
use Rattle.adr_model.specs.Lengths.{new_log, next_log}
use Rattle.adr_law_journal.specs.Areas.{Found, found, Started}
use Rattle.adr_journal.specs.Written.{IsNone}
use Rattle.adr_journal.specs.declared.keeper.KeeperRefusal.{KeeperRefusal}
use Rattle.adr_journal.specs.declared.keeper.StartRefusal.{StartRefusal}
use Rattle.adr_journal.specs.declared.keeper.StartRefusal.TheVariants.{DiskFault, Damaged, NoMemory}

abbrev pub ended : {T : Type 0} → Result T KeeperRefusal → Option KeeperRefusal
ended (Ok _) = None
ended (Err refusal) = Some refusal

abbrev pub ended_start : {T : Type 0} → Result T StartRefusal → Option StartRefusal
ended_start (Ok _) = None
ended_start (Err refusal) = Some refusal

-- what is found after a change
abbrev pub found_after : Found State → Change → Found State
found_after f c = found (after f.state c) (next_log f.log f.state.store c)

-- a format that was cut short leaves no log, or the new one
abbrev pub IsNewOrNone : State → Started State → Type 0
IsNewOrNone s = IsNone s (new_log s)

-- what is damaged is damaged at this place, where that is told
abbrev pub IsDamageOf : StartRefusal → Option (Started State) → Type 0
IsDamageOf DiskFault told = Unit {0}
IsDamageOf (Damaged place) told = IfSome told (λ t. t ≡ Err place)
IsDamageOf (NoMemory settled) told = Unit {0}

-- what is read stays, and a crash leaves nothing else
abbrev pub ReadsOnly : {D O : Type 0} → (D → Option O) → (D → O → Type 0) → D → D → Type 0
ReadsOnly content may_leave old new = (content new ≡ content old) × IfSome (content old) (λ there. Among (λ left. left ≡ there) (may_leave new))

-- A start that was refused leaves what is read: alone where its sync was made, and with all that a crash might leave
-- before where the sync wanted memory. Behind a fault of the disk nothing is said.
abbrev pub StillReads : {D O : Type 0} → (D → Option O) → (D → O → Type 0) → (D → ℕ) → (D → ℕ → O → Type 0) → StartRefusal → D → D → Type 0
StillReads content may_leave moment left_since DiskFault old new = Unit {0}
StillReads content may_leave moment left_since (Damaged place) old new = ReadsOnly content may_leave old new
StillReads content may_leave moment left_since (NoMemory true) old new = ReadsOnly content may_leave old new
StillReads content may_leave moment left_since (NoMemory false) old new = Keeps content may_leave moment left_since old new
