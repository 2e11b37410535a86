-- What the calls of a disk did in a call of its journal, as far as they came.
use Rattle.std.specs.Prelude.{◌≡◌, ◌⊎◌, ℕ, ◌-◌, List, [], ◌∷◌, length, true, false, Option, Some, None}
use Rattle.adr_io.specs.declared.Fault.{Fault as Cause}
use Rattle.adr_io.specs.declared.Fault.TheVariants.{Failed as failed_call, NoMemory as no_memory}
use Rattle.adr_disk.specs.Disk.{Call, Looks, Syncs, Through}
use Rattle.adr_law_journal.specs.Log.{open_gate, record_of}
use Rattle.adr_law_journal.specs.Commits.{Commits, Checkpoints}
use Rattle.adr_model.specs.Lengths.{Log}
use Rattle.adr_journal.specs.declared.keeper.KeeperRefusal.{KeeperRefusal}
use Rattle.adr_journal.specs.declared.keeper.KeeperRefusal.TheVariants.{DiskFault, Failed, Full, NoMemory}
use Rattle.adr_journal.specs.declared.keeper.StartRefusal.{StartRefusal}
use Rattle.adr_journal.specs.declared.keeper.StartRefusal.TheVariants as starts

-- room was made
abbrev pub Prepares : {D : Type 0} → (D → Call → Option Cause → D → Type 0) → D → Option KeeperRefusal → D → Type 0
Prepares gives old None new = gives old Looks None new
Prepares gives old (Some DiskFault) new = gives old Looks (Some failed_call) new
Prepares gives old (Some NoMemory) new = (new ≡ old) ⊎ gives old Looks (Some no_memory) new
Prepares gives old (Some Full) new = new ≡ old
Prepares gives old (Some Failed) new = new ≡ old

-- a new area was written and selected, if there is one; and then the record, behind which the log is this
abbrev pub Makes : {D : Type 0} → (D → Call → Option Cause → D → Type 0) → List ℕ → Log → List ℕ → D → Option Cause → D → Type 0
Makes gives [] next written old e new = Commits gives (next.log_end - length written) written old e new
Makes {D} gives (b ∷ area) next written old None new =
    (mid : D) × Checkpoints gives next.place (b ∷ area) next.second old None mid × Commits gives (next.log_end - length written) written mid None new
Makes {D} gives (b ∷ area) next written old (Some cause) new =
    Checkpoints gives next.place (b ∷ area) next.second old (Some cause) new
    ⊎ ((mid : D) × Checkpoints gives next.place (b ∷ area) next.second old None mid × Commits gives (next.log_end - length written) written mid (Some cause) new)

-- where the record of a body stands in a log that it ends
abbrev pub record_place : Log → List ℕ → ℕ
record_place next body = next.log_end - length (record_of body)

-- a commit of a record of this body
abbrev pub CommitsDisk : {D : Type 0} → (D → Call → Option Cause → D → Type 0) → List ℕ → Log → List ℕ → D → Option KeeperRefusal → D → Type 0
CommitsDisk gives area next body old None new = Makes gives area next (record_of body) old None new
CommitsDisk gives area next body old (Some DiskFault) new = Makes gives area next (record_of body) old (Some failed_call) new
CommitsDisk gives area next body old (Some refusal) new = ⊥

-- the length was asked for, and the bytes were read
abbrev pub Reads : {D : Type 0} → (D → Call → Option Cause → D → Type 0) → D → Option Cause → D → Type 0
Reads {D} gives old None new = (mid : D) × gives old Looks None mid × gives mid Looks None new
Reads {D} gives old (Some failed_call) new = gives old Looks (Some failed_call) new ⊎ ((mid : D) × gives old Looks None mid × gives mid Looks (Some failed_call) new)
Reads {D} gives old (Some no_memory) new =
    gives old Looks (Some no_memory) new ⊎ ((mid : D) × gives old Looks None mid × ((new ≡ mid) ⊎ gives mid Looks (Some no_memory) new))

-- and before it a sync passed
abbrev pub ReadsSynced : {D : Type 0} → (D → Call → Option Cause → D → Type 0) → D → Option Cause → D → Type 0
ReadsSynced {D} gives old e new = (mid : D) × gives old Syncs None mid × Reads gives mid e new

-- what a start did: the sync failed or wanted memory, or it passed; memory may be wanting behind the reading too
abbrev pub Starts : {D : Type 0} → (D → Call → Option Cause → D → Type 0) → D → Option StartRefusal → D → Type 0
Starts gives old None new = ReadsSynced gives old None new
Starts gives old (Some starts.DiskFault) new = gives old Syncs (Some failed_call) new ⊎ ReadsSynced gives old (Some failed_call) new
Starts gives old (Some (starts.Damaged place)) new = ReadsSynced gives old None new
Starts gives old (Some (starts.NoMemory true)) new = ReadsSynced gives old None new ⊎ ReadsSynced gives old (Some no_memory) new
Starts gives old (Some (starts.NoMemory false)) new = gives old Syncs (Some no_memory) new

-- a new log was written: a closed gate, the rest behind it, and the open gate
abbrev pub Formats : {D : Type 0} → (D → Call → Option Cause → D → Type 0) → List ℕ → D → Option Cause → D → Type 0
Formats {D} gives written old None new =
    (first : D) × (second : D) × Through gives 0 (0 ∷ []) old None first × Through gives 1 written first None second × Through gives 0 (open_gate ∷ []) second None new
Formats {D} gives written old (Some cause) new =
    Through gives 0 (0 ∷ []) old (Some cause) new
    ⊎ ((first : D) × Through gives 0 (0 ∷ []) old None first
    × (Through gives 1 written first (Some cause) new ⊎ ((second : D) × Through gives 1 written first None second × Through gives 0 (open_gate ∷ []) second (Some cause) new)))

-- room was made, and then a new log written
abbrev pub FormatsDisk : {D : Type 0} → (D → Call → Option Cause → D → Type 0) → D → Option KeeperRefusal → D → Type 0
FormatsDisk {D} gives old None new = (mid : D) × gives old Looks None mid × ((written : List ℕ) × Formats gives written mid None new)
FormatsDisk {D} gives old (Some DiskFault) new =
    gives old Looks (Some failed_call) new ⊎ ((mid : D) × gives old Looks None mid × ((written : List ℕ) × Formats gives written mid (Some failed_call) new))
FormatsDisk gives old (Some NoMemory) new = (new ≡ old) ⊎ gives old Looks (Some no_memory) new
FormatsDisk gives old (Some Full) new = new ≡ old
FormatsDisk gives old (Some Failed) new = ⊥
