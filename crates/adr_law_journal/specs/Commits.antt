-- What the device calls of a commit do, as far as they come.
use Rattle.std.specs.Prelude.{ℕ, ◌⊎◌, ◌-◌, List, [], ◌∷◌, Bool, Option, Some, None, if◌then◌else◌}
use Rattle.adr_io.specs.declared.Fault.{Fault}
use Rattle.adr_disk.specs.Disk.{Call, Through, Twice}
use Rattle.adr_wire.specs.Fields.{u64}
use Rattle.adr_law_journal.specs.Log.{open_gate}
use Rattle.adr_law_journal.specs.Areas.{selector_place, slot_place, selects_second}

-- the record is written behind the closed gate of a log that ends here, and then the gate
abbrev pub Commits : {D : Type 0} → (D → Call → Option Fault → D → Type 0) → ℕ → List ℕ → D → Option Fault → D → Type 0
Commits {D} gives end written old None new = (mid : D) × Through gives end written old None mid × Through gives (end - 1) (open_gate ∷ []) mid None new
Commits {D} gives end written old (Some fault) new =
    Through gives end written old (Some fault) new
    ⊎ ((mid : D) × Through gives end written old None mid × Through gives (end - 1) (open_gate ∷ []) mid (Some fault) new)

-- the selector that selects a slot
abbrev pub selector_of : Bool → ℕ
selector_of second = if second then selects_second else 0

-- a new area is written and its place into that slot, with one sync, and then the selector with one
abbrev pub Checkpoints : {D : Type 0} → (D → Call → Option Fault → D → Type 0) → ℕ → List ℕ → Bool → D → Option Fault → D → Type 0
Checkpoints {D} gives place written second old None new =
    (mid : D) × Twice gives place written (slot_place second) (u64 place) old None mid × Through gives selector_place (selector_of second ∷ []) mid None new
Checkpoints {D} gives place written second old (Some fault) new =
    Twice gives place written (slot_place second) (u64 place) old (Some fault) new
    ⊎ ((mid : D) × Twice gives place written (slot_place second) (u64 place) old None mid × Through gives selector_place (selector_of second ∷ []) mid (Some fault) new)
