-- What a call leaves that was hindered, or not.
use Rattle.std.specs.Prelude.{Bool, true, false, Option, Some, None}
use Rattle.adr_call.specs.declared.outcome.Outcome.{Outcome}
use Rattle.adr_call.specs.declared.outcome.Outcome.TheVariants as outcomes
use Rattle.adr_call.specs.declared.refusal.Table.TheVariants.{Log}
use Rattle.adr_model.specs.Lengths.{log_limit}
use Rattle.adr_model.specs.Refused.{full}
use Rattle.adr_journal.specs.declared.keeper.StartRefusal.{StartRefusal}
use Rattle.adr_journal.specs.declared.keeper.StartRefusal.TheVariants as starts
use Rattle.adr_controller.specs.Running.{Running}
use Rattle.adr_controller.specs.declared.refusal.Hindrance.{Hindrance}
use Rattle.adr_controller.specs.declared.refusal.Hindrance.TheVariants.{Down, Failed, Full, DiskFault, NoMemory}

-- what is ahead has come, where a change may have reached the disk, and where there was none
abbrev pub come : {A : Type 0} → Option Hindrance → A → A → A
come None was ahead = ahead
come (Some DiskFault) was ahead = ahead
come (Some _) was ahead = was

abbrev pub downed : {K : Type 0} → Bool → Running K → Running K
downed true c = record { keeper = c.keeper; state = None; down = true }
downed false c = c

-- a controller whose disk stopped within the call is down
abbrev pub left_by : {K : Type 0} → (K → Bool) → Option Hindrance → Running K → Running K
left_by has_stopped (Some DiskFault) c = downed (has_stopped c.keeper) c
left_by has_stopped _ c = c

-- a start that wanted memory when its sync was made has what is ahead all the same; damage, which never comes, tells nothing
abbrev pub hindrance_of_start : Option StartRefusal → Option Hindrance
hindrance_of_start None = None
hindrance_of_start (Some starts.DiskFault) = Some DiskFault
hindrance_of_start (Some (starts.NoMemory true)) = None
hindrance_of_start (Some (starts.NoMemory false)) = Some NoMemory
hindrance_of_start (Some (starts.Damaged place)) = Some NoMemory

-- ---- what is answered

abbrev pub of_fault : Bool → Outcome
of_fault true = outcomes.Stopped
of_fault false = outcomes.Disk

abbrev pub hindered_so : Hindrance → Bool → Option Outcome
hindered_so Down stopped = Some outcomes.Down
hindered_so Failed stopped = Some outcomes.Failed
hindered_so Full stopped = Some (full Log log_limit)
hindered_so DiskFault stopped = Some (of_fault stopped)
hindered_so NoMemory stopped = None
