-- How a call of a controller ended.
use Rattle.std.specs.Prelude.{Option, Some, None, Result, Ok, Err}
use Rattle.adr_values.specs.declared.failure.Failure.{Failure}
use Rattle.adr_values.specs.declared.failure.Failure.TheVariants as failures
use Rattle.adr_journal.specs.declared.keeper.KeeperRefusal.{KeeperRefusal}
use Rattle.adr_journal.specs.declared.keeper.KeeperRefusal.TheVariants as keeps
use Rattle.adr_controller.specs.Running.{Running}
use Rattle.adr_controller.specs.declared.refusal.Hindrance.{Hindrance}
use Rattle.adr_controller.specs.declared.refusal.Hindrance.TheVariants.{Failed, Full, DiskFault, NoMemory}
use Rattle.adr_controller.specs.declared.refusal.CallRefusal.{CallRefusal}
use Rattle.adr_controller.specs.declared.refusal.CallRefusal.TheVariants.{Refused, Hindered}

-- a commit was done, or hindered
abbrev pub hindrance_of : {T : Type 0} → Result T Hindrance → Option Hindrance
hindrance_of (Ok _) = None
hindrance_of (Err hindrance) = Some hindrance

-- a call that may also be refused
abbrev pub hindrance_in : {R : Type 0} → CallRefusal R → Option Hindrance
hindrance_in (Refused refusal) = None
hindrance_in (Hindered hindrance) = Some hindrance

abbrev pub call_hindrance : {T R : Type 0} → Result T (CallRefusal R) → Option Hindrance
call_hindrance (Ok _) = None
call_hindrance (Err refusal) = hindrance_in refusal

-- what is answered to a call, its refusal too
abbrev pub as_told : {T R A B : Type 0} → (T → A) → (R → B) → Result T (CallRefusal R) → Result A (CallRefusal B)
as_told ok refused (Ok made) = Ok (ok made)
as_told ok refused (Err (Refused refusal)) = Err (Refused (refused refusal))
as_told ok refused (Err (Hindered hindrance)) = Err (Hindered hindrance)

-- what a refusal of a keeper is to its controller
abbrev pub kept_as : KeeperRefusal → Hindrance
kept_as keeps.DiskFault = DiskFault
kept_as keeps.Failed = Failed
kept_as keeps.Full = Full
kept_as keeps.NoMemory = NoMemory

-- a pure call that didn't answer
abbrev pub of_failure : {R : Type 0} → Failure R → CallRefusal R
of_failure (failures.Refused refusal) = Refused refusal
of_failure failures.NoMemory = Hindered NoMemory

-- ---- a keeper that was taken

-- the keeper afterwards, in the controller or handed back
abbrev pub keeper_of : {K E : Type 0} → Result (Running K) (E × K) → K
keeper_of (Ok c) = c.keeper
keeper_of (Err e) = e.1

-- and why it is handed back
abbrev pub handed_back : {K E : Type 0} → Result (Running K) (E × K) → Option E
handed_back (Ok c) = None
handed_back (Err e) = Some e.0
