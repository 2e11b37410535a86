-- What is known of a disk over a file, and how its calls count their failures.
use Rattle.std.specs.Prelude.{◌≡◌, ℕ, ◌+◌, ◌-◌, ◌^◌, Bool, Result, OnOk, IsErrOf}
use Rattle.adr_io.specs.declared.Fault.{Fault}
use Rattle.adr_io.specs.declared.Fault.TheVariants.{Failed, NoMemory}

-- its folder, whether it was told a name, of which no sync has failed since, and how many calls have failed
pub record FileState (F : Type 0) : Type 0 where
  pub folder : F
  pub is_attached : Bool
  pub faults : ℕ

-- a call that fails is counted, or can't be
pub record CountsOne {F T : Type 0} (old : FileState F) (result : Result T Fault) (new : FileState F) : Type 0 where
  pub passed : OnOk result (new.faults ≡ old.faults)
  pub failed : IsErrOf result Failed → new.faults ≡ old.faults + 1
  pub no_memory : IsErrOf result NoMemory → new.faults ≡ old.faults
  pub uncounted : IsErrOf result NoMemory → old.faults ≡ 2 ^ 64 - 1
