-- Which failures of a network are counted, and by which count.
use Rattle.std.specs.Prelude.{◌≡◌, ◌<◌, ◌≤◌, ℕ, Result, IsErrOf, OnOk}
use Rattle.adr_io.specs.declared.Fault.{Fault}
use Rattle.adr_io.specs.declared.Fault.TheVariants.{Failed, NoMemory}

-- The count rises where the call failed, and nowhere else. The other count stays.
pub record IsCounted {T : Type 0} (before now beside beside_now : ℕ) (result : Result T Fault) : Type 0 where
  pub never_falls : before ≤ now
  pub failed : IsErrOf result Failed → before < now
  pub passed : OnOk result (now ≡ before)
  pub no_memory : IsErrOf result NoMemory → now ≡ before
  pub other : beside_now ≡ beside
