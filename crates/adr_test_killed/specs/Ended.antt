-- Why the program ends, by why a call didn't answer.
use Rattle.adr_io.specs.declared.Fault.{Fault}
use Rattle.adr_io.specs.declared.Fault.TheVariants as faults
use Rattle.adr_call.specs.declared.refusal.WriteRefusal.{WriteRefusal}
use Rattle.adr_journal.specs.declared.keeper.KeeperRefusal.{KeeperRefusal}
use Rattle.adr_journal.specs.declared.keeper.KeeperRefusal.TheVariants as keeps
use Rattle.adr_journal.specs.declared.keeper.StartRefusal.{StartRefusal}
use Rattle.adr_journal.specs.declared.keeper.StartRefusal.TheVariants as starts
use Rattle.adr_controller.specs.declared.refusal.Hindrance.{Hindrance}
use Rattle.adr_controller.specs.declared.refusal.Hindrance.TheVariants as hinders
use Rattle.adr_controller.specs.declared.refusal.CallRefusal.{CallRefusal}
use Rattle.adr_controller.specs.declared.refusal.CallRefusal.TheVariants as calls
use Rattle.adr_test_killed.specs.declared.ending.Ending.{Ending}
use Rattle.adr_test_killed.specs.declared.ending.Ending.TheVariants.{Damaged, Refused, Full, DiskFault, NoMemory}

abbrev pub of_fault : Fault → Ending
of_fault faults.Failed = DiskFault
of_fault faults.NoMemory = NoMemory

abbrev pub of_start : StartRefusal → Ending
of_start starts.DiskFault = DiskFault
of_start (starts.Damaged place) = Damaged place
of_start (starts.NoMemory settled) = NoMemory

abbrev pub of_keeper : KeeperRefusal → Ending
of_keeper keeps.DiskFault = DiskFault
of_keeper keeps.Failed = DiskFault
of_keeper keeps.Full = Full
of_keeper keeps.NoMemory = NoMemory

abbrev of_hindrance : Hindrance → Ending
of_hindrance hinders.Full = Full
of_hindrance hinders.NoMemory = NoMemory
of_hindrance hinders.DiskFault = DiskFault
of_hindrance hinders.Down = DiskFault
of_hindrance hinders.Failed = DiskFault

abbrev pub of_call : CallRefusal WriteRefusal → Ending
of_call (calls.Refused refusal) = Refused
of_call (calls.Hindered hindrance) = of_hindrance hindrance
