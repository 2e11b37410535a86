-- The line that tells a fault.
use Rattle.std.specs.Prelude.{ℕ, List, ◌++◌, codes}
use Rattle.std.specs.Fmt.{decimal}
use Rattle.adr_schedule.specs.declared.fault.Cause.{Cause}
use Rattle.adr_schedule.specs.declared.fault.Cause.TheVariants.{NotUtf8, NoCommand, UnknownName, NameUsed, IdentifierUsed, TooMany, TooLong}
use Rattle.adr_schedule.specs.declared.fault.ScheduleFault.{ScheduleFault}

abbrev pub cause_text : Cause → List ℕ
cause_text NotUtf8 = codes "not UTF-8"
cause_text NoCommand = codes "no command"
cause_text UnknownName = codes "unknown name"
cause_text NameUsed = codes "name used"
cause_text IdentifierUsed = codes "identifier used"
cause_text TooMany = codes "too many"
cause_text TooLong = codes "too long"

-- the line of a text's first fault
unfoldable pub fault_line : ScheduleFault → List ℕ
fault_line f = codes "line " ++ decimal f.line ++ codes ": " ++ cause_text f.cause ++ codes "\n"
