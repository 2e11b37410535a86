-- What a failure says of the reading that it comes from.
use Rattle.std.specs.Prelude.{◌≡◌, Option, Some, Result, Err}
use Rattle.adr_values.specs.declared.failure.Failure.{Failure}
use Rattle.adr_values.specs.declared.failure.Failure.TheVariants.{Refused, NoMemory}
use Rattle.adr_schedule.specs.declared.fault.Cause.{Cause}

-- a refused event may not follow, for this cause, unless memory ran out
abbrev pub RefusesEvent : Failure Cause → Option Cause → Type 0
RefusesEvent (Refused cause) found = found ≡ Some cause
RefusesEvent NoMemory found = Unit {0}

-- what is refused has this cause or this fault, unless memory ran out
abbrev pub Refuses : {Y R : Type 0} → Failure R → Result Y R → Type 0
Refuses (Refused why) says = says ≡ Err why
Refuses NoMemory says = Unit {0}
