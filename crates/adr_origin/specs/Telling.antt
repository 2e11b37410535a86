-- What a test of a write tells of its refusal.
use Rattle.std.specs.Prelude.{◌≡◌, Option, Some, None, Result, Ok, Err}
use Rattle.adr_values.specs.declared.failure.Failure.{Failure}
use Rattle.adr_values.specs.declared.failure.Failure.TheVariants.{Refused, NoMemory}
use Rattle.adr_call.specs.declared.refusal.WriteRefusal.{WriteRefusal}

-- it passes where there is none, and fails with it, or memory ran out
abbrev pub Tells : {T : Type 0} → Result T (Failure WriteRefusal) → Option WriteRefusal → Type 0
Tells (Ok x) refusal = refusal ≡ None
Tells (Err (Refused e)) refusal = refusal ≡ Some e
Tells (Err NoMemory) refusal = Unit {0}
