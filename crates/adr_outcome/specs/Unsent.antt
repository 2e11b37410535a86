-- An answer without a message.
use Rattle.std.specs.Prelude.{Option, None, Result, Ok, Err}
use Rattle.adr_call.specs.declared.outcome.Outcome.{Outcome}

abbrev pub unsent : {A E : Type 0} → Result Outcome E → Result (Outcome × Option A) E
unsent (Ok outcome) = Ok (outcome, None)
unsent (Err e) = Err e
