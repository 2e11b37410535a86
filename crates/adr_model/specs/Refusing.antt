-- What comes where there is no refusal.
use Rattle.std.specs.Prelude.{Option, Some, None, Result, Ok, Err}

-- a refusal, or what comes where there is none
abbrev pub unless : {A E : Type 0} → Option E → A → Result A E
unless (Some refusal) x = Err refusal
unless None x = Ok x
