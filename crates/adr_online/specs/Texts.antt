-- The texts that a client sends: each line that isn't passed over says a call.
use Rattle.std.specs.Prelude.{if◌then◌else◌, ◌&&◌, ℕ, suc, nat_le, length, is_some, List, [], ◌∷◌, Option, Some, None}
use Rattle.std.specs.Str.{is_utf8}
use Rattle.adr_schedule.specs.Commands.{is_passed}
use Rattle.adr_schedule.specs.Lines.{lines_of}
use Rattle.adr_schedule.specs.Limits.{text_limit}
use Rattle.adr_schedule.specs.declared.fault.Cause.{Cause}
use Rattle.adr_schedule.specs.declared.fault.Cause.TheVariants.{NoCommand, NotUtf8, TooLong}
use Rattle.adr_schedule.specs.declared.fault.ScheduleFault.{ScheduleFault}
use Rattle.adr_session.specs.Lines.{call_said}
use Rattle.adr_session.specs.Talk.{line_limit}

-- why a line can't be sent, if it can't
abbrev pub cause_in : List ℕ → Option Cause
cause_in line =
    if is_passed line then None
    else if is_utf8 line then (if nat_le (length line) line_limit && is_some (call_said line) then None else Some NoCommand)
    else Some NotUtf8

abbrev pub bad_or : ℕ → Option Cause → Option ScheduleFault → Option ScheduleFault
bad_or number None others = others
bad_or number (Some cause) others = Some (record { line = number; cause = cause })

-- the first of lines that can't be sent, the first of which has this number
abbrev pub first_bad : ℕ → List (List ℕ) → Option ScheduleFault
first_bad number [] = None
first_bad number (line ∷ lines) = bad_or number (cause_in line) (first_bad (suc number) lines)

-- why a text can't be sent, if it can't
abbrev pub fault_in : List ℕ → Option ScheduleFault
fault_in text = if nat_le (length text) text_limit then first_bad 1 (lines_of text) else Some (record { line = 0; cause = TooLong })
