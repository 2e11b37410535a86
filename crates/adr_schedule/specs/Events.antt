-- The events of a text, or its first bad line.
use Rattle.std.specs.Prelude.{◌≡◌, ℕ, List, [], ◌∷◌, ◌++◌, ◌+◌, nat_lt, if◌then◌else◌, length, Option, Some, None, Result, Ok, Err}
use Rattle.std.specs.Option.{option_to_list}
use Rattle.std.specs.Str.{is_utf8}
use Rattle.adr_call.specs.declared.event.Event.{Event}
use Rattle.adr_schedule.specs.declared.fault.Cause.{Cause}
use Rattle.adr_schedule.specs.declared.fault.Cause.TheVariants.{NotUtf8, NoCommand, TooLong}
use Rattle.adr_schedule.specs.declared.fault.ScheduleFault.{ScheduleFault}
use Rattle.adr_schedule.specs.Limits.{text_limit}
use Rattle.adr_schedule.specs.Lines.{lines_of}
use Rattle.adr_schedule.specs.Commands.{event_of, is_passed}
use Rattle.adr_schedule.specs.Seen.{Seen, nothing_seen, cause_after, seen_after}

abbrev pub unless : Option Cause → Event → Result (Option Event) Cause
unless None event = Ok (Some event)
unless (Some cause) event = Err cause

abbrev pub followed : Seen → Option Event → Result (Option Event) Cause
followed seen None = Err NoCommand
followed seen (Some event) = unless (cause_after seen event) event

-- what a line says after the earlier ones: nothing, an event, or why it is bad
abbrev pub line_after : Seen → List ℕ → Result (Option Event) Cause
line_after seen line =
    if is_passed line then Ok None
    else if is_utf8 line then followed seen (event_of line)
    else Err NotUtf8

abbrev pub seen_with : Seen → Option Event → Seen
seen_with seen None = seen
seen_with seen (Some event) = seen_after seen event

-- what a line says goes to the events, and what it binds and gives to what was seen
abbrev pub IsToldBy : Seen → List ℕ → Seen → List Event → List Event → Type 0
IsToldBy seen line next events grown =
    (told : Option Event) × (line_after seen line ≡ Ok told) × (next ≡ seen_with seen told) × (grown ≡ events ++ option_to_list told)

abbrev pub bad : ℕ → Cause → Result (List Event) ScheduleFault
bad line cause = Err (record { line = line; cause = cause })

-- events put before those of later lines
abbrev pub before : List Event → Result (List Event) ScheduleFault → Result (List Event) ScheduleFault
before events (Ok more) = Ok (events ++ more)
before events (Err fault) = Err fault

-- one line, and then what go says of the later ones
abbrev pub on_line : ℕ → Seen → Result (Option Event) Cause → (Seen → Result (List Event) ScheduleFault) → Result (List Event) ScheduleFault
on_line number seen (Err cause) go = bad number cause
on_line number seen (Ok told) go = before (option_to_list told) (go (seen_with seen told))

-- the events of lines, which are numbered from this number on
abbrev pub events_from : Seen → ℕ → List (List ℕ) → Result (List Event) ScheduleFault
events_from seen number [] = Ok []
events_from seen number (line ∷ lines) = on_line number seen (line_after seen line) (λ next. events_from next (number + 1) lines)

-- the events of a text, or its first bad line
unfoldable pub events_of : List ℕ → Result (List Event) ScheduleFault
events_of text = if nat_lt text_limit (length text) then bad 0 TooLong else events_from nothing_seen 1 (lines_of text)
