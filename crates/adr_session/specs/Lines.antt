-- Lines of a client: a schedule's line of a call, without the controller's name.
use Rattle.std.specs.Prelude.{if◌then◌else◌, ◌<◌, ◌^◌, ℕ, List, ◌++◌, Option, Some, None, codes}
use Rattle.std.specs.Option.{option_and_then}
use Rattle.std.specs.Str.{is_utf8}
use Rattle.adr_call.specs.declared.event.Event.{Event}
use Rattle.adr_call.specs.declared.event.Event.TheVariants as events
use Rattle.adr_token.specs.Words.{word_at}
use Rattle.adr_schedule.specs.Commands.{event_of}
use Rattle.adr_law_controller.specs.Called.{Does, IsGivenCall}
use Rattle.adr_call.specs.declared.call.Call.{Call}

-- ---- what a line says

-- a name behind the first word
abbrev pub named : List ℕ × List ℕ → List ℕ
named w = w.0 ++ codes " n" ++ w.1

-- the call of an event, whatever controller it names
abbrev pub call_of : Event → Option Call
call_of (events.Calls name what) = Some what
call_of _ = None

-- with any name in it, a line is a schedule's
abbrev pub event_said : List ℕ → Option Event
event_said line = option_and_then (λ w. event_of (named w)) (word_at line)

-- what a line has done, if it says a call
abbrev pub call_said : List ℕ → Option Call
call_said line = if is_utf8 line then option_and_then call_of (event_said line) else None

-- a controller can be asked for it at each moment
abbrev pub IsAlwaysGiven : Call → Type 0
IsAlwaysGiven what = (now : ℕ) → now < 2 ^ 64 → IsGivenCall (Does what now)
