-- The grammar of a text: its lines spell its events one after the other, or one of them is the first bad line.
use Rattle.std.specs.Prelude.{◌≡◌, ◌⊎◌, ◌≤◌, ◌<◌, ◌+◌, List, [], ◌∷◌, ℕ, length, true, false, Some, None, Ok, Err}
use Rattle.std.specs.Str.{is_utf8}
use Rattle.adr_call.specs.declared.event.Event.{Event}
use Rattle.adr_schedule.specs.declared.fault.Cause.{Cause}
use Rattle.adr_schedule.specs.declared.fault.Cause.TheVariants.{NotUtf8, NoCommand, TooLong}
use Rattle.adr_schedule.specs.declared.fault.ScheduleFault.{ScheduleFault}
use Rattle.adr_schedule.specs.Limits.{text_limit}
use Rattle.adr_schedule.specs.Lines.{lines_of}
use Rattle.adr_schedule.specs.Commands.{is_passed}
use Rattle.adr_schedule.specs.Grammar.{Spells}
use Rattle.adr_schedule.specs.Seen.{Seen, nothing_seen, cause_after, seen_after}
use Rattle.adr_schedule.specs.Events.{events_of}

-- a line says an event: it isn't passed over, it spells the event, and no cause is against it
pub record Says (seen : Seen) (line : List ℕ) (event : Event) : Type 0 where
  pub not_passed : is_passed line ≡ false
  pub utf8 : is_utf8 line ≡ true
  pub spells : Spells line event
  pub follows : cause_after seen event ≡ None

-- each line is passed over, or it says the next of the events
abbrev pub LinesSay : Seen → List (List ℕ) → List Event → Type 0
LinesSay seen [] events = events ≡ []
LinesSay seen (line ∷ lines) events =
    ((is_passed line ≡ true) × LinesSay seen lines events)
    ⊎ ((event : Event) × (more : List Event) × Says seen line event × LinesSay (seen_after seen event) lines more × (events ≡ event ∷ more))

-- a text says some events: it isn't too long, and its lines say them
abbrev pub IsSchedule : List ℕ → List Event → Type 0
IsSchedule text events = (length text ≤ text_limit) × LinesSay nothing_seen (lines_of text) events

-- why a line is bad, the first of the causes in their order
abbrev pub IsCause : Seen → List ℕ → Cause → Type 0
IsCause seen line NotUtf8 = is_utf8 line ≡ false
IsCause seen line NoCommand = (is_utf8 line ≡ true) × ((event : Event) → Spells line event → ⊥)
IsCause seen line cause = (is_utf8 line ≡ true) × ((event : Event) × Spells line event × (cause_after seen event ≡ Some cause))

-- the first bad line, where the lines are numbered from this number on: those before it are passed over or say an event
abbrev pub IsFirstFault : Seen → ℕ → List (List ℕ) → ScheduleFault → Type 0
IsFirstFault seen number [] fault = ⊥
IsFirstFault seen number (line ∷ lines) fault =
    ((is_passed line ≡ true) × IsFirstFault seen (number + 1) lines fault)
    ⊎ (((event : Event) × Says seen line event × IsFirstFault (seen_after seen event) (number + 1) lines fault)
    ⊎ ((is_passed line ≡ false) × (fault.line ≡ number) × IsCause seen line fault.cause))

-- the fault of a text that is no schedule
abbrev pub IsFault : List ℕ → ScheduleFault → Type 0
IsFault text fault =
    ((text_limit < length text) × (fault ≡ record { line = 0; cause = TooLong }))
    ⊎ ((length text ≤ text_limit) × IsFirstFault nothing_seen 1 (lines_of text) fault)

abbrev pub SchedulesAreRead : Type 0
SchedulesAreRead = (text : List ℕ) (events : List Event) → IsSchedule text events → events_of text ≡ Ok events

abbrev pub ReadTextsAreSchedules : Type 0
ReadTextsAreSchedules = (text : List ℕ) (events : List Event) → events_of text ≡ Ok events → IsSchedule text events

abbrev pub RefusedTextsHaveTheFault : Type 0
RefusedTextsHaveTheFault = (text : List ℕ) (fault : ScheduleFault) → events_of text ≡ Err fault → IsFault text fault

abbrev pub FaultyTextsAreRefused : Type 0
FaultyTextsAreRefused = (text : List ℕ) (fault : ScheduleFault) → IsFault text fault → events_of text ≡ Err fault
