-- What a single line says, whatever other lines say.
use Rattle.std.specs.Prelude.{◌≡◌, ◌<◌, ◌^◌, ℕ, List, Some}
use Rattle.adr_call.specs.declared.call.Call.{Call}
use Rattle.adr_call.specs.declared.event.Event.{Event}
use Rattle.adr_call.specs.declared.event.Event.TheVariants.{Calls}
use Rattle.adr_schedule.specs.Commands.{event_of}
use Rattle.adr_law_recorded.specs.Typed.{IsTyped}
use Rattle.adr_law_controller.specs.Called.{Does, IsGivenCall}

-- the values of what a line says are in the ranges of their types
abbrev pub LinesAreTyped : Type 0
LinesAreTyped = (line : List ℕ) (e : Event) → event_of line ≡ Some e → IsTyped e

-- the call that a line says may be made at each moment
abbrev pub LinesSayGivenCalls : Type 0
LinesSayGivenCalls =
    (line name : List ℕ) (what : Call) (now : ℕ) → event_of line ≡ Some (Calls name what) → now < 2 ^ 64 → IsGivenCall (Does what now)
