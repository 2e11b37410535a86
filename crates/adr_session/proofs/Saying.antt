-- What a line says, some line spells; so it is typed, and its values are given as a client's are.
use Rattle.std.proofs.Common.{◌≡◌, ℕ, List, Some}
use Rattle.adr_call.specs.declared.event.Event.{Event}
use Rattle.adr_call.specs.declared.event.Event.TheVariants.{Calls}
use Rattle.adr_schedule.specs.Commands.{event_of}
use Rattle.adr_schedule.specs.Grammar.{IsAllowed}
use Rattle.adr_schedule.proofs.AllowedLaws.{spelled_allowed}
use Rattle.adr_schedule.proofs.EventLaws.{lines_spelled}
use Rattle.adr_law_lines.proofs.Asking.{well_asked}
use Rattle.adr_law_lines.proofs.Typing.{event_typed}
use Rattle.adr_session.specs.Said.{LinesAreTyped, LinesSayGivenCalls}

said_allowed : (line : List ℕ) (e : Event) → event_of line ≡ Some e → IsAllowed e
said_allowed line e is = spelled_allowed line e (lines_spelled line e is)

pub lines_typed : LinesAreTyped
lines_typed line e is = event_typed e (said_allowed line e is)

pub lines_given : LinesSayGivenCalls
lines_given line name what now is small =
    let allowed = said_allowed line (Calls name what) is in (well_asked what allowed.0, lines_typed line (Calls name what) is, small)
