-- What a client's line says may be done.
use Rattle.std.proofs.Common.{◌≡◌, List, ℕ, Option, Some, None, IfSome}
use Rattle.std.specs.Option.{option_and_then}
use Rattle.adr_call.specs.declared.event.Event.{Event}
use Rattle.adr_call.specs.declared.event.Event.TheVariants as events
use Rattle.adr_schedule.specs.Commands.{event_of}
use Rattle.adr_session.specs.Said.{LinesSayGivenCalls}
use Rattle.adr_session.specs.Lines.{IsAlwaysGiven, call_of, named}

calls_given : LinesSayGivenCalls → (line : List ℕ) (e : Event) → event_of line ≡ Some e → IfSome (call_of e) IsAlwaysGiven
calls_given law line (events.Calls name what) is = λ now small. law line name what now is small
calls_given law line _ is = tt

pub said_given : LinesSayGivenCalls → (o : Option (List ℕ × List ℕ)) (e : Event) → option_and_then (λ w. event_of (named w)) o ≡ Some e → IfSome (call_of e) IsAlwaysGiven
said_given law None e is = absurd (cc is)
said_given law (Some w) e is = calls_given law (named w) e is
