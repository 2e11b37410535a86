-- Rings of three controllers.
use Rattle.std.specs.Prelude.{ℕ, List, [], ◌∷◌, Bool, codes}
use Rattle.adr_call.specs.declared.event.Event.{Event}
use Rattle.adr_call.specs.declared.event.Event.TheVariants as events
use Rattle.adr_call.specs.declared.event.Coming.TheVariants as comings
use Rattle.adr_call.specs.declared.event.Exchange.TheVariants as exchanges
use Rattle.adr_call.specs.declared.event.Meeting.TheVariants as meetings
use Rattle.adr_call.specs.declared.answer.Answer.{Answer}
use Rattle.adr_call.specs.declared.outcome.Outcome.TheVariants as outcomes
use Rattle.adr_model.specs.Place.{identifier}
use Rattle.adr_model.specs.World.{answer}
use Rattle.adr_test_definitions.specs.Exchanges.{a, b}
use Rattle.adr_test_definitions.specs.Stops.{new_a, new_b, add_container}

abbrev pub c : List ℕ
c = codes "C"

-- so many rounds of A, B and C
abbrev pub ring_of : ℕ → Event
ring_of rounds = events.Goes a (exchanges.Ring (b ∷ c ∷ []) rounds 10)

abbrev pub after_rounds : ℕ → Bool → Bool → Answer
after_rounds rounds directories vectors = answer (codes "ring") a (outcomes.Compared rounds directories vectors)

-- an object is added at one of three, and then rings
abbrev pub three : List ℕ → List Event → List Event
three name rings = new_a ∷ new_b ∷ events.Comes c (identifier 193) (comings.Fresh (identifier 192)) ∷ add_container name 16 (codes "x") ∷ rings

abbrev pub three_told : List ℕ → List Answer → List Answer
three_told name told =
    answer (codes "controller") a outcomes.Ok ∷ answer (codes "controller") b outcomes.Ok ∷ answer (codes "controller") c outcomes.Ok
    ∷ answer (codes "add") name (outcomes.Usn 1) ∷ told

-- a controller that is down ends the ring
abbrev pub stopped : List Event
stopped = three a (events.Meets c meetings.Stop ∷ ring_of 2 ∷ events.Meets c meetings.Start ∷ events.Meets b (meetings.Fail 2) ∷ ring_of 2 ∷ [])

abbrev pub stopped_told : List Answer
stopped_told =
    three_told a (
    answer (codes "stop") c outcomes.Ok
    ∷ answer (codes "serve") c outcomes.Down
    ∷ answer (codes "start") c outcomes.Ok
    ∷ answer (codes "fail") b outcomes.Ok
    ∷ answer (codes "deliver") b outcomes.Disk
    ∷ []
    )
