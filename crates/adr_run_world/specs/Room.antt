-- How much room is made for the lines of answers, before the calls of a turn.
use Rattle.std.specs.Prelude.{ℕ, List, ◌+◌, length}
use Rattle.adr_call.specs.declared.event.Event.{Event}
use Rattle.adr_call.specs.declared.event.Event.TheVariants as events
use Rattle.adr_call.specs.declared.event.Exchange.{Exchange}
use Rattle.adr_call.specs.declared.event.Exchange.TheVariants as exchanges
use Rattle.adr_call.specs.Verbs.{name_of}

-- the names that the answers to pulls may have; for a ring's no room is made
abbrev pub parties_room : List ℕ → Exchange → ℕ
parties_room name (exchanges.Pull source max) = length name + length source
parties_room name (exchanges.Cycle source max) = length name + length source
parties_room name (exchanges.Ring others rounds max) = 0

-- the names that its answers may have; a `time` has no answer
abbrev pub names_room : Event → ℕ
names_room (events.Time now) = 0
names_room (events.Goes name what) = parties_room name what
names_room e = length (name_of e)

-- and what stands around and behind a name, where the answer is no report
abbrev pub room_beside : ℕ
room_beside = 450
