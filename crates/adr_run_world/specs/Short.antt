-- What is left of a line, or of one of its turns, that wanted memory.
use Rattle.std.specs.Prelude.{◌≡◌, ◌≢◌, ◌⊎◌, Some}
use Rattle.adr_call.specs.declared.event.Event.{Event}
use Rattle.adr_call.specs.declared.event.Event.TheVariants as events
use Rattle.adr_call.specs.declared.event.Exchange.TheVariants as exchanges
use Rattle.adr_call.specs.declared.event.Meeting.TheVariants as meetings
use Rattle.adr_model.specs.Replica.{Replica, Up}
use Rattle.adr_model.specs.World.{World, replica_at}
use Rattle.adr_model.specs.Convergence.{IsOnTheWay}
use Rattle.adr_run_replica.specs.Led.{synced}

-- of a start the sync stands that it begins with, and of a ring some of its pulls are done
abbrev pub IsMidway : World → Event → World → Type 0
IsMidway w (events.Meets name meetings.Start) v = (r : Replica) × (replica_at w name ≡ Some r) × (r.standing ≢ Up) × (v ≡ synced w r)
IsMidway w (events.Goes first (exchanges.Ring others rounds max)) v = IsOnTheWay w (events.Goes first (exchanges.Ring others rounds max)) v
IsMidway w e v = ⊥

-- nothing is done, but for that
abbrev pub IsCutShort : World → Event → World → Type 0
IsCutShort w e v = (v ≡ w) ⊎ IsMidway w e v
