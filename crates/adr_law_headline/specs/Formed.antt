-- Every state of every run is what a log may lead to, whatever was taken, and also behind a rollback.
use Rattle.std.specs.Prelude.{ℕ, List}
use Rattle.adr_call.specs.declared.event.Event.{Event}
use Rattle.adr_call.specs.declared.event.Event.TheVariants as events
use Rattle.adr_call.specs.declared.event.Made.TheVariants as mades
use Rattle.adr_call.specs.declared.event.Exchange.{Exchange}
use Rattle.adr_call.specs.declared.event.Exchange.TheVariants as exchanges
use Rattle.adr_wire.specs.Ranges.{IsU32, IsU64}
use Rattle.adr_records.specs.Logged.{IsLogged}
use Rattle.adr_model.specs.Member.{Each}
use Rattle.adr_model.specs.World.{World, empty_world}
use Rattle.adr_model.specs.Convergence.{MayAllHappen}
use Rattle.adr_law_recorded.specs.Typed.{IsTyped}
use Rattle.adr_law_headline.specs.Throughout.{HoldsAlways}

-- how many items controllers that pull ask for
abbrev pub most_pulled : Exchange → ℕ
most_pulled (exchanges.Pull source max) = max
most_pulled (exchanges.Cycle source max) = max
most_pulled (exchanges.Ring others rounds max) = max

-- the numbers of an event that come into states and messages are those of its types
abbrev pub HasTypedNumbers : Event → Type 0
HasTypedNumbers (events.Time now) = IsU64 now
HasTypedNumbers (events.Binds name (mades.Ask partner max version) bind) = IsU32 max
HasTypedNumbers (events.Goes name what) = IsU32 (most_pulled what)
HasTypedNumbers e = Unit {0}

-- what the types of each of the events say
abbrev pub AreAllTyped : List Event → Type 0
AreAllTyped es = Each (λ e. IsTyped e × HasTypedNumbers e) es

-- both states of each controller are those of a log: what a start would find, and what a crash would leave. Each is formed, its
-- identifiers have sixteen bytes, every field is in the range of an image's, and the classes of its objects are known
abbrev pub AreFormed : World → Type 0
AreFormed w = Each (λ r. IsLogged r.safe × IsLogged r.read) w.replicas

-- at every place of a run and on the way of each line, whether or not a database was put back
abbrev pub AreFormedThroughout : List Event → Type 0
AreFormedThroughout es = HoldsAlways es AreFormed

abbrev pub RunsAreFormed : Type 0
RunsAreFormed = (es : List Event) → MayAllHappen empty_world es → AreAllTyped es → AreFormedThroughout es
