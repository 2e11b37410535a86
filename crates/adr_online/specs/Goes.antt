-- What a server comes to, and what of it is counted.
use Rattle.std.specs.Prelude.{◌≡◌, ◌⊎◌, ◌<◌, ◌≤◌, ℕ, List, [], Some, Result, IfErr, IfOk, IfSome, IsErrOf, IsSome, OnErr}
use Rattle.std.specs.Option.{option_map}
use Rattle.adr_io.specs.declared.Sink.{Ghosts as SinkGhosts}
use Rattle.adr_disk.specs.Disk.{LeavesOnly}
use Rattle.adr_outside.specs.Traffic.{hung_up, open_line}
use Rattle.adr_outside.specs.declared.net.Net.{Ghosts as NetGhosts}
use Rattle.adr_outside.specs.declared.clock.Clock.{Ghosts as ClockGhosts}
use Rattle.adr_model.specs.Store.{State}
use Rattle.adr_law_journal.specs.Areas.{Started}
use Rattle.adr_journal.specs.declared.keeper.Keeper.{Ghosts as KeeperGhosts}
use Rattle.adr_controller.specs.Running.{Running}
use Rattle.adr_law_controller.specs.Keeping.{Stands}
use Rattle.adr_session.specs.Told.{FindsBehind}
use Rattle.adr_session.specs.declared.ending.Served.{Served}
use Rattle.adr_online.specs.declared.ended.Stop.{Stop}
use Rattle.adr_online.specs.declared.ended.Stop.TheVariants as stops
use Rattle.adr_online.specs.Posts.{Post, Fails, FindsFrom, FindsWithin, done, opened}
use Rattle.adr_online.specs.Served.{AnswersAll, HasFallen, IsAt, Outside, ServesAll, ServesNext}

-- a server: its controller, its network, its clock, and where its lines go
pub record Server (K N C S : Type 0) : Type 0 where
  pub controller : Running K
  pub net : N
  pub clock : C
  pub sink : S

abbrev pub outside : {K N C S : Type 0} → NetGhosts N → ClockGhosts C → SinkGhosts S → Server K N C S → Outside
outside n c s v = record { net = n.traffic v.net; clock = c.moments v.clock; lines = s.written v.sink; faults = n.lines v.net }

-- a call of a door: where it fails, a connection that was open still is, or was hung up
pub record CallsDoor {N : Type 0} (n : NetGhosts N) (old new : N) (r : Result Unit Stop) : Type 0 where
  pub only : IfErr r (λ stop. (stop ≡ stops.Link) ⊎ (stop ≡ stops.NoMemory))
  pub stays : IsErrOf r stops.NoMemory → n.traffic new ≡ n.traffic old
  pub hangs : IsErrOf r stops.Link → (n.traffic new ≡ n.traffic old) ⊎ (n.traffic new ≡ option_map hung_up (n.traffic old))
  pub link : IsErrOf r stops.Link → n.doors old < n.doors new
  pub link_ends : n.doors old < n.doors new → IsErrOf r stops.Link
  pub doors_later : n.doors old ≤ n.doors new
  pub lines : n.lines new ≡ n.lines old

-- the open connection was answered and hung up
pub record Answers {K N C : Type 0} (k : KeeperGhosts K) (n : NetGhosts N) (c : ClockGhosts C) (old new : Running K) (net net_after : N)
    (clock_before clock_after : C) (r : Result Served Stop) : Type 0 where
  pub up : IfOk r (λ _. IsSome new.state)
  pub answers :
      (p : Post) (came : List ℕ) (rest : List (List ℕ)) → Stands k p.stands old
      → n.traffic net ≡ Some (open_line rest (done p) came []) → c.moments clock_before ≡ Some p.moments
      → AnswersAll k old.keeper p came rest r new (n.traffic net_after) (c.moments clock_after)
  pub any_moment :
      (p : Post) (came : List ℕ) (rest : List (List ℕ)) → Stands k p.stands old
      → n.traffic net ≡ Some (open_line rest (done p) came []) → c.moments clock_before ≡ Some p.moments
      → IfSome (k.told old.keeper) (λ _.
      LeavesOnly k.moment k.left_since old.keeper new.keeper (FindsBehind (opened p came)))
  pub only : IfErr r (λ stop. (stop ≡ stops.Disk) ⊎ ((stop ≡ stops.Clock) ⊎ (stop ≡ stops.NoMemory)))
  pub told : IsSome (k.told old.keeper) → IsSome (k.told new.keeper)
  pub disk : IsErrOf r stops.Disk → k.faults old.keeper < k.faults new.keeper
  pub disk_later : k.faults old.keeper ≤ k.faults new.keeper
  pub clock : IsErrOf r stops.Clock → c.faults clock_before < c.faults clock_after
  pub clock_ends : c.faults clock_before < c.faults clock_after → IsErrOf r stops.Clock
  pub clock_later : c.faults clock_before ≤ c.faults clock_after
  -- a call failed in the connection only where that ended it
  pub fails : IfOk r (λ s. Fails s.end (n.lines net) (n.lines net_after))
  pub no_fault : OnErr r (n.lines net_after ≡ n.lines net)
  pub lines_later : n.lines net ≤ n.lines net_after
  pub doors : n.doors net_after ≡ n.doors net

-- From wherever a server stands, as far as that is told, it comes to this, and behind a crash at any moment a start finds that.
pub record Goes {K N C S : Type 0} (k : KeeperGhosts K) (n : NetGhosts N) (c : ClockGhosts C) (s : SinkGhosts S)
    (comes : Post → Outside → Type 0) (finds : Post → Started State → Type 0) (old new : Server K N C S) (r : Result Unit Stop)
    : Type 0 where
  -- where it didn't stop, it can go on
  pub up : IfOk r (λ _. IsSome new.controller.state)
  pub serves : (p : Post) → Stands k p.stands old.controller → IsAt p (outside n c s old) → comes p (outside n c s new)
  pub any_moment :
      (p : Post) → Stands k p.stands old.controller → IsAt p (outside n c s old)
      → IfSome (k.told old.controller.keeper) (λ _.
      LeavesOnly k.moment k.left_since old.controller.keeper new.controller.keeper (finds p))
  pub told : IsSome (k.told old.controller.keeper) → IsSome (k.told new.controller.keeper)
  -- each fault comes where its count rose, and no count falls
  pub disk : IsErrOf r stops.Disk → k.faults old.controller.keeper < k.faults new.controller.keeper
  pub disk_later : k.faults old.controller.keeper ≤ k.faults new.controller.keeper
  pub link : IsErrOf r stops.Link → n.doors old.net < n.doors new.net
  pub doors_later : n.doors old.net ≤ n.doors new.net
  pub lines_later : n.lines old.net ≤ n.lines new.net
  pub clock : IsErrOf r stops.Clock → c.faults old.clock < c.faults new.clock
  pub clock_later : c.faults old.clock ≤ c.faults new.clock
  pub write : IsErrOf r stops.Write → s.faults old.sink < s.faults new.sink
  pub sink_later : s.faults old.sink ≤ s.faults new.sink
  -- a call of a door, of the clock or of the sink that failed has ended it so
  pub link_ends : n.doors old.net < n.doors new.net → IsErrOf r stops.Link
  pub clock_ends : c.faults old.clock < c.faults new.clock → IsErrOf r stops.Clock
  pub write_ends : s.faults old.sink < s.faults new.sink → IsErrOf r stops.Write

-- the connection of this number is served
abbrev pub ServesOne :
    {K N C S : Type 0} → KeeperGhosts K → NetGhosts N → ClockGhosts C → SinkGhosts S → ℕ → Server K N C S → Server K N C S
    → Result Unit Stop → Type 0
ServesOne k n c s number old new r =
    Goes k n c s (λ p o. ServesNext (λ f. Stands k f new.controller) (λ x. HasFallen k old.controller.keeper x new.controller) number p r o)
    FindsFrom old new r

-- so many connections are
abbrev pub ServesSo :
    {K N C S : Type 0} → KeeperGhosts K → NetGhosts N → ClockGhosts C → SinkGhosts S → ℕ → Server K N C S → Server K N C S
    → Result Unit Stop → Type 0
ServesSo k n c s count old new r =
    Goes k n c s (λ p o. ServesAll (λ f. Stands k f new.controller) (λ x. HasFallen k old.controller.keeper x new.controller) count p r o)
    (FindsWithin count) old new r
