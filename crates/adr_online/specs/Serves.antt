-- What a server does over the controller on a disk.
use Rattle.std.specs.Prelude.{◌≡◌, ◌⊎◌, ◌<◌, ◌≤◌, ℕ, IfSome, IsSome, Result, Ok, Err}
use Rattle.adr_io.specs.declared.Sink.{Ghosts as SinkGhosts}
use Rattle.adr_disk.specs.Disk.{Among, LeavesOnly}
use Rattle.adr_outside.specs.declared.net.Net.{Ghosts as NetGhosts}
use Rattle.adr_outside.specs.declared.clock.Clock.{Ghosts as ClockGhosts}
use Rattle.adr_model.specs.Store.{State}
use Rattle.adr_law_journal.specs.Areas.{Found, Started}
use Rattle.adr_journal.specs.declared.keeper.Keeper.{Ghosts as KeeperGhosts}
use Rattle.adr_node.specs.Begins.{Begun, EndsUnbegun, StandsOn}
use Rattle.adr_node.specs.Seen.{Seen, of_keeper}
use Rattle.adr_node.specs.declared.ended.Unbegun.{Unbegun}
use Rattle.adr_node.specs.declared.ended.Unbegun.TheVariants as unbegun
use Rattle.adr_session.specs.Talk.{Point}
use Rattle.adr_session.specs.Told.{FindsNear}
use Rattle.adr_online.specs.declared.ended.Online.{Online}
use Rattle.adr_online.specs.declared.ended.Online.TheVariants as online
use Rattle.adr_online.specs.declared.ended.Stop.{Stop}
use Rattle.adr_online.specs.declared.ended.Stop.TheVariants as stops
use Rattle.adr_online.specs.Posts.{Post, FindsWithin}
use Rattle.adr_online.specs.Served.{Outside, IsAt, ServesAll}
use Rattle.adr_online.specs.Goes.{Server}

-- what a server has at hand
pub record Hands (D N C S : Type 0) : Type 0 where
  pub disk : D
  pub net : N
  pub clock : C
  pub sink : S

abbrev pub outside_of : {D N C S : Type 0} → NetGhosts N → ClockGhosts C → SinkGhosts S → Hands D N C S → Outside
outside_of n c k h = record { net = n.traffic h.net; clock = c.moments h.clock; lines = k.written h.sink; faults = n.lines h.net }

-- a start finds the state at a point, or the one behind the next message, where what it finds was told before
abbrev pub FallsOn : {D : Type 0} → Seen D → D → D → Point → Type 0
FallsOn d before disk x = IfSome (d.told before) (λ _. Among (FindsNear x) (d.may_leave disk))

-- ---- how it ended

-- it served so many connections from a post, or stopped
abbrev pub ServesFrom : (Found State → Type 0) → (Point → Type 0) → ℕ → Post → Online → Outside → Type 0
ServesFrom at fallen count p online.Done o = ServesAll at fallen count p (Ok tt) o
ServesFrom at fallen count p online.WriteFault o = ServesAll at fallen count p (Err stops.Write) o
ServesFrom at fallen count p online.DiskFault o = ServesAll at fallen count p (Err stops.Disk) o
ServesFrom at fallen count p online.LinkFault o = ServesAll at fallen count p (Err stops.Link) o
ServesFrom at fallen count p online.NoMemory o = ServesAll at fallen count p (Err stops.NoMemory) o
ServesFrom at fallen count p (online.Damaged place) o = ⊥
ServesFrom at fallen count p online.ClockFault o = ServesAll at fallen count p (Err stops.Clock) o

-- how a command ends that served so
abbrev pub online_of : Result Unit Stop → Online
online_of (Ok _) = online.Done
online_of (Err stops.Write) = online.WriteFault
online_of (Err stops.Disk) = online.DiskFault
online_of (Err stops.Link) = online.LinkFault
online_of (Err stops.Clock) = online.ClockFault
online_of (Err stops.NoMemory) = online.NoMemory

-- how one ends that had no controller to begin with
abbrev pub unserved : Unbegun → Online
unserved (unbegun.Damaged place) = online.Damaged place
unserved unbegun.WriteFault = online.WriteFault
unserved unbegun.DiskFault = online.DiskFault
unserved unbegun.NoMemory = online.NoMemory

-- and it used nothing of the network and the clock
abbrev pub IsUnserved : {D N C S : Type 0} → Seen D → SinkGhosts S → Started State → Hands D N C S → Hands D N C S → Online → Type 0
IsUnserved d k found old new how =
    ((why : Unbegun) × (how ≡ unserved why) × EndsUnbegun d k found old.disk new.disk old.sink new.sink why)
    × (new.net ≡ old.net) × (new.clock ≡ old.clock)

-- what was done with what a start found
abbrev pub Does : {D N C S : Type 0} → Seen D → NetGhosts N → ClockGhosts C → SinkGhosts S → ℕ → Started State → Hands D N C S → Hands D N C S → Online
    → Type 0
Does d n c k count (Ok f) old new how =
    (p : Post) → p.stands ≡ f → IsAt p (outside_of n c k old)
    → ServesFrom (StandsOn d new.disk) (FallsOn d old.disk new.disk) count p how (outside_of n c k new)
Does d n c k count (Err place) old new how = ⊥

-- what a start may find behind a crash at any moment of the command: what it might have found before, or where the node stood
-- behind some of the messages
abbrev pub LeavesSo : {D N C S : Type 0} → Seen D → NetGhosts N → ClockGhosts C → SinkGhosts S → ℕ → Started State → Hands D N C S → Hands D N C S
    → Type 0
LeavesSo d n c k count (Ok f) old new =
    (p : Post) → p.stands ≡ f → IsAt p (outside_of n c k old)
    → LeavesOnly d.moment d.left_since old.disk new.disk (λ s. d.may_leave old.disk s ⊎ FindsWithin count p s)
LeavesSo d n c k count (Err place) old new = LeavesOnly d.moment d.left_since old.disk new.disk (d.may_leave old.disk)

-- The controller on a disk is started, and serves so many connections.
pub record Serves {D N C S : Type 0} (d : Seen D) (n : NetGhosts N) (c : ClockGhosts C) (k : SinkGhosts S) (count : ℕ)
    (old new : Hands D N C S) (how : Online) : Type 0 where
  -- what the start finds, which is what the bytes of the disk are, where it tells them
  pub found : Started State
  pub is_found : IfSome (d.told old.disk) (λ t. t ≡ found)
  pub does : IsUnserved d k found old new how ⊎ Does d n c k count found old new how
  pub any_moment : IfSome (d.told old.disk) (λ _. LeavesSo d n c k count found old new)
  -- a disk that tells what a start finds goes on telling it
  pub still_told : IsSome (d.told old.disk) → IsSome (d.told new.disk)
  -- each fault comes where its count rose, and no count falls
  pub write_fault : how ≡ online.WriteFault → k.faults old.sink < k.faults new.sink
  pub disk_fault : how ≡ online.DiskFault → d.faults old.disk < d.faults new.disk
  pub link_fault : how ≡ online.LinkFault → n.doors old.net < n.doors new.net
  pub clock_fault : how ≡ online.ClockFault → c.faults old.clock < c.faults new.clock
  pub sink_later : k.faults old.sink ≤ k.faults new.sink
  pub disk_later : d.faults old.disk ≤ d.faults new.disk
  pub doors_later : n.doors old.net ≤ n.doors new.net
  pub lines_later : n.lines old.net ≤ n.lines new.net
  pub clock_later : c.faults old.clock ≤ c.faults new.clock
  -- a call of a door, of the clock or of the sink that failed has ended it so
  pub link_ends : n.doors old.net < n.doors new.net → how ≡ online.LinkFault
  pub clock_ends : c.faults old.clock < c.faults new.clock → how ≡ online.ClockFault
  pub write_ends : k.faults old.sink < k.faults new.sink → how ≡ online.WriteFault

-- from a controller, whatever keeper it was started from
abbrev pub ServesOn : {K N C S : Type 0} → KeeperGhosts K → NetGhosts N → ClockGhosts C → SinkGhosts S → ℕ → Server K N C S → K → N → C → S → Online → Type 0
ServesOn {K} k n c s count v keeper_after net clock sink how =
    (keeper : K) → Begun k keeper v.controller
    → Serves (of_keeper k) n c s count (record { disk = keeper; net = v.net; clock = v.clock; sink = v.sink })
    (record { disk = keeper_after; net = net; clock = clock; sink = sink }) how
