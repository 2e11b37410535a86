-- What a pull does over the controller on a disk.
use Rattle.std.specs.Prelude.{◌≡◌, ◌⊎◌, ◌<◌, ◌≤◌, ℕ, List, [], ◌∷◌, IfSome, IsSome, Result, Ok, Err}
use Rattle.adr_io.specs.declared.Sink.{Ghosts as SinkGhosts}
use Rattle.adr_disk.specs.Disk.{Among, LeavesOnly}
use Rattle.adr_outside.specs.declared.net.Net.{Ghosts as NetGhosts}
use Rattle.adr_model.specs.Store.{State}
use Rattle.adr_law_journal.specs.Areas.{Found, Started}
use Rattle.adr_journal.specs.declared.keeper.Keeper.{Ghosts as KeeperGhosts}
use Rattle.adr_controller.specs.Running.{Running}
use Rattle.adr_node.specs.Begins.{Begun, EndsUnbegun, StandsOn}
use Rattle.adr_node.specs.Seen.{Seen, of_keeper}
use Rattle.adr_node.specs.declared.ended.Unbegun.{Unbegun}
use Rattle.adr_node.specs.declared.ended.Unbegun.TheVariants as unbegun
use Rattle.adr_pull.specs.Fetch.{Course, Point, exchange_limit, pulled}
use Rattle.adr_pull.specs.Told.{FindsBehind, FindsNear, Goes}
use Rattle.adr_pull.specs.declared.fault.PullFault.{PullFault}
use Rattle.adr_pull.specs.declared.fault.PullFault.TheVariants as faults
use Rattle.adr_online.specs.Dialled.{FailsToOpen, HasDone, IsAt, Outside, Post, outside_of}
use Rattle.adr_online.specs.declared.ended.Pulled.{Pulled}
use Rattle.adr_online.specs.declared.ended.Pulled.TheVariants as pulls

-- what a pull has at hand
pub record Hands (D N S : Type 0) : Type 0 where
  pub disk : D
  pub net : N
  pub sink : S

-- a start finds the state at the one point or the other
abbrev pub FallsOn : {D : Type 0} → Seen D → D → Point → Point → Type 0
FallsOn d disk p q = IfSome (d.told disk) (λ _. Among (FindsNear p q) (d.may_leave disk))

-- ---- a cycle from a post, where `at` says where the node then stands, and `fallen` between which points a call of its disk failed

-- where the node stands when the connection is opened in which this comes
abbrev pub met_at : Found State → Post → List ℕ → Point
met_at f p came = record { stands = f; left = came; sent = []; written = p.written }

-- where the cycle comes to behind so many exchanges
abbrev pub goes : List ℕ → Found State → Post → List ℕ → ℕ → Course
goes name f p came n = pulled name n (met_at f p came)

-- how a cycle over a connection ended
abbrev pub as_pulled : Result Unit PullFault → Pulled
as_pulled (Ok _) = pulls.Done
as_pulled (Err faults.Write) = pulls.WriteFault
as_pulled (Err faults.Disk) = pulls.DiskFault
as_pulled (Err faults.Link) = pulls.LinkFault
as_pulled (Err faults.NoMemory) = pulls.NoMemory
as_pulled (Err faults.Refused) = pulls.Refused
as_pulled (Err faults.MoreWaiting) = pulls.MoreWaiting
as_pulled (Err faults.BadPeer) = pulls.BadPeer

-- no connection was opened, since a call of a door failed or memory was wanting: nothing was sent or written
abbrev pub IsUnconnected : (Found State → Type 0) → Found State → Post → Pulled → Outside → Type 0
IsUnconnected at f p how o =
    at f × (((how ≡ pulls.LinkFault) × FailsToOpen p o) ⊎ ((how ≡ pulls.NoMemory) × IsAt p o))

-- a cycle went over the next connection, behind which these wait; where that ended as its fault, a call failed in it
abbrev pub Cycles : (Found State → Type 0) → (Point → Point → Type 0) → Post → List (List ℕ) → (ℕ → Course) → Pulled → Outside → Type 0
Cycles at fallen p rest go how o =
    (result : Result Unit PullFault) × (how ≡ as_pulled result) × (result ≡ Err faults.Link → p.faults < o.faults)
    × Goes at fallen (HasDone p rest o) go exchange_limit result

abbrev pub PullsFrom : (Found State → Type 0) → (Point → Point → Type 0) → List ℕ → Found State → Post → Pulled → Outside → Type 0
PullsFrom at fallen name f p how o =
    IsUnconnected at f p how o
    ⊎ ((came : List ℕ) × (rest : List (List ℕ)) × (p.waiting ≡ came ∷ rest) × Cycles at fallen p rest (goes name f p came) how o)

-- ---- the command

-- how one ends that had no controller to begin with
abbrev pub unpulled : Unbegun → Pulled
unpulled (unbegun.Damaged place) = pulls.Damaged place
unpulled unbegun.WriteFault = pulls.WriteFault
unpulled unbegun.DiskFault = pulls.DiskFault
unpulled unbegun.NoMemory = pulls.NoMemory

-- and it used nothing of the network
abbrev pub IsUnpulled : {D N S : Type 0} → Seen D → SinkGhosts S → Started State → Hands D N S → Hands D N S → Pulled → Type 0
IsUnpulled d k found old new how =
    ((why : Unbegun) × (how ≡ unpulled why) × EndsUnbegun d k found old.disk new.disk old.sink new.sink why) × (new.net ≡ old.net)

-- what was done with what a start found
abbrev pub Does : {D N S : Type 0} → Seen D → NetGhosts N → SinkGhosts S → List ℕ → Started State → Hands D N S → Hands D N S → Pulled → Type 0
Does d n k name (Ok f) old new how =
    (p : Post) → IsAt p (outside_of n k old.net old.sink)
    → PullsFrom (StandsOn d new.disk) (FallsOn d new.disk) name f p how (outside_of n k new.net new.sink)
Does d n k name (Err place) old new how = ⊥

-- where the node stands behind some of the exchanges
abbrev pub FindsPulled : List ℕ → Found State → Post → Started State → Type 0
FindsPulled name f p s =
    (came : List ℕ) × (rest : List (List ℕ)) × (p.waiting ≡ came ∷ rest) × FindsBehind (goes name f p came) exchange_limit s

-- what a start may find behind a crash at any moment of the command: what it might have found before, or where the node stood
-- behind some of the replies
abbrev pub LeavesSo : {D N S : Type 0} → Seen D → NetGhosts N → SinkGhosts S → List ℕ → Started State → Hands D N S → Hands D N S → Type 0
LeavesSo d n k name (Ok f) old new =
    (p : Post) → IsAt p (outside_of n k old.net old.sink)
    → LeavesOnly d.moment d.left_since old.disk new.disk (λ s. d.may_leave old.disk s ⊎ FindsPulled name f p s)
LeavesSo d n k name (Err place) old new = LeavesOnly d.moment d.left_since old.disk new.disk (d.may_leave old.disk)

-- The controller on a disk is started, and pulls a cycle.
pub record Pulls {D N S : Type 0} (d : Seen D) (n : NetGhosts N) (k : SinkGhosts S) (name : List ℕ) (old new : Hands D N S)
    (how : Pulled) : Type 0 where
  -- what the start finds, which is what the bytes of the disk are, where it tells them
  pub found : Started State
  pub is_found : IfSome (d.told old.disk) (λ t. t ≡ found)
  pub does : IsUnpulled d k found old new how ⊎ Does d n k name found old new how
  pub any_moment : IfSome (d.told old.disk) (λ _. LeavesSo d n k name found old new)
  -- a disk that tells what a start finds goes on telling it
  pub still_told : IsSome (d.told old.disk) → IsSome (d.told new.disk)
  -- each fault comes where its count rose, and no count falls
  pub write_fault : how ≡ pulls.WriteFault → k.faults old.sink < k.faults new.sink
  pub disk_fault : how ≡ pulls.DiskFault → d.faults old.disk < d.faults new.disk
  pub link_fault : how ≡ pulls.LinkFault → (n.doors old.net < n.doors new.net) ⊎ (n.lines old.net < n.lines new.net)
  pub sink_later : k.faults old.sink ≤ k.faults new.sink
  pub disk_later : d.faults old.disk ≤ d.faults new.disk
  pub doors_later : n.doors old.net ≤ n.doors new.net
  pub lines_later : n.lines old.net ≤ n.lines new.net
  -- and no call of the network failed where it ended otherwise
  pub doors_only : (how ≡ pulls.LinkFault → ⊥) → n.doors new.net ≡ n.doors old.net
  pub lines_only : (how ≡ pulls.LinkFault → ⊥) → n.lines new.net ≡ n.lines old.net

-- into a controller, whatever keeper it was started from
abbrev pub PullsOn : {K N S : Type 0} → KeeperGhosts K → NetGhosts N → SinkGhosts S → List ℕ → Running K → K → N → N → S → S → Pulled → Type 0
PullsOn {K} k n s name c keeper_after net net_after sink sink_after how =
    (keeper : K) → Begun k keeper c
    → Pulls (of_keeper k) n s name (record { disk = keeper; net = net; sink = sink })
    (record { disk = keeper_after; net = net_after; sink = sink_after }) how
