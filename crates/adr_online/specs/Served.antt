-- What is told of a server: where its node, its network, its clock and its lines stand.
use Rattle.std.specs.Prelude.{◌≡◌, ◌⊎◌, ℕ, suc, ◌<◌, List, [], ◌∷◌, ◌++◌, take, Option, Some, None, IfSome, Result, Ok, Err}
use Rattle.adr_io.specs.declared.Fault.{Fault}
use Rattle.adr_io.specs.declared.Fault.TheVariants as io
use Rattle.adr_disk.specs.Disk.{Among}
use Rattle.adr_model.specs.Store.{State}
use Rattle.adr_law_journal.specs.Areas.{Found}
use Rattle.adr_journal.specs.declared.keeper.Keeper.{Ghosts as KeeperGhosts}
use Rattle.adr_controller.specs.Running.{Running}
use Rattle.adr_outside.specs.Traffic.{Traffic, closed, hung_up}
use Rattle.adr_session.specs.Talk.{Point, Reaches, message_limit}
use Rattle.adr_law_controller.specs.Keeping.{Stands}
use Rattle.adr_session.specs.Told.{FindsNear, IsAtMoment, IsNear, IsTimedBehind, IsTimedNear}
use Rattle.adr_session.specs.declared.ending.Served.{Served}
use Rattle.adr_session.specs.declared.ending.ServeFault.{ServeFault}
use Rattle.adr_session.specs.declared.ending.ServeFault.TheVariants as faults
use Rattle.adr_online.specs.declared.ended.Stop.{Stop}
use Rattle.adr_online.specs.declared.ended.Stop.TheVariants as stops
use Rattle.adr_online.specs.Posts.{Post, Behind, Comes, Connects, done, opened}

-- what is told of a network and a clock, and of the lines that were written, and how many calls have failed in connections
pub record Outside : Type 0 where
  pub net : Option Traffic
  pub clock : Option (List ℕ)
  pub lines : Option (List ℕ)
  pub faults : ℕ

-- a call of the disk failed at a point: no state is in memory, and a start finds the one there, or the one behind the next message,
-- where the keeper told before what one finds
abbrev pub HasFallen : {K : Type 0} → KeeperGhosts K → K → Point → Running K → Type 0
HasFallen k before x c = (c.state ≡ None) × IfSome (k.told before) (λ _. Among (FindsNear x) (k.may_leave c.keeper))

-- all outside is where the post says
pub record IsAt (p : Post) (o : Outside) : Type 0 where
  pub net : o.net ≡ Some p.net
  pub clock : o.clock ≡ Some p.moments
  pub lines : o.lines ≡ Some p.written
  pub faults : o.faults ≡ p.faults

-- between one post and the next: the connection was served, and a front of its line was written
pub record IsTelling (p q : Post) (o : Outside) : Type 0 where
  pub net : o.net ≡ Some q.net
  pub clock : o.clock ≡ Some q.moments
  pub faults : o.faults ≡ q.faults
  pub line : List ℕ
  pub whole : q.written ≡ p.written ++ line
  pub count : ℕ
  pub lines : o.lines ≡ Some (p.written ++ take count line)

-- the connection in which this came was hung up at the point x, behind fewer messages than it may have, whose answers were sent in it
abbrev pub HangsUp : Post → List ℕ → List (List ℕ) → ℕ → Point → Option Traffic → Type 0
HangsUp p came rest n x net =
    (n < message_limit) × Reaches n (opened p came) x × (net ≡ Some (closed rest (done p ++ x.sent ∷ [])))

-- the next connection was hung up so, no call failed in it, and no line was written
pub record IsHungUp (p : Post) (x : Point) (o : Outside) : Type 0 where
  pub came : List ℕ
  pub rest : List (List ℕ)
  pub opens : p.net.waiting ≡ came ∷ rest
  pub count : ℕ
  pub hangs : HangsUp p came rest count x o.net
  pub lines : o.lines ≡ Some p.written
  pub faults : o.faults ≡ p.faults

-- The connection in which this came was answered to its end, and hung up. Or the node can't go on: the next message was not answered,
-- and it was hung up then.
abbrev pub AnswersAll :
    {K : Type 0} → KeeperGhosts K → K → Post → List ℕ → List (List ℕ) → Result Served Stop → Running K → Option Traffic → Option (List ℕ)
    → Type 0
AnswersAll k before p came rest (Ok s) c net clock =
    (r : Point) × (sent : List ℕ) × Comes (opened p came) s.messages s.end r sent × Stands k r.stands c
    × (net ≡ Some (closed rest (done p ++ sent ∷ []))) × (clock ≡ Some r.moments)
AnswersAll k before p came rest (Err stops.Disk) c net clock =
    (x : Point) × (n : ℕ) × HangsUp p came rest n x net × HasFallen k before x c × IsTimedBehind x clock
AnswersAll k before p came rest (Err stops.Clock) c net clock =
    (x : Point) × (n : ℕ) × HangsUp p came rest n x net × IsAtMoment x × Stands k x.stands c × (clock ≡ Some x.moments)
AnswersAll k before p came rest (Err stops.NoMemory) c net clock =
    (x : Point) × (n : ℕ) × HangsUp p came rest n x net × IsTimedNear x clock × ((y : Point) × IsNear x y × Stands k y.stands c)
AnswersAll k before p came rest (Err stops.Write) c net clock = ⊥
AnswersAll k before p came rest (Err stops.Link) c net clock = ⊥

-- what a call of a door comes to
abbrev pub called : Result Unit Fault → Result Unit Stop
called (Ok u) = Ok u
called (Err io.Failed) = Err stops.Link
called (Err io.NoMemory) = Err stops.NoMemory

-- how it ended once it was hung up, or why the server stops
abbrev pub stopped : Result Served ServeFault → Result Served Stop
stopped (Ok s) = Ok s
stopped (Err faults.Disk) = Err stops.Disk
stopped (Err faults.Clock) = Err stops.Clock
stopped (Err faults.NoMemory) = Err stops.NoMemory

-- ---- how it ended, where `at` says where the node then stands, and `fallen` at which point a call of its disk failed

-- no connection was opened, and one that was open still is, or was hung up
abbrev pub IsUnopened : Post → Outside → Type 0
IsUnopened p o = IsAt p o ⊎ IsAt (record p { net = hung_up p.net }) o

-- why the connection of this number wasn't served, or not its line written
abbrev pub StopsAt : (Found State → Type 0) → (Point → Type 0) → ℕ → Post → Stop → Outside → Type 0
StopsAt at fallen number p stops.Link o = at p.stands × IsUnopened p o
StopsAt at fallen number p stops.Write o = (q : Post) × Connects number p q × at q.stands × IsTelling p q o
StopsAt at fallen number p stops.Disk o = (x : Point) × IsHungUp p x o × fallen x × IsTimedBehind x o.clock
StopsAt at fallen number p stops.Clock o = (x : Point) × IsHungUp p x o × IsAtMoment x × at x.stands × (o.clock ≡ Some x.moments)
StopsAt at fallen number p stops.NoMemory o =
    (at p.stands × IsAt p o)
    ⊎ (((x : Point) × (y : Point) × IsHungUp p x o × IsTimedNear x o.clock × IsNear x y × at y.stands)
    ⊎ ((q : Post) × Connects number p q × at q.stands × IsAt (record q { written = p.written }) o))

-- the next connection
abbrev pub ServesNext : (Found State → Type 0) → (Point → Type 0) → ℕ → Post → Result Unit Stop → Outside → Type 0
ServesNext at fallen number p (Ok _) o = (q : Post) × Connects number p q × at q.stands × IsAt q o
ServesNext at fallen number p (Err stop) o = StopsAt at fallen number p stop o

-- so many connections: all were served, or all before one
abbrev pub ServesAll : (Found State → Type 0) → (Point → Type 0) → ℕ → Post → Result Unit Stop → Outside → Type 0
ServesAll at fallen count p (Ok _) o = (q : Post) × Behind count p q × at q.stands × IsAt q o
ServesAll at fallen count p (Err stop) o =
    (n : ℕ) × (q : Post) × ((n < count) ⊎ (n ≡ 0)) × Behind n p q × StopsAt at fallen (suc n) q stop o
