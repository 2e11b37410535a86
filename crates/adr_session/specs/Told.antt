-- What calls tell of a session: where the node, its connection and its clock stand.
use Rattle.std.specs.Prelude.{◌≡◌, ◌⊎◌, ◌<◌, ◌≤◌, ℕ, true, List, ◌++◌, take, Option, Some, None, Result, Ok, Err}
use Rattle.adr_disk.specs.Disk.{Among}
use Rattle.adr_model.specs.Store.{State}
use Rattle.adr_law_journal.specs.Areas.{Found, Started}
use Rattle.adr_law_journal.specs.Kept.{FindsState}
use Rattle.adr_journal.specs.declared.keeper.Keeper.{Ghosts}
use Rattle.adr_controller.specs.Running.{Running}
use Rattle.adr_law_controller.specs.Keeping.{Stands}
use Rattle.adr_outside.specs.Traffic.{IsShort, Traffic}
use Rattle.adr_frames.specs.Frames.{IsFrame, next_in}
use Rattle.adr_session.specs.declared.ending.End.{End}
use Rattle.adr_session.specs.declared.ending.End.TheVariants as ended
use Rattle.adr_session.specs.declared.ending.Served.{Served}
use Rattle.adr_session.specs.declared.ending.ServeFault.{ServeFault}
use Rattle.adr_session.specs.declared.ending.ServeFault.TheVariants as faults
use Rattle.adr_session.specs.Talk.{Said, said_in, takes_moment, Point, Goes, Stops, Ends, Hung, Malformed, Limit, Reaction, Sends, Leaves, turn, talk, Reaches, message_limit}

-- ---- the node alone

-- a frame was answered so, or nothing was: it is none of a client
abbrev pub ReactsTo :
    {K V : Type 0} → (V → List ℕ) → Ghosts K → Found State → List ℕ → Option V → Reaction → Running K → Option (List ℕ)
    → Type 0
ReactsTo items k f moments (Some v) (Sends a rest) c clock = (items v ≡ a.1) × Stands k a.0 c × (clock ≡ Some rest)
ReactsTo items k f moments (Some v) (Leaves ends) c clock = ⊥
ReactsTo items k f moments None (Sends a rest) c clock = ⊥
ReactsTo items k f moments None (Leaves ends) c clock = (ends ≡ Malformed) × Stands k f c × (clock ≡ Some moments)

-- it stands where it stood, or behind the answer
abbrev pub StandsNear : {K : Type 0} → Ghosts K → Found State → Reaction → Running K → Type 0
StandsNear k f (Sends a rest) c = Stands k f c ⊎ Stands k a.0 c
StandsNear k f (Leaves ends) c = Stands k f c

-- the clock stands behind the answer to a frame
abbrev pub IsTimed : Reaction → Option (List ℕ) → Type 0
IsTimed (Sends a rest) clock = clock ≡ Some rest
IsTimed (Leaves ends) clock = ⊥

-- What a frame comes to: behind a fault of the disk no state is in memory, and the frame had taken its moment. Behind one of the clock
-- nothing has changed.
abbrev pub ReactsSo :
    {K V : Type 0} → (V → List ℕ) → Ghosts K → Found State → List ℕ → Reaction → Result (Option V) ServeFault → Running K
    → Option (List ℕ) → Type 0
ReactsSo items k f moments r (Ok o) c clock = ReactsTo items k f moments o r c clock
ReactsSo items k f moments r (Err faults.Disk) c clock = (c.state ≡ None) × IsTimed r clock
ReactsSo items k f moments r (Err faults.Clock) c clock = Stands k f c × (clock ≡ Some moments)
ReactsSo items k f moments r (Err faults.NoMemory) c clock = StandsNear k f r c × ((clock ≡ Some moments) ⊎ IsTimed r clock)

-- a start finds the state before the frame, or the one behind its answer
abbrev pub FindsOneOf : Found State → Reaction → Started State → Type 0
FindsOneOf f (Sends a rest) s = FindsState f.state s ⊎ FindsState a.0.state s
FindsOneOf f (Leaves ends) s = FindsState f.state s

-- the bytes of a frame say what takes a moment: a line or a request
abbrev pub TakesAMoment : List ℕ → Type 0
TakesAMoment bytes = (said : Said) × (said_in bytes ≡ Some said) × (takes_moment said ≡ true)

-- ---- the node, its connection and its clock

-- all stand at the point
pub record IsAt {K : Type 0} (k : Ghosts K) (t : Traffic) (p : Point) (c : Running K) (traffic : Option Traffic) (moments : Option (List ℕ))
    : Type 0 where
  pub stands : Stands k p.stands c
  pub net : traffic ≡ Some (record t { left = p.left; sent = p.sent })
  pub clock : moments ≡ Some p.moments

-- so much was sent, and what is left may be any part of what came
abbrev pub HasSent : Traffic → List ℕ → Option Traffic → Type 0
HasSent t sent traffic = (left : List ℕ) × (traffic ≡ Some (record t { left = left; sent = sent }))

-- all stand at the point, but for what is left
pub record IsBehind {K : Type 0} (k : Ghosts K) (t : Traffic) (p : Point) (c : Running K) (traffic : Option Traffic) (moments : Option (List ℕ))
    : Type 0 where
  pub stands : Stands k p.stands c
  pub net : HasSent t p.sent traffic
  pub clock : moments ≡ Some p.moments

-- a point, or the one behind the message that comes next there
abbrev pub IsNear : Point → Point → Type 0
IsNear p q = (q ≡ p) ⊎ (turn p ≡ Goes q)

-- the clock stands behind the message that comes next at a point
abbrev pub IsTimedBehind : Point → Option (List ℕ) → Type 0
IsTimedBehind p moments = (q : Point) × (turn p ≡ Goes q) × (moments ≡ Some q.moments)

-- the clock stands at a point, or behind the message that comes next there
abbrev pub IsTimedNear : Point → Option (List ℕ) → Type 0
IsTimedNear p moments = (moments ≡ Some p.moments) ⊎ IsTimedBehind p moments

-- a fault of the line came at p: the node stands there, or behind the next message, of whose frame a front was sent, not all
pub record IsCutOff {K : Type 0} (k : Ghosts K) (t : Traffic) (p q : Point) (c : Running K) (traffic : Option Traffic) (moments : Option (List ℕ))
    : Type 0 where
  pub near : IsNear p q
  pub stands : Stands k q.stands c
  pub due : List ℕ
  pub whole : q.sent ≡ p.sent ++ due
  pub count : ℕ
  pub short : IsShort count due
  pub net : HasSent t (p.sent ++ take count due) traffic
  pub clock : moments ≡ Some q.moments

-- memory was wanting at p: the node stands there, or behind the next message, of whose frame nothing was sent
pub record IsWanting {K : Type 0} (k : Ghosts K) (t : Traffic) (p q : Point) (c : Running K) (traffic : Option Traffic) (moments : Option (List ℕ))
    : Type 0 where
  pub near : IsNear p q
  pub stands : Stands k q.stands c
  pub net : HasSent t p.sent traffic
  pub clock : IsTimedNear p moments

-- a call of the disk failed at p for the next message, which had taken its moment: no state is in memory, and nothing was sent of its
-- frame
pub record HasFailed {K : Type 0} (k : Ghosts K) (t : Traffic) (p : Point) (c : Running K) (traffic : Option Traffic) (moments : Option (List ℕ))
    : Type 0 where
  pub state : c.state ≡ None
  pub net : HasSent t p.sent traffic
  pub clock : IsTimedBehind p moments

-- a frame of these bytes was heard at the point, and nothing was done with it yet
pub record HasHeard {K : Type 0} (k : Ghosts K) (t : Traffic) (p : Point) (bytes : List ℕ) (c : Running K) (traffic : Option Traffic) (moments : Option (List ℕ))
    : Type 0 where
  pub rest : List ℕ
  pub next : next_in p.left ≡ IsFrame bytes rest
  pub stands : Stands k p.stands c
  pub net : traffic ≡ Some (record t { left = rest; sent = p.sent })
  pub clock : moments ≡ Some p.moments

-- the next message at a point is a line or a request
abbrev pub IsAtMoment : Point → Type 0
IsAtMoment p = (bytes rest : List ℕ) × (next_in p.left ≡ IsFrame bytes rest) × TakesAMoment bytes

-- ---- one message, from a point

-- the connection has ended so
abbrev pub EndsSo : {K : Type 0} → Ghosts K → Traffic → Point → End → Running K → Option Traffic → Option (List ℕ) → Type 0
EndsSo k t p ended.Hung c net moments = (turn p ≡ Stops Hung) × IsBehind k t p c net moments
EndsSo k t p ended.Malformed c net moments = (turn p ≡ Stops Malformed) × IsBehind k t p c net moments
EndsSo k t p ended.Fault c net moments = (q : Point) × IsCutOff k t p q c net moments
EndsSo k t p ended.Limit c net moments = ⊥

-- a message was answered, or the connection has ended, or the node can't go on
abbrev pub TakesTurn :
    {K : Type 0} → Ghosts K → Traffic → Point → Result (Option End) ServeFault → Running K → Option Traffic → Option (List ℕ)
    → Type 0
TakesTurn k t p (Ok None) c net moments = (q : Point) × (turn p ≡ Goes q) × IsAt k t q c net moments
TakesTurn k t p (Ok (Some end)) c net moments = EndsSo k t p end c net moments
TakesTurn k t p (Err faults.Disk) c net moments = HasFailed k t p c net moments
TakesTurn k t p (Err faults.Clock) c net moments = IsAtMoment p × IsBehind k t p c net moments
TakesTurn k t p (Err faults.NoMemory) c net moments = (q : Point) × IsWanting k t p q c net moments

-- a start finds where the node stands at a point, or behind the message that comes next
abbrev pub FindsNear : Point → Started State → Type 0
FindsNear p s = (q : Point) × IsNear p q × FindsState q.stands.state s

-- ---- a connection, from a point

-- behind so many messages
abbrev pub Behind : ℕ → Point → (Point → Type 0) → Type 0
Behind n p P = (q : Point) × Reaches n p q × P q

-- behind fewer messages than a connection may have
abbrev pub Within : Point → (Point → Type 0) → Type 0
Within p P = (n : ℕ) × (n < message_limit) × Behind n p P

-- the whole connection comes to this end behind so many messages
abbrev pub ComesTo : ℕ → Point → Ends → (Point → Type 0) → Type 0
ComesTo n p ends P = (q : Point) × (talk message_limit p ≡ (q, n, ends)) × P q

-- it was served to this end
abbrev pub ServedTo :
    {K : Type 0} → Ghosts K → Traffic → Point → ℕ → End → Running K → Option Traffic → Option (List ℕ) → Type 0
ServedTo k t p n ended.Hung c net moments = ComesTo n p Hung (λ q. IsBehind k t q c net moments)
ServedTo k t p n ended.Malformed c net moments = ComesTo n p Malformed (λ q. IsBehind k t q c net moments)
ServedTo k t p n ended.Limit c net moments = ComesTo n p Limit (λ q. IsAt k t q c net moments)
ServedTo k t p n ended.Fault c net moments = (n < message_limit) × Behind n p (λ q. (r : Point) × IsCutOff k t q r c net moments)

-- it was served, or the node can't go on behind some of the messages: the next one was not answered
abbrev pub Serves :
    {K : Type 0} → Ghosts K → Traffic → Point → Result Served ServeFault → Running K → Option Traffic → Option (List ℕ)
    → Type 0
Serves k t p (Ok s) c net moments = ServedTo k t p s.messages s.end c net moments
Serves k t p (Err fault) c net moments = Within p (λ q. TakesTurn k t q (Err fault) c net moments)

-- a fault of the line ended it
abbrev pub EndsByFault : Result Served ServeFault → Type 0
EndsByFault (Ok s) = s.end ≡ ended.Fault
EndsByFault (Err fault) = ⊥

-- a start finds where the node stands behind some of the messages
abbrev pub FindsBehind : Point → Started State → Type 0
FindsBehind p s = (n : ℕ) × (n ≤ message_limit) × Behind n p (λ q. FindsState q.stands.state s)

-- where a node stands behind so many answered messages: a fault of the line may have come when the next one was done
abbrev pub IsLast : End → Point → Point → Type 0
IsLast ended.Fault q r = IsNear q r
IsLast end q r = r ≡ q

-- it has the state of the point, and a start finds that alone, behind a crash from then on too
abbrev pub LeavesAt : {K : Type 0} → Ghosts K → Running K → Point → Type 0
LeavesAt k c p = (c.state ≡ Some p.stands.state) × Among (FindsState p.stands.state) (k.may_leave c.keeper)

-- a start finds the node behind all messages that were answered, and where it can't go on, perhaps behind one more
abbrev pub LeavesBehind :
    {K : Type 0} → Ghosts K → Traffic → Point → Result Served ServeFault → Running K → Option Traffic → Option (List ℕ) → Type 0
LeavesBehind k t p (Ok s) c net moments = Behind s.messages p (λ q. (r : Point) × IsLast s.end q r × LeavesAt k c r)
LeavesBehind k t p (Err fault) c net moments =
    Within p (λ q. TakesTurn k t q (Err fault) c net moments × Among (FindsNear q) (k.may_leave c.keeper))
