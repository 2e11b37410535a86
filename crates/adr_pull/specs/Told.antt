-- What is told of a pull: where the node, its connection and its lines stand.
use Rattle.std.specs.Prelude.{◌≡◌, ◌⊎◌, ◌<◌, ◌≤◌, ℕ, suc, List, ◌++◌, take, Bool, Option, Some, None, IfSome, Result, Ok, Err}
use Rattle.std.specs.Bool.{then_some}
use Rattle.adr_disk.specs.Disk.{Among}
use Rattle.adr_model.specs.Store.{State}
use Rattle.adr_law_journal.specs.Areas.{Found, Started}
use Rattle.adr_law_journal.specs.Kept.{FindsState, FindsEither}
use Rattle.adr_journal.specs.declared.keeper.Keeper.{Ghosts}
use Rattle.adr_call.specs.declared.refusal.Table.TheVariants.{Log}
use Rattle.adr_model.specs.Lengths.{log_limit}
use Rattle.adr_model.specs.Refused.{full}
use Rattle.adr_controller.specs.declared.refusal.Hindrance.{Hindrance}
use Rattle.adr_controller.specs.declared.refusal.Hindrance.TheVariants.{Down, Failed, Full, DiskFault, NoMemory}
use Rattle.adr_controller.specs.Running.{Running}
use Rattle.adr_law_controller.specs.Keeping.{Stands}
use Rattle.adr_outside.specs.Traffic.{Traffic}
use Rattle.adr_frames.specs.Frames.{frame}
use Rattle.adr_pull.specs.declared.came.Came.{Came}
use Rattle.adr_pull.specs.declared.came.Came.TheVariants.{Declined}
use Rattle.adr_pull.specs.declared.fault.PullFault.{PullFault}
use Rattle.adr_pull.specs.declared.fault.PullFault.TheVariants as faults
use Rattle.adr_pull.specs.Exchange.{HasSent, HasSentFront, heard_in, moved}
use Rattle.adr_pull.specs.Fetch.{Course, Ends, Over, Refused, BadPeer, Made, Point, greeting, met}

-- ---- the connection alone

-- no frame was heard behind a message: none that is whole came, or a call failed
abbrev pub Fails : Traffic → List ℕ → PullFault → Option Traffic → Type 0
Fails t message faults.BadPeer after = (heard_in t.left ≡ None) × HasSent t (frame message) after
Fails t message faults.Link after = HasSentFront t (frame message) after
Fails t message faults.NoMemory after = HasSentFront t (frame message) after
Fails t message faults.Write after = ⊥
Fails t message faults.Disk after = ⊥
Fails t message faults.Refused after = ⊥
Fails t message faults.MoreWaiting after = ⊥

-- a message was sent, and this frame heard
abbrev pub Converses : {V : Type 0} → (V → List ℕ) → Traffic → List ℕ → Result V PullFault → Option Traffic → Type 0
Converses items t message (Ok v) after =
    (rest : List ℕ) × (heard_in t.left ≡ Some (items v, rest)) × (after ≡ Some (moved t rest (frame message)))
Converses items t message (Err fault) after = Fails t message fault after

-- the partner was met
abbrev pub Meets : Traffic → Result (List ℕ) PullFault → Option Traffic → Type 0
Meets t (Ok partner) after = (rest : List ℕ) × (met (heard_in t.left) ≡ Some (partner, rest)) × (after ≡ Some
    (moved t rest (frame greeting)))
Meets t (Err faults.BadPeer) after = (met (heard_in t.left) ≡ None) × HasSent t (frame greeting) after
Meets t (Err faults.Link) after = HasSentFront t (frame greeting) after
Meets t (Err faults.NoMemory) after = HasSentFront t (frame greeting) after
Meets t (Err faults.Write) after = ⊥
Meets t (Err faults.Disk) after = ⊥
Meets t (Err faults.Refused) after = ⊥
Meets t (Err faults.MoreWaiting) after = ⊥

-- ---- the node alone

-- a call of its disk failed: it has no state in memory, and a start finds the one or the other
abbrev pub HasFallen : {K : Type 0} → Ghosts K → State → State → Running K → Type 0
HasFallen k before after c =
    (c.state ≡ None) × IfSome (k.told c.keeper) (λ _. Among (FindsEither before after) (k.may_leave c.keeper))

-- a frame came to what is due, or it wasn't due, or the node can't say
abbrev pub ReactsSo : {K : Type 0} → Ghosts K → Found State → Option Made → Result Came PullFault → Running K → Type 0
ReactsSo k f due (Ok came) c = (m : Made) × (due ≡ Some m) × (came ≡ m.1) × Stands k m.0 c
ReactsSo k f due (Err faults.BadPeer) c = (due ≡ None) × Stands k f c
ReactsSo k f due (Err faults.Disk) c = (m : Made) × (due ≡ Some m) × HasFallen k f.state m.0.state c
ReactsSo k f due (Err faults.NoMemory) c = Stands k f c
ReactsSo k f due (Err faults.Write) c = ⊥
ReactsSo k f due (Err faults.Link) c = ⊥
ReactsSo k f due (Err faults.Refused) c = ⊥
ReactsSo k f due (Err faults.MoreWaiting) c = ⊥

-- what a hindrance of a controller that is up comes to
abbrev pub IsHindered : Hindrance → Result Came PullFault → Type 0
IsHindered Full result = result ≡ Ok (Declined (full Log log_limit))
IsHindered DiskFault result = result ≡ Err faults.Disk
IsHindered NoMemory result = result ≡ Err faults.NoMemory
IsHindered Down result = ⊥
IsHindered Failed result = ⊥

-- the state before a frame, or the one that is due behind it
abbrev pub FindsDue : Found State → Option Made → Started State → Type 0
FindsDue f None s = FindsState f.state s
FindsDue f (Some m) s = FindsEither f.state m.0.state s

-- ---- points

-- the controller is up there, or a call of its disk failed between two points
abbrev pub Up : {K : Type 0} → Ghosts K → Running K → Found State → Type 0
Up k c f = Stands k f c

abbrev pub Fallen : {K : Type 0} → Ghosts K → Running K → Point → Point → Type 0
Fallen k c p q = HasFallen k p.stands.state q.stands.state c

-- so much was sent and written; what is left may be any part of what came
pub record HasDone (t : Traffic) (traffic : Option Traffic) (written : Option (List ℕ)) (sent told : List ℕ) : Type 0 where
  pub left : List ℕ
  pub net : traffic ≡ Some (record t { left = left; sent = sent })
  pub lines : written ≡ Some told

-- the controller is up where the point says, and what is left, was sent and was written is what it says
pub record IsAt {K : Type 0} (k : Ghosts K) (t : Traffic) (p : Point) (c : Running K) (traffic : Option Traffic)
    (written : Option (List ℕ)) : Type 0 where
  pub node : Stands k p.stands c
  pub net : traffic ≡ Some (record t { left = p.left; sent = p.sent })
  pub lines : written ≡ Some p.written

-- these bytes begin with the first, and are a front of the last
abbrev pub IsBetween : List ℕ → List ℕ → List ℕ → Type 0
IsBetween first bytes last = (more : List ℕ) × (n : ℕ) × (last ≡ first ++ more) × (bytes ≡ first ++ take n more)

-- a start finds where the node stands at the one point or the other
abbrev pub FindsNear : Point → Point → Started State → Type 0
FindsNear p q s = FindsEither p.stands.state q.stands.state s

-- ---- where `at` says where the node then stands, `fallen` between which points a call of its disk failed, and `done` what was
-- sent and written

-- between one point and the next: a front of what is sent was sent, and nothing else was done
abbrev pub IsAsking : (Found State → Type 0) → (List ℕ → List ℕ → Type 0) → Point → Point → Type 0
IsAsking at done p q = at p.stands × ((sent : List ℕ) × IsBetween p.sent sent q.sent × done sent p.written)

-- all was done, but for a part of the line
abbrev pub IsTelling : (Found State → Type 0) → (List ℕ → List ℕ → Type 0) → Point → Point → Type 0
IsTelling at done p q = at q.stands × ((told : List ℕ) × IsBetween p.written told q.written × done q.sent told)

-- all was sent, and a call of the disk failed
abbrev pub HasFailed : (Point → Point → Type 0) → (List ℕ → List ℕ → Type 0) → Point → Point → Type 0
HasFailed fallen done p q = fallen p q × done q.sent p.written

-- it has ended so
abbrev pub EndsSo : (Found State → Type 0) → (List ℕ → List ℕ → Type 0) → Course → Option Ends → Type 0
EndsSo at done course ends = (course.1 ≡ ends) × at course.0.stands × done course.0.sent course.0.written

-- ---- one request

-- how a cycle ends with what came
abbrev pub IsEnd : Option Ends → Result Bool PullFault → Type 0
IsEnd ends (Ok over) = ends ≡ then_some over Over
IsEnd ends (Err faults.Refused) = ends ≡ Some Refused
IsEnd ends (Err _) = ⊥

-- what a request comes to, from a point: whether the cycle is over
abbrev pub TakesTurn : {K : Type 0} → Ghosts K → Traffic → Point → Course → Result Bool PullFault → Running K
    → Option Traffic → Option (List ℕ) → Type 0
TakesTurn k t p next (Ok over) c net lines = (next.1 ≡ then_some over Over) × IsAt k t next.0 c net lines
TakesTurn k t p next (Err faults.Refused) c net lines = (next.1 ≡ Some Refused) × IsAt k t next.0 c net lines
TakesTurn k t p next (Err faults.BadPeer) c net lines = EndsSo (Up k c) (HasDone t net lines) next (Some BadPeer)
TakesTurn k t p next (Err faults.Link) c net lines = IsAsking (Up k c) (HasDone t net lines) p next.0
TakesTurn k t p next (Err faults.Write) c net lines = IsTelling (Up k c) (HasDone t net lines) p next.0
TakesTurn k t p next (Err faults.NoMemory) c net lines =
    IsAsking (Up k c) (HasDone t net lines) p next.0 ⊎ IsTelling (Up k c) (HasDone t net lines) p next.0
TakesTurn k t p next (Err faults.Disk) c net lines = HasFailed (Fallen k c) (HasDone t net lines) p next.0
TakesTurn k t p next (Err faults.MoreWaiting) c net lines = ⊥

-- ---- a cycle, of which this is where it comes to behind so many exchanges

-- behind so many exchanges, fewer than the most, it has not ended, and this holds of where it stands and of where the next one
-- comes to
abbrev pub Within : (ℕ → Course) → ℕ → (Point → Point → Type 0) → Type 0
Within go most P = (n : ℕ) × (n < most) × ((go n).1 ≡ None) × P (go n).0 (go (suc n)).0

-- what comes of at most so many exchanges, by how the call ended
abbrev pub Goes : (Found State → Type 0) → (Point → Point → Type 0) → (List ℕ → List ℕ → Type 0) → (ℕ → Course) → ℕ → Result Unit PullFault
    → Type 0
Goes at fallen done go most (Ok _) = EndsSo at done (go most) (Some Over)
Goes at fallen done go most (Err faults.Refused) = EndsSo at done (go most) (Some Refused)
Goes at fallen done go most (Err faults.BadPeer) = EndsSo at done (go most) (Some BadPeer)
Goes at fallen done go most (Err faults.MoreWaiting) = EndsSo at done (go most) None
Goes at fallen done go most (Err faults.Link) = Within go most (λ p q. IsAsking at done p q)
Goes at fallen done go most (Err faults.Write) = Within go most (λ p q. IsTelling at done p q)
Goes at fallen done go most (Err faults.NoMemory) = Within go most (λ p q. IsAsking at done p q ⊎ IsTelling at done p q)
Goes at fallen done go most (Err faults.Disk) = Within go most (λ p q. HasFailed fallen done p q)

-- a start finds where the node stands behind some of so many exchanges
abbrev pub FindsBehind : (ℕ → Course) → ℕ → Started State → Type 0
FindsBehind go most s = (n : ℕ) × (n ≤ most) × FindsState (go n).0.stands.state s

-- and all lines that were written are of those
abbrev pub FindsTold : (ℕ → Course) → ℕ → Option (List ℕ) → Started State → Type 0
FindsTold go most written s =
    (n : ℕ) × (n ≤ most) × IfSome written (λ lines. (m : ℕ) × (lines ≡ take m (go n).0.written)) × FindsState (go n).0.stands.state s
