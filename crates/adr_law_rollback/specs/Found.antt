-- Who finds out that a controller's database was put back without a fresh identifier: whoever has seen more of its incarnation than it has itself.
use Rattle.std.specs.Prelude.{◌≡◌, ◌<◌, ℕ, true, Some, None, Err}
use Rattle.adr_values.specs.Vector.{Cursors, at, at_most}
use Rattle.adr_call.specs.declared.refusal.ServeRefusal.TheVariants as serves
use Rattle.adr_call.specs.declared.refusal.TakeRefusal.TheVariants as takes
use Rattle.adr_model.specs.Store.{Normal, Quarantined, State, kept_of, mark_of}
use Rattle.adr_model.specs.Change.{after}
use Rattle.adr_model.specs.LocalLog.{IsOrdered}
use Rattle.adr_model.specs.Formed.{IsFormed}
use Rattle.adr_model.specs.Lengths.{change_fits}
use Rattle.adr_model.specs.Serve.{Request, Reply, ask, shown_by, serve}
use Rattle.adr_model.specs.Take.{kept_mark, take}
use Rattle.adr_model.specs.Collect.{quarantine}
use Rattle.adr_model.specs.Replica.{Replica, Up}
use Rattle.adr_model.specs.Refused.{serve_refused, take_refused}
use Rattle.adr_model.specs.World.{Name, World, replica_at, serves_request, delivers}
use Rattle.adr_law_rollback.specs.ShutOff.{RestsIn}

-- a request that reaches a controller in use, with a mark whose numbers are in order
pub record IsWellAsked (s : State) (q : Request) : Type 0 where
  pub normal : s.mode ≡ Normal
  pub source : q.source ≡ s.dsa
  pub ordered : IsOrdered q.mark

-- a request that shows that its controller has seen more of this incarnation than there is
abbrev pub ShowsMore : State → Request → Type 0
ShowsMore s q = s.store.usn < shown_by s q

-- it is refused by this, whenever it comes
abbrev pub IsFoundByServing : State → Request → Type 0
IsFoundByServing s q = (now : ℕ) → serve s q now ≡ Err (serves.RolledBack s.inv s.store.usn (shown_by s q))

abbrev pub FoundByServing : Type 0
FoundByServing = (s : State) (q : Request) → IsWellAsked s q → ShowsMore s q → IsFoundByServing s q

-- so is a formed controller's own request, where its vector covers more of this incarnation than there is
abbrev pub FoundByWhoCoversMore : Type 0
FoundByWhoCoversMore =
    (s t : State) (max version : ℕ) → s.mode ≡ Normal → IsFormed t → s.store.usn < at t.store.vector s.inv → IsFoundByServing s (ask t s.dsa max version)

-- or where the mark that it keeps of this incarnation was made when there was more
abbrev pub FoundByWhoReadMore : Type 0
FoundByWhoReadMore =
    (s t : State) (max version : ℕ) → s.mode ≡ Normal → IsFormed t → s.store.usn < (mark_of (kept_of t.store s.dsa) s.inv).seen
    → IsFoundByServing s (ask t s.dsa max version)

-- a last reply that passes what a controller in use tests of it before
pub record IsWellSent (s : State) (r : Reply) (theirs : Cursors) : Type 0 where
  pub normal : s.mode ≡ Normal
  pub dest : r.dest ≡ s.dsa
  pub from : r.from ≡ kept_mark s r
  pub asked : at_most r.asked s.store.vector ≡ true
  pub schema : r.schema ≡ s.store.schema
  pub last : r.last ≡ Some theirs

-- it is refused where the vector in it covers more of this incarnation than there is
abbrev pub FoundByTaking : Type 0
FoundByTaking =
    (s : State) (r : Reply) (theirs : Cursors) → IsWellSent s r theirs → s.store.usn < at theirs s.inv
    → take s r ≡ Err (takes.RolledBack s.inv s.store.usn (at theirs s.inv))

-- ---- in a world

-- a controller that is up, without a plan, whose log has room for its quarantine
pub record IsReady (w : World) (name : Name) (r : Replica) : Type 0 where
  pub found : replica_at w name ≡ Some r
  pub up : r.standing ≡ Up
  pub unplanned : r.device.plan ≡ None
  pub room : change_fits r.device.safe_log r.safe.store (quarantine r.safe) ≡ true

-- behind its quarantine it is shut off
abbrev pub IsShutOffNow : World → Name → Replica → Type 0
IsShutOffNow v name r = RestsIn (after r.safe (quarantine r.safe)) v name

-- that state is quarantined
abbrev pub QuarantineQuarantines : Type 0
QuarantineQuarantines = (s : State) → (after s (quarantine s)).mode ≡ Quarantined

abbrev pub ServingShutsOff : Type 0
ServingShutsOff =
    (w : World) (name : Name) (r : Replica) (q : Request) → IsReady w name r → IsWellAsked r.safe q → ShowsMore r.safe q
    → ((serves_request w name (Some q)).1 ≡ serve_refused (serves.RolledBack r.safe.inv r.safe.store.usn (shown_by r.safe q)))
    × IsShutOffNow (serves_request w name (Some q)).0 name r

abbrev pub TakingShutsOff : Type 0
TakingShutsOff =
    (w : World) (name : Name) (r : Replica) (p : Reply) (theirs : Cursors) → IsReady w name r → IsWellSent r.safe p theirs
    → r.safe.store.usn < at theirs r.safe.inv
    → ((delivers w name (Some p)).1 ≡ take_refused (takes.RolledBack r.safe.inv r.safe.store.usn (at theirs r.safe.inv)))
    × IsShutOffNow (delivers w name (Some p)).0 name r
