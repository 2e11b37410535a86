-- A controller that is shut off: what it refuses, and what it stays until it is restored, or put back again.
use Rattle.std.specs.Prelude.{◌≡◌, ◌≢◌, ℕ, List, Bool, true, false, Some, None, Err}
use Rattle.adr_call.specs.declared.answer.Answer.{Answer}
use Rattle.adr_call.specs.declared.outcome.Outcome.{Outcome}
use Rattle.adr_call.specs.declared.outcome.Outcome.TheVariants as outcomes
use Rattle.adr_call.specs.declared.event.Event.{Event}
use Rattle.adr_call.specs.declared.event.Event.TheVariants as events
use Rattle.adr_call.specs.declared.event.Coming.TheVariants as comings
use Rattle.adr_call.specs.declared.event.Use.TheVariants as used
use Rattle.adr_call.specs.declared.refusal.WriteRefusal.TheVariants as writes
use Rattle.adr_call.specs.declared.refusal.ServeRefusal.TheVariants as serves
use Rattle.adr_call.specs.declared.refusal.TakeRefusal.TheVariants as takes
use Rattle.adr_call.specs.declared.refusal.CollectRefusal.TheVariants as collects
use Rattle.adr_call.specs.declared.refusal.UpgradeRefusal.TheVariants as upgrades
use Rattle.adr_model.specs.Member.{Each}
use Rattle.adr_model.specs.Store.{Quarantined, State}
use Rattle.adr_model.specs.Serve.{Request, Reply, serve}
use Rattle.adr_model.specs.Write.{Write, write}
use Rattle.adr_model.specs.Take.{take}
use Rattle.adr_model.specs.Collect.{collect, backup}
use Rattle.adr_model.specs.Upgrade.{upgrade}
use Rattle.adr_model.specs.Replica.{Replica}
use Rattle.adr_model.specs.World.{Name, World, replica_at}
use Rattle.adr_model.specs.Step.{step, after_lines, answers}

-- it writes nothing, serves nothing, takes nothing, collects nothing, keeps its schema, and gives no image
pub record RefusesAll (s : State) : Type 0 where
  pub no_write : (what : Write) (now : ℕ) → write s what now ≡ Err writes.Quarantined
  pub no_serve : (q : Request) (now : ℕ) → serve s q now ≡ Err serves.Quarantined
  pub no_take : (r : Reply) → take s r ≡ Err takes.Quarantined
  pub no_collection : (now lifetime : ℕ) → collect s now lifetime ≡ Err collects.Quarantined
  pub no_upgrade : upgrade s ≡ Err upgrades.Quarantined
  pub no_image : backup s ≡ None

abbrev pub QuarantinedRefusesAll : Type 0
QuarantinedRefusesAll = (s : State) → s.mode ≡ Quarantined → RefusesAll s

-- ---- in a world

-- a controller whose disk has this state and nothing that waits: a start finds it, and a crash leaves it
pub record RestsAs (s : State) (r : Replica) : Type 0 where
  pub safe : r.safe ≡ s
  pub read : r.read ≡ s
  pub kept : r.kept ≡ None

-- the controller of a name rests as this state
abbrev pub RestsIn : State → World → Name → Type 0
RestsIn s w name = (r : Replica) × (replica_at w name ≡ Some r) × RestsAs s r

-- an answer that says that something was written, served, taken or collected
abbrev pub is_done : Outcome → Bool
is_done (outcomes.Usn usn) = true
is_done (outcomes.Served from to items rows last) = true
is_done (outcomes.Took items wrote usn) = true
is_done (outcomes.Removed count) = true
is_done _ = false

-- no answer of this controller says so
abbrev pub DoesNothing : Name → List Answer → Type 0
DoesNothing name told = Each (λ a. a.name ≡ name → is_done a.outcome ≡ false) told

-- a line that puts nothing back on this controller's disk
abbrev pub Spares : Name → Event → Type 0
Spares name (events.Comes other inv (comings.Restored image)) = other ≢ name
Spares name (events.Uses other used.Rollback snapshot) = other ≢ name
Spares name e = Unit {0}

-- behind such a line a quarantined controller is as before, and has done nothing
abbrev pub QuarantineHolds : Type 0
QuarantineHolds =
    (w : World) (name : Name) (s : State) (e : Event) → s.mode ≡ Quarantined → RestsIn s w name → Spares name e
    → RestsIn s (step w e).0 name × DoesNothing name (step w e).1

-- and so throughout such lines, however many come
abbrev pub QuarantineHoldsThroughout : Type 0
QuarantineHoldsThroughout =
    (w : World) (name : Name) (s : State) (es : List Event) → s.mode ≡ Quarantined → RestsIn s w name
    → Each (Spares name) es
    → RestsIn s (after_lines w es) name × DoesNothing name (answers w es)
