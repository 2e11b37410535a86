-- What is claimed of every run, as named facts: of sound worlds, and so of every run as long as no database was put back.
use Rattle.std.specs.Prelude.{◌≡◌, ◌≢◌, ◌⊎◌, ◌<◌, ◌≤◌, ℕ, List, [], ◌∷◌, ◌++◌, Bool, length, filter, max, nat_lt, true, false, Some, None, Ok, codes}
use Rattle.std.specs.List.{flat_map}
use Rattle.adr_values.specs.declared.stamp.Oid.{Oid}
use Rattle.adr_values.specs.Vector.{Cursors, at, at_most}
use Rattle.adr_call.specs.declared.call.Call.TheVariants as calls
use Rattle.adr_call.specs.declared.event.Event.{Event}
use Rattle.adr_call.specs.declared.event.Event.TheVariants as events
use Rattle.adr_call.specs.declared.event.Coming.{Coming}
use Rattle.adr_call.specs.declared.event.Coming.TheVariants as comings
use Rattle.adr_call.specs.declared.event.Use.TheVariants as uses
use Rattle.adr_call.specs.declared.event.Made.{Made}
use Rattle.adr_call.specs.declared.event.Made.TheVariants as mades
use Rattle.adr_call.specs.declared.event.Exchange.TheVariants as exchanges
use Rattle.adr_call.specs.declared.answer.Answer.{Answer}
use Rattle.adr_call.specs.declared.outcome.Field.{Field}
use Rattle.adr_call.specs.declared.outcome.Outcome.{Outcome}
use Rattle.adr_call.specs.declared.outcome.Outcome.TheVariants as outcomes
use Rattle.adr_model.specs.Member.{Member, Each}
use Rattle.adr_model.specs.Update.{Identifier, Update, inv_of, usn_of}
use Rattle.adr_model.specs.Visible.{covers_update, covers_birth}
use Rattle.adr_model.specs.Directory.{directory}
use Rattle.adr_model.specs.Store.{State, Store, updates_of, kept_of, mark_of}
use Rattle.adr_model.specs.Serve.{Request, last_local, units_of}
use Rattle.adr_model.specs.Change.{Written, Change}
use Rattle.adr_model.specs.Write.{items_written}
use Rattle.adr_model.specs.Client.{IsWellAsked}
use Rattle.adr_model.specs.Reflects.{knowledge_of, Reflects}
use Rattle.adr_model.specs.Collect.{deaths_to_collect, collect}
use Rattle.adr_model.specs.Replica.{Replica, Up}
use Rattle.adr_model.specs.World.{World, Name, answer, in_view, empty_world}
use Rattle.adr_model.specs.Cycles.{was_taken, pulls, cycle, reply_limit}
use Rattle.adr_model.specs.Rings.{Connection, ring, times}
use Rattle.adr_model.specs.Step.{ClientWrite, write_of, step, after_lines}
use Rattle.adr_model.specs.Sound.{WereTold, IsSoundWorld, IsWorldOfRun}

-- ---- soundness is kept

abbrev pub IsNewName : World → Name → Type 0
IsNewName w name = Each (λ r. r.name ≢ name) w.replicas

abbrev pub IsNewDsa : World → Identifier → Type 0
IsNewDsa w dsa = Member dsa w.given.dsas → ⊥

abbrev pub IsNewInv : World → Identifier → Type 0
IsNewInv w inv = Member inv w.given.invs → ⊥

-- nothing is bound to the name yet
abbrev pub IsUnbound : {A : Type 0} → List (Name × A) → Name → Type 0
IsUnbound {A} xs name = Each (λ (x : Name × A). x.0 ≢ name) xs

-- a controller that comes to be has a name and identifiers that no line gave before, and one that comes back a new invocation identifier
abbrev pub MayCome : World → Name → Identifier → Coming → Type 0
MayCome w name inv (comings.Fresh dsa) = IsNewName w name × (IsNewDsa w dsa × IsNewInv w inv)
MayCome w name inv (comings.Installed dsa image) = IsNewName w name × (IsNewDsa w dsa × IsNewInv w inv)
MayCome w name inv (comings.Restored image) = IsNewInv w inv

-- nothing of the kind that is made is bound to the name yet
abbrev pub MayBind : World → Made → Name → Type 0
MayBind w (mades.Ask partner max version) bind = IsUnbound w.requests bind
MayBind w (mades.Serve request) bind = IsUnbound w.replies bind
MayBind w mades.Backup bind = IsUnbound w.images bind
MayBind w mades.Snapshot bind = IsUnbound w.snapshots bind

-- an event that a line may give: names and identifiers that are new are so, and values are given in order
abbrev pub MayHappen : World → Event → Type 0
MayHappen w (events.Comes name inv how) = MayCome w name inv how
MayHappen w (events.Calls name what) = IsWellAsked what
MayHappen w (events.Binds name what bind) = MayBind w what bind
MayHappen w e = Unit {0}

-- a world behind some of the pulls of cycles that come one after the other
abbrev pub IsAmidCycles : List Connection → ℕ → World → World → Type 0
IsAmidCycles [] max w v = v ≡ w
IsAmidCycles (c ∷ cs) max w v = ((n : ℕ) × (v ≡ (pulls n w c.0 c.1 max).0)) ⊎ IsAmidCycles cs max (cycle w c.0 c.1 max).0 v

-- a world on the way of a line: the one behind it, or behind some of the pulls of a cycle, or of a ring
abbrev pub IsOnTheWay : World → Event → World → Type 0
IsOnTheWay w (events.Goes name (exchanges.Cycle source max)) v = (n : ℕ) × (v ≡ (pulls n w name source max).0)
IsOnTheWay w (events.Goes name (exchanges.Ring others rounds max)) v = IsAmidCycles (times rounds (ring name others)) max w v
IsOnTheWay w e v = v ≡ (step w e).0

abbrev pub BeginsSound : Type 0
BeginsSound = IsWorldOfRun empty_world

-- every world on the way of a line that may happen is again that of a run
abbrev pub StaysSound : Type 0
StaysSound = (w : World) (e : Event) → IsWorldOfRun w → MayHappen w e → (v : World) → IsOnTheWay w e v → IsWorldOfRun v

-- a world that isn't clean never becomes so again
abbrev pub StaysUnclean : Type 0
StaysUnclean = (w : World) (e : Event) (v : World) → IsOnTheWay w e v → w.clean ≡ false → v.clean ≡ false

-- whether a line puts a database back
abbrev pub puts_back : Event → Bool
puts_back (events.Uses name uses.Rollback bind) = true
puts_back e = false

-- and only a line that puts a database back makes a clean one unclean
abbrev pub StaysClean : Type 0
StaysClean = (w : World) (e : Event) (v : World) → IsOnTheWay w e v → puts_back e ≡ false → v.clean ≡ w.clean

-- each line may happen where it is
abbrev pub MayAllHappen : World → List Event → Type 0
MayAllHappen w [] = Unit {0}
MayAllHappen w (e ∷ es) = MayHappen w e × MayAllHappen (step w e).0 es

abbrev pub RunsAreSound : Type 0
RunsAreSound = (es : List Event) → MayAllHappen empty_world es → IsWorldOfRun (after_lines empty_world es)

-- no line puts a database back
abbrev pub PutsNothingBack : List Event → Type 0
PutsNothingBack es = Each (λ e. puts_back e ≡ false) es

abbrev pub RunsStayClean : Type 0
RunsStayClean = (es : List Event) → PutsNothingBack es → (after_lines empty_world es).clean ≡ true

-- ---- what is shown

abbrev pub held_by : Replica → List Update
held_by r = updates_of r.safe.store.rows

-- what each controller holds shows what it has in view
abbrev pub ShowWhatIsVisible : World → Type 0
ShowWhatIsVisible w = Each (λ r. directory (held_by r) ≡ directory (in_view w r.safe)) w.replicas

abbrev pub HoldsNothingBeyond : Replica → Type 0
HoldsNothingBeyond r = Each (λ u. covers_update r.safe.store.vector u ≡ true) (held_by r)

abbrev pub CoverTheSame : World → Replica → Replica → Type 0
CoverTheSame w r q = Each (λ u. covers_update r.safe.store.vector u ≡ covers_update q.safe.store.vector u) w.book.issued

-- controllers that cover the same, and hold nothing beyond, show the same
abbrev pub ShowAlike : World → Type 0
ShowAlike w =
    Each (λ r. Each (λ q. HoldsNothingBeyond r → HoldsNothingBeyond q → CoverTheSame w r q → directory (held_by r) ≡ directory (held_by q)) w.replicas) w.replicas

abbrev pub ShowsWhatIsVisible : Type 0
ShowsWhatIsVisible = (w : World) → IsSoundWorld w → ShowWhatIsVisible w

abbrev pub EqualCoverageShowsEqual : Type 0
EqualCoverageShowsEqual = (w : World) → IsSoundWorld w → ShowAlike w

-- ---- what was acknowledged

-- an item of a write is issued, each row of it, under the identifier of its controller and the item's USN, which is above the USN
-- before the write and at most the one that was answered
pub record IsIssuedItem (issued : List Update) (s : State) (usn : ℕ) (x : Written) : Type 0 where
  pub above : s.store.usn < x.local
  pub within : x.local ≤ usn
  pub rows : Each (λ u. Member u issued × ((inv_of u ≡ s.inv) × (usn_of u ≡ x.local))) x.item.rows

-- an event was a client's write, and in the world behind it all its items are issued. There is a row, and the controller still
-- has its identifier
pub record IsAcknowledged (w : World) (e : Event) (usn : ℕ) (behind : World) : Type 0 where
  pub write : ClientWrite
  pub is_write : write_of w e ≡ Some write
  pub writer : Replica
  pub there : Member writer w.replicas
  pub name : writer.name ≡ write.name
  pub row : (x : Written) × (u : Update) × Member x (items_written writer.safe write.what w.time) × Member u x.item.rows
  pub issued : Each (IsIssuedItem behind.book.issued writer.safe usn) (items_written writer.safe write.what w.time)
  pub stays : (r : Replica) × Member r behind.replicas × (r.name ≡ writer.name) × (r.safe.inv ≡ writer.safe.inv)

-- the updates of an acknowledged write
abbrev pub acknowledged : {e : Event} {usn : ℕ} {behind : World} → (w : World) → IsAcknowledged w e usn behind → List Update
acknowledged w a = flat_map (λ (x : Written). x.item.rows) (items_written a.writer.safe a.write.what w.time)

-- every answer by a USN acknowledges a write, all of which is issued in the world behind it
abbrev pub AreAcknowledged : World → Event → List Answer → World → Type 0
AreAcknowledged w e answers behind = (usn : ℕ) → Each (λ a. a.outcome ≡ outcomes.Usn usn → IsAcknowledged w e usn behind) answers

-- a line that was answered by a USN issued what it wrote, all of it
abbrev pub AcknowledgedIsIssued : Type 0
AcknowledgedIsIssued = (w : World) (e : Event) → IsSoundWorld w → MayHappen w e → AreAcknowledged w e (step w e).1 (step w e).0

-- what was issued stays so, whatever comes
abbrev pub IssuedStays : Type 0
IssuedStays = (w : World) (e : Event) → Each (λ u. Member u (step w e).0.book.issued) w.book.issued

-- all that was issued under its present identifier is in a controller's view
abbrev pub OwnIsInView : World → Type 0
OwnIsInView w = Each (λ r. Each (λ u. inv_of u ≡ r.safe.inv → Member u (in_view w r.safe)) w.book.issued) w.replicas

abbrev pub OwnIsVisible : Type 0
OwnIsVisible = (w : World) → IsSoundWorld w → OwnIsInView w

-- ---- the same of every run, as long as no database was put back

abbrev pub RunsConverge : Type 0
RunsConverge =
    (es : List Event) → MayAllHappen empty_world es → (after_lines empty_world es).clean ≡ true
    → ShowWhatIsVisible (after_lines empty_world es) × ShowAlike (after_lines empty_world es)

-- the updates are in the view of whoever has the identifier
abbrev pub AreInView : World → Identifier → List Update → Type 0
AreInView w inv us = Each (λ r. r.safe.inv ≡ inv → Each (λ u. Member u (in_view w r.safe)) us) w.replicas

-- the world behind the first lines of a run
abbrev pub behind : List Event → World
behind es = after_lines empty_world es

-- whatever a line acknowledged is in the view of whoever has the identifier under which it was issued, behind these lines more
abbrev pub StaysInView : List Event → Event → List Event → Type 0
StaysInView before e more =
    (usn : ℕ) → Each (λ a. a.outcome ≡ outcomes.Usn usn
    → (k : IsAcknowledged (behind before) e usn (step (behind before) e).0)
    × AreInView (behind (before ++ e ∷ more)) k.writer.safe.inv (acknowledged (behind before) k))
    (step (behind before) e).1

-- an acknowledged write of a run stays in view to its end
abbrev pub AcknowledgedStaysInView : Type 0
AcknowledgedStaysInView =
    (before after : List Event) (e : Event) → MayAllHappen empty_world (before ++ e ∷ after)
    → (behind (before ++ e ∷ after)).clean ≡ true → StaysInView before e after

-- ---- times

-- where a controller has a time of an incarnation, a last reply of it was made then, and the controller covers what that one had
abbrev pub TimesAreTrue : Type 0
TimesAreTrue = (w : World) → IsSoundWorld w → Each (λ r. WereTold w r.safe.store.vector r.safe.store.times) w.replicas

-- ---- refusals that don't come

abbrev pub IsRefused : ℕ → Outcome → Type 0
IsRefused number outcome = (label : List ℕ) × (fields : List Field) × (outcome ≡ outcomes.Refused number label fields)

-- none of these answers is refused so
abbrev pub NoneRefused : ℕ → List Answer → Type 0
NoneRefused number answers = Each (λ a. IsRefused number a.outcome → ⊥) answers

-- no controller finds that it was put back, and no item is broken or incomplete
abbrev pub NoDamage : Type 0
NoDamage =
    (w : World) (e : Event) → IsSoundWorld w → MayHappen w e
    → NoneRefused 33 (step w e).1 × (NoneRefused 43 (step w e).1 × NoneRefused 44 (step w e).1)

-- the stores that a controller may come to have
abbrev pub IsStoreOf : World → Store → Type 0
IsStoreOf w s =
    ((r : Replica) × Member r w.replicas × ((s ≡ r.safe.store) ⊎ (s ≡ r.read.store)))
    ⊎ ((i : Name × Store) × Member i w.images × (s ≡ i.1))

-- what was collected anywhere is covered by everyone who may still ask
pub record IsPurgedCovered (w : World) : Type 0 where
  pub stores : (s t : Store) → IsStoreOf w s → IsStoreOf w t → at_most s.purged t.vector ≡ true
  pub requests : (s : Store) → IsStoreOf w s → Each (λ (q : Name × Request). at_most s.purged q.1.vector ≡ true) w.requests

-- where that is so, none of a line's answers is that someone is too old
abbrev pub NeverTooOld : Type 0
NeverTooOld = (w : World) (e : Event) → IsSoundWorld w → MayHappen w e → IsPurgedCovered w → NoneRefused 32 (step w e).1

-- whether a vector covers the births and deaths
abbrev pub CoversDeaths : Cursors → List (Oid × Update) → Type 0
CoversDeaths v deaths = Each (λ (d : Oid × Update). (covers_birth v d.0 ≡ true) × (covers_update v d.1 ≡ true)) deaths

-- all who may still ask cover these deaths
pub record AreDeathsCovered (w : World) (deaths : List (Oid × Update)) : Type 0 where
  pub stores : (t : Store) → IsStoreOf w t → CoversDeaths t.vector deaths
  pub requests : Each (λ (q : Name × Request). CoversDeaths q.1.vector deaths) w.requests

-- a collection that is done removes what all cover, and a new controller comes while nothing was collected
abbrev pub KeepsCovered : World → Event → Type 0
KeepsCovered w (events.Calls name (calls.Collect lifetime)) =
    Each (λ r. r.name ≡ name → r.standing ≡ Up → (c : Change) → collect r.safe w.time lifetime ≡ Ok c → AreDeathsCovered w (deaths_to_collect r.safe w.time lifetime)) w.replicas
KeepsCovered w (events.Comes name inv (comings.Fresh dsa)) = (s : Store) → IsStoreOf w s → s.purged ≡ []
KeepsCovered w e = Unit {0}

abbrev pub StaysCovered : Type 0
StaysCovered =
    (w : World) (e : Event) → IsSoundWorld w → MayHappen w e → IsPurgedCovered w → KeepsCovered w e → (v : World) → IsOnTheWay w e v → v.clean ≡ true → IsPurgedCovered v

-- ---- a cycle ends and carries everything

-- two controllers that are up, between which nothing is in the way
pub record MayCycle (w : World) (dest source : Replica) : Type 0 where
  pub dest_there : Member dest w.replicas
  pub source_there : Member source w.replicas
  pub dest_up : dest.standing ≡ Up
  pub source_up : source.standing ≡ Up
  pub dest_unplanned : dest.device.plan ≡ None
  pub source_unplanned : source.device.plan ≡ None
  pub schema : dest.safe.store.schema ≡ source.safe.store.schema
  pub purged : at_most source.safe.store.purged dest.safe.store.vector ≡ true

-- how many units of the source lie beyond the mark that is kept of it
abbrev pub units_beyond : State → State → ℕ
units_beyond dest source =
    length (filter (λ unit. nat_lt (mark_of (kept_of dest.store source.dsa) source.inv).obj (last_local source.store.rows unit)) (units_of source.store.rows))

-- how many replies were taken
abbrev pub replies_taken : List Answer → ℕ
replies_taken answers = length (filter (λ a. was_taken a.outcome) answers)

abbrev pub ReflectsMore : List Update → State → State → Type 0
ReflectsMore issued before after = (u : Update) → Reflects issued (knowledge_of before.store) u → Reflects issued (knowledge_of after.store) u

-- all of the source was read, up to its USN
abbrev pub IsReadWhole : State → State → Type 0
IsReadWhole source after =
    kept_of after.store source.dsa ≡ record { inv = source.inv; mark = record { obj = source.store.usn; prop = source.store.usn; seen = source.store.usn } }

-- what the destination has after its last reply: all that the source held is taken, nothing is lost and nothing else gained, both
-- vectors are joined, what was collected is as it was, and nothing is written where nothing was lacking
pub record HasTakenAll (issued : List Update) (dest source after : State) : Type 0 where
  pub mark : IsReadWhole source after
  pub took : Each (λ u. Reflects issued (knowledge_of after.store) u) (updates_of source.store.rows)
  pub keeps : ReflectsMore issued dest after
  pub gained : Each (λ u. Member u (updates_of dest.store.rows) ⊎ (Member u (updates_of source.store.rows) × (Reflects issued (knowledge_of dest.store) u → ⊥))) (updates_of after.store.rows)
  pub vector : (i : Identifier) → i ≢ after.inv → at after.store.vector i ≡ max (at dest.store.vector i) (at source.store.vector i)
  pub own : at after.store.vector after.inv ≡ after.store.usn
  pub purged : after.store.purged ≡ dest.store.purged
  pub idle : Each (λ u. Reflects issued (knowledge_of dest.store) u) (updates_of source.store.rows) → (after.store.usn ≡ dest.store.usn) × (after.store.rows ≡ dest.store.rows)

-- the cycle ended with its last reply: the destination is there with all of it, nothing more is issued, and all others are as they were
pub record IsCompleted (w left : World) (dest source after : Replica) (answers : List Answer) : Type 0 where
  pub replies : (1 ≤ replies_taken answers) × (replies_taken answers ≤ max 1 (units_beyond dest.safe source.safe))
  pub all : HasTakenAll w.book.issued dest.safe source.safe after.safe
  pub there : Member after left.replicas
  pub name : after.name ≡ dest.name
  pub issued : left.book.issued ≡ w.book.issued
  pub others : Each (λ r. r.name ≢ dest.name → Member r left.replicas) w.replicas

-- the cycle took as many replies as one may, and says that there are more: the source had more units beyond the mark than that
pub record SaysMore (name : Name) (dest source : State) (answers : List Answer) : Type 0 where
  pub replies : replies_taken answers ≡ reply_limit
  pub units : reply_limit < units_beyond dest source
  pub more : Member (answer (codes "cycle") name outcomes.More) answers

-- no limit was met on the way
abbrev pub AreUnlimited : List Answer → Type 0
AreUnlimited answers = NoneRefused 21 answers × NoneRefused 22 answers

-- the answers say that there is more, or the cycle is completed in the world behind them
abbrev pub EndsOrSaysMore : World → Replica → Replica → List Answer → World → Type 0
EndsOrSaysMore w dest source answers left =
    SaysMore dest.name dest.safe source.safe answers
    ⊎ ((after : Replica) × IsCompleted w left dest source after answers)

-- a cycle with nothing in the way says that there is more, or ends with the last reply, and the destination has everything
abbrev pub CycleEnds : Type 0
CycleEnds =
    (w : World) (dest source : Replica) (most : ℕ) → IsSoundWorld w → MayCycle w dest source → 1 ≤ most
    → let c = cycle w dest.name source.name most in AreUnlimited c.1 → EndsOrSaysMore w dest source c.1 c.0
