-- What each line of a run does, and what it is answered.
use Rattle.std.specs.Prelude.{ℕ, List, [], ◌∷◌, ◌++◌, Option, Some, None}
use Rattle.adr_call.specs.declared.call.Call.TheVariants as calls
use Rattle.adr_call.specs.declared.event.Event.{Event}
use Rattle.adr_call.specs.declared.event.Event.TheVariants as events
use Rattle.adr_call.specs.declared.event.Coming.{Coming}
use Rattle.adr_call.specs.declared.event.Coming.TheVariants as comings
use Rattle.adr_call.specs.declared.event.Use.{Use}
use Rattle.adr_call.specs.declared.event.Use.TheVariants as used
use Rattle.adr_call.specs.declared.event.Made.{Made}
use Rattle.adr_call.specs.declared.event.Made.TheVariants as mades
use Rattle.adr_call.specs.declared.event.Exchange.{Exchange}
use Rattle.adr_call.specs.declared.event.Exchange.TheVariants as exchanges
use Rattle.adr_call.specs.declared.event.Meeting.{Meeting}
use Rattle.adr_call.specs.declared.event.Meeting.TheVariants as meetings
use Rattle.adr_call.specs.declared.answer.Answer.{Answer}
use Rattle.adr_call.specs.declared.outcome.Outcome.TheVariants as outcomes
use Rattle.adr_model.specs.Update.{Identifier}
use Rattle.adr_model.specs.Store.{Store, empty_state}
use Rattle.adr_call.specs.Verbs.{verb_of_call, verb_of_coming, verb_of_made, verb_of_meeting, verb_of_report, verb_of_use, word_of}
use Rattle.adr_model.specs.Write.{Write, Revive, write_meant}
use Rattle.adr_model.specs.Collect.{backup, adopt}
use Rattle.adr_disk.specs.declared.memory.Mishap.TheVariants.{Fails, Stops}
use Rattle.adr_model.specs.Replica.{Replica, ToWrite, on_new_disk, begun}
use Rattle.adr_model.specs.Client.{call_meant}
use Rattle.adr_model.specs.World.{World, Name, Gone, Sent, answer, stays, nothing, bound, bound_at, replica_at, with_replica, reported, of_made, of_controller, of_image, does, asks, serves_request, delivers, backed_up, adopts, put_back, with_plan, stops, starts}
use Rattle.adr_model.specs.Cycles.{pull, cycle}
use Rattle.adr_model.specs.Rings.{rings}

-- a client's write: the controller that it goes to, and what is written
pub record ClientWrite : Type 0 where
  pub name : Name
  pub what : Write

abbrev pub client_write : Name → Write → Option ClientWrite
client_write name what = Some (record { name = name; what = what })

-- a revival, where its image was made
abbrev pub revival : Name → Identifier → Identifier → List ℕ → Option Store → Option ClientWrite
revival name guid parent text None = None
revival name guid parent text (Some image) = client_write name (Revive image guid parent text)

-- the write that a line has done
abbrev pub write_of : World → Event → Option ClientWrite
write_of w (events.Calls name (calls.Write what)) = client_write name (write_meant what)
write_of w (events.Uses name (used.Revive guid parent text) bind) = revival name guid parent text (bound_at w.images bind)
write_of w _ = None

-- a line gives identifiers, whatever it is answered
abbrev pub gives : World → List Identifier → List Identifier → World
gives w dsas invs = record w { given = record { dsas = w.given.dsas ++ dsas; invs = w.given.invs ++ invs } }

-- a controller comes to be, or comes back, under a fresh invocation identifier
abbrev pub comes : World → Name → Identifier → Coming → Gone
comes w name inv (comings.Fresh dsa) =
    let v = gives w (dsa ∷ []) (inv ∷ []) in
    (record v { book = begun v.book (empty_state dsa inv); replicas = v.replicas ++ on_new_disk name (empty_state dsa inv) ∷ [] }, outcomes.Ok)
comes w name inv (comings.Installed dsa image) =
    let v = gives w (dsa ∷ []) (inv ∷ []) in
    of_image v (bound_at v.images image) (λ i. adopts v (λ r. v.replicas ++ r ∷ []) name (adopt i dsa inv))
comes w name inv (comings.Restored image) =
    let v = gives w [] (inv ∷ []) in
    of_made (stays v) (replica_at v name) (λ r. of_image v (bound_at v.images image) (λ i. adopts v (with_replica v.replicas) name (adopt i r.safe.dsa inv)))

-- a controller uses what is bound to a name
abbrev pub uses : World → Name → Use → Name → Gone
uses w name used.Deliver bind = delivers w name (bound_at w.replies bind)
uses w name (used.Revive guid parent text) bind =
    of_image w (bound_at w.images bind) (λ i. does w name (ToWrite (Revive i guid parent text) w.time))
uses w name used.Rollback bind = of_made (stays w) (replica_at w name) (λ r. put_back w name (bound_at w.snapshots bind))

-- what was made is bound
abbrev pub made_bound : {A : Type 0} → Sent A → (World → Option A → World) → Gone
made_bound t binds = (binds t.0 t.2, t.1)

-- what a controller makes is bound to a name
abbrev pub makes : World → Name → Made → Name → Gone
makes w name (mades.Ask partner max version) bind =
    made_bound (asks w name partner max version) (λ v q. record v { requests = bound v.requests bind q })
makes w name (mades.Serve request) bind =
    made_bound (serves_request w name (bound_at w.requests request)) (λ v r. record v { replies = bound v.replies bind r })
makes w name mades.Backup bind =
    made_bound (of_controller w name (nothing w) (λ r. backed_up w (backup r.safe))) (λ v i. record v { images = bound v.images bind i })
makes w name mades.Snapshot bind =
    made_bound
    (of_made (nothing w) (replica_at w name) (λ r. (w, outcomes.Ok, Some (record { state = r.read; log = r.device.read_log }))))
    (λ v s. record v { snapshots = bound v.snapshots bind s })

-- controllers pull: what is answered is told call by call
abbrev pub goes : World → Name → Exchange → World × List Answer
goes w name (exchanges.Pull source max) = let p = pull w name source max in (p.0, p.1)
goes w name (exchanges.Cycle source max) = cycle w name source max
goes w name (exchanges.Ring others rounds max) = rings w name others rounds max

-- something befalls a controller or its disk
abbrev pub meets : World → Replica → Meeting → Gone
meets w r meetings.Stop = stops w r
meets w r meetings.Start = starts w r r.standing
meets w r (meetings.StopAfter calls how) = with_plan w r (record { calls = calls; mishap = Stops how })
meets w r (meetings.Fail calls) = with_plan w r (record { calls = calls; mishap = Fails })

-- a line with one answer
abbrev pub told : List ℕ → Name → Gone → World × List Answer
told verb name g = (g.0, answer verb name g.1 ∷ [])

-- what a line does, and its answers: none to a `time`, those of each call to a pull or a cycle, and else one
abbrev pub step : World → Event → World × List Answer
step w (events.Time now) = (record w { time = now }, [])
step w (events.Comes name inv how) = told (word_of (verb_of_coming how)) name (comes w name inv how)
step w (events.Calls name what) = told (word_of (verb_of_call what)) name (does w name (call_meant what w.time))
step w (events.Uses name what bind) = told (word_of (verb_of_use what)) name (uses w name what bind)
step w (events.Binds name what bind) = told (word_of (verb_of_made what)) name (makes w name what bind)
step w (events.Asks name what) = told (word_of (verb_of_report what)) name (of_controller w name (stays w) (λ r. (w, reported w r.safe what)))
step w (events.Goes name what) = goes w name what
step w (events.Meets name what) = told (word_of (verb_of_meeting what)) name (of_made (stays w) (replica_at w name) (λ r. meets w r what))

-- the world behind lines, and their answers

abbrev pub after_lines : World → List Event → World
after_lines w [] = w
after_lines w (e ∷ es) = after_lines (step w e).0 es

abbrev pub and_on : World × List Answer → (World → List Answer) → List Answer
and_on t go = t.1 ++ go t.0

abbrev pub answers : World → List Event → List Answer
answers w [] = []
answers w (e ∷ es) = and_on (step w e) (λ v. answers v es)
