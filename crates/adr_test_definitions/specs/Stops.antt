-- Runs in which a disk stops or fails within a call.
use Rattle.std.specs.Prelude.{ℕ, List, [], ◌∷◌, codes}
use Rattle.adr_disk.specs.declared.memory.Crash.{Crash}
use Rattle.adr_disk.specs.declared.memory.Crash.TheVariants.{Kept, Lost}
use Rattle.adr_call.specs.declared.event.Event.{Event}
use Rattle.adr_call.specs.declared.call.Call.TheVariants.{Write}
use Rattle.adr_call.specs.declared.event.Event.TheVariants.{Calls, Asks, Comes, Meets}
use Rattle.adr_call.specs.declared.event.Coming.TheVariants.{Fresh}
use Rattle.adr_call.specs.declared.event.Meeting.TheVariants.{Fail, Start, Stop, StopAfter}
use Rattle.adr_call.specs.declared.answer.Answer.{Answer}
use Rattle.adr_call.specs.declared.write.Write.TheVariants as writes
use Rattle.adr_call.specs.declared.report.Report.TheVariants.{Directory}
use Rattle.adr_call.specs.declared.outcome.Outcome.{Outcome}
use Rattle.adr_call.specs.declared.outcome.Outcome.TheVariants as outcomes
use Rattle.adr_call.specs.declared.directory.Entry.{Entry}
use Rattle.adr_model.specs.Place.{identifier, root}
use Rattle.adr_model.specs.World.{answer}
use Rattle.adr_test_definitions.specs.Acting.{container}

abbrev pub new_a : Event
new_a = Comes (codes "A") (identifier 161) (Fresh (identifier 160))

abbrev pub new_b : Event
new_b = Comes (codes "B") (identifier 177) (Fresh (identifier 176))

abbrev pub add_container : List ℕ → ℕ → List ℕ → Event
add_container name guid text = Calls name (Write (writes.Add (identifier guid) 4 root text []))

abbrev pub add_x : Event
add_x = add_container (codes "A") 16 (codes "x")

abbrev pub add_y : Event
add_y = add_container (codes "A") 17 (codes "y")

abbrev pub of_a : List ℕ → Outcome → Answer
of_a verb outcome = answer verb (codes "A") outcome

-- a second object is added while the disk stops after so many calls
abbrev pub stopped_add : ℕ → Crash → List Event
stopped_add calls how =
    new_a
    ∷ add_x
    ∷ Meets (codes "A") (StopAfter calls how)
    ∷ add_y
    ∷ Meets (codes "A") Start
    ∷ Asks (codes "A") Directory
    ∷ []

abbrev pub one_object : List Entry
one_object = container 16 (codes "x") ∷ []

abbrev pub two_objects : List Entry
two_objects = container 16 (codes "x") ∷ container 17 (codes "y") ∷ []

-- what the second add and the start are answered, and what is there then
abbrev pub planned_add_told : Outcome → Outcome → List Entry → List Answer
planned_add_told added started entries =
    of_a (codes "controller") outcomes.Ok
    ∷ of_a (codes "add") (outcomes.Usn 1)
    ∷ of_a (codes "stop") outcomes.Ok
    ∷ of_a (codes "add") added
    ∷ of_a (codes "start") started
    ∷ of_a (codes "show") (outcomes.Show entries)
    ∷ []

abbrev pub stopped_add_told : List Entry → List Answer
stopped_add_told entries = planned_add_told outcomes.Stopped outcomes.Ok entries

-- a plan that isn't met in the call waits on
abbrev pub waiting_plan_told : List Answer
waiting_plan_told = planned_add_told (outcomes.Usn 2) outcomes.Up two_objects

-- a start is stopped, too
abbrev pub stopped_start : List Event
stopped_start =
    new_a
    ∷ add_x
    ∷ Meets (codes "A") Stop
    ∷ Meets (codes "A") (StopAfter 0 Lost)
    ∷ Meets (codes "A") Start
    ∷ Asks (codes "A") Directory
    ∷ Meets (codes "A") Start
    ∷ Asks (codes "A") Directory
    ∷ []

abbrev pub stopped_start_told : List Answer
stopped_start_told =
    of_a (codes "controller") outcomes.Ok
    ∷ of_a (codes "add") (outcomes.Usn 1)
    ∷ of_a (codes "stop") outcomes.Ok
    ∷ of_a (codes "stop") outcomes.Ok
    ∷ of_a (codes "start") outcomes.Stopped
    ∷ of_a (codes "show") outcomes.Down
    ∷ of_a (codes "start") outcomes.Ok
    ∷ of_a (codes "show") (outcomes.Show one_object)
    ∷ []

-- a device call fails: the controller answers so until it is started
abbrev pub failing_device : List Event
failing_device =
    new_a
    ∷ Meets (codes "A") (Fail 0)
    ∷ add_x
    ∷ add_x
    ∷ Meets (codes "A") Start
    ∷ Meets (codes "A") Stop
    ∷ Asks (codes "A") Directory
    ∷ Meets (codes "A") Start
    ∷ Meets (codes "A") Start
    ∷ Asks (codes "A") Directory
    ∷ []

abbrev pub failing_device_told : List Answer
failing_device_told =
    of_a (codes "controller") outcomes.Ok
    ∷ of_a (codes "fail") outcomes.Ok
    ∷ of_a (codes "add") outcomes.Disk
    ∷ of_a (codes "add") outcomes.Failed
    ∷ of_a (codes "start") outcomes.Ok
    ∷ of_a (codes "stop") outcomes.Ok
    ∷ of_a (codes "show") outcomes.Down
    ∷ of_a (codes "start") outcomes.Ok
    ∷ of_a (codes "start") outcomes.Up
    ∷ of_a (codes "show") (outcomes.Show [])
    ∷ []

-- the last sync fails: the next start finds the change
abbrev pub failing_last_sync : List Event
failing_last_sync = new_a ∷ Meets (codes "A") (Fail 3) ∷ add_x ∷ Meets (codes "A") Start ∷ Asks (codes "A") Directory ∷ []

abbrev pub failing_last_sync_told : List Answer
failing_last_sync_told =
    of_a (codes "controller") outcomes.Ok
    ∷ of_a (codes "fail") outcomes.Ok
    ∷ of_a (codes "add") outcomes.Disk
    ∷ of_a (codes "start") outcomes.Ok
    ∷ of_a (codes "show") (outcomes.Show one_object)
    ∷ []

-- what a call leaves of a plan is met by a later one
abbrev pub met_later : List Event
met_later = new_a ∷ Meets (codes "A") (StopAfter 5 Kept) ∷ add_x ∷ add_y ∷ Meets (codes "A") Start ∷ Asks (codes "A") Directory ∷ []

abbrev pub met_later_told : List Answer
met_later_told =
    of_a (codes "controller") outcomes.Ok
    ∷ of_a (codes "stop") outcomes.Ok
    ∷ of_a (codes "add") (outcomes.Usn 1)
    ∷ of_a (codes "add") outcomes.Stopped
    ∷ of_a (codes "start") outcomes.Ok
    ∷ of_a (codes "show") (outcomes.Show one_object)
    ∷ []
