-- Runs of two controllers, line by line.
use Rattle.std.specs.Prelude.{true, false, ℕ, List, [], ◌∷◌, ◌++◌, Bool, codes}
use Rattle.adr_values.specs.declared.content.Value.TheVariants.{Text}
use Rattle.adr_values.specs.declared.mark.Mark.{Mark}
use Rattle.adr_call.specs.declared.event.Event.{Event}
use Rattle.adr_call.specs.declared.call.Call.TheVariants as calls
use Rattle.adr_call.specs.declared.event.Event.TheVariants as events
use Rattle.adr_call.specs.declared.event.Coming.TheVariants as comings
use Rattle.adr_call.specs.declared.event.Use.TheVariants as used
use Rattle.adr_call.specs.declared.event.Made.TheVariants as mades
use Rattle.adr_call.specs.declared.event.Exchange.TheVariants as exchanges
use Rattle.adr_call.specs.declared.answer.Answer.{Answer}
use Rattle.adr_call.specs.declared.write.Write.TheVariants as writes
use Rattle.adr_call.specs.declared.report.Report.TheVariants as reports
use Rattle.adr_call.specs.declared.outcome.Plainly.TheVariants.{Id, Number, Mark as OneMark}
use Rattle.adr_call.specs.declared.outcome.Outcome.TheVariants as outcomes
use Rattle.adr_model.specs.Place.{identifier}
use Rattle.adr_model.specs.Refused.{field, quarantined, rolled_back}
use Rattle.adr_model.specs.World.{answer}
use Rattle.adr_test_definitions.specs.Acting.{mark, container}
use Rattle.adr_test_definitions.specs.Stops.{new_a, new_b, add_container}

-- a name of one letter, and an answer of the two controllers
abbrev pub a : List ℕ
a = codes "A"

abbrev pub b : List ℕ
b = codes "B"

abbrev pub both_made : List Answer
both_made = answer (codes "controller") a outcomes.Ok ∷ answer (codes "controller") b outcomes.Ok ∷ []

abbrev pub served : Mark → Mark → ℕ → ℕ → Bool → Answer
served from to items rows last = answer (codes "serve") a (outcomes.Served from to items rows last)

abbrev pub asked : List ℕ → Answer
asked name = answer (codes "ask") name outcomes.Ok

-- the second one takes the one object of the first
abbrev pub one_taken : List Answer
one_taken = asked b ∷ served (mark 0 0 0) (mark 1 1 1) 1 2 true ∷ answer (codes "deliver") b (outcomes.Took 1 1 1) ∷ []

-- a change between replies of one item, and what a cycle then has
abbrev pub cut_and_cycle : List Event
cut_and_cycle =
    new_a
    ∷ new_b
    ∷ add_container a 16 (codes "x")
    ∷ add_container a 17 (codes "y")
    ∷ events.Goes b (exchanges.Pull a 1)
    ∷ events.Calls a (calls.Write (writes.Modify (identifier 16) ((12, Text (codes "d") ∷ []) ∷ [])))
    ∷ events.Goes b (exchanges.Cycle a 1)
    ∷ []

abbrev pub cut_and_cycle_told : List Answer
cut_and_cycle_told =
    both_made
    ++ answer (codes "add") a (outcomes.Usn 1)
    ∷ answer (codes "add") a (outcomes.Usn 2)
    ∷ asked b
    ∷ served (mark 0 0 0) (mark 1 0 2) 1 2 false
    ∷ answer (codes "deliver") b (outcomes.Took 1 1 1)
    ∷ answer (codes "modify") a (outcomes.Usn 3)
    ∷ asked b
    ∷ served (mark 1 0 2) (mark 2 0 3) 1 2 false
    ∷ answer (codes "deliver") b (outcomes.Took 1 1 2)
    ∷ asked b
    ∷ served (mark 2 0 3) (mark 3 3 3) 1 3 true
    ∷ answer (codes "deliver") b (outcomes.Took 1 1 3)
    ∷ []

-- a reply that is delivered twice
abbrev pub delivered_twice : List Event
delivered_twice =
    new_a
    ∷ new_b
    ∷ add_container a 16 (codes "x")
    ∷ events.Binds b (mades.Ask a 10 2) (codes "q")
    ∷ events.Binds a (mades.Serve (codes "q")) (codes "r")
    ∷ events.Uses b used.Deliver (codes "r")
    ∷ events.Uses b used.Deliver (codes "r")
    ∷ events.Uses b used.Deliver (codes "s")
    ∷ []

abbrev pub delivered_twice_told : List Answer
delivered_twice_told =
    both_made
    ++ answer (codes "add") a (outcomes.Usn 1) ∷ []
    ++ one_taken
    ++ answer (codes "deliver") b (outcomes.Refused 41 (codes "Stale") (field (codes "mark") (OneMark (mark 1 1 1)) ∷ field (codes "from") (OneMark (mark 0 0 0)) ∷ []))
    ∷ answer (codes "deliver") b outcomes.Absent
    ∷ []

-- a restore: what it lost comes back from the partner
abbrev pub restore : List Event
restore =
    new_a
    ∷ new_b
    ∷ events.Binds a mades.Backup (codes "i")
    ∷ add_container a 16 (codes "1")
    ∷ events.Goes b (exchanges.Pull a 10)
    ∷ events.Comes a (identifier 162) (comings.Restored (codes "i"))
    ∷ events.Asks a reports.Directory
    ∷ events.Goes a (exchanges.Cycle b 10)
    ∷ add_container a 17 (codes "2")
    ∷ events.Goes b (exchanges.Cycle a 10)
    ∷ events.Asks b reports.Directory
    ∷ []

abbrev pub restore_told : List Answer
restore_told =
    both_made
    ++ answer (codes "backup") a outcomes.Ok ∷ answer (codes "add") a (outcomes.Usn 1) ∷ []
    ++ one_taken
    ++ answer (codes "restore") a outcomes.Ok
    ∷ answer (codes "show") a (outcomes.Show [])
    ∷ asked a
    ∷ answer (codes "serve") b (outcomes.Served (mark 0 0 0) (mark 1 1 1) 1 2 true)
    ∷ answer (codes "deliver") a (outcomes.Took 1 1 1)
    ∷ answer (codes "add") a (outcomes.Usn 2)
    ∷ asked b
    ∷ served (mark 0 0 0) (mark 2 2 2) 1 2 true
    ∷ answer (codes "deliver") b (outcomes.Took 1 1 2)
    ∷ answer (codes "show") b (outcomes.Show (container 16 (codes "1") ∷ container 17 (codes "2") ∷ []))
    ∷ []

-- a database that was put back
abbrev pub rollback : List Event
rollback =
    new_a
    ∷ new_b
    ∷ events.Binds a mades.Snapshot (codes "s")
    ∷ add_container a 16 (codes "x")
    ∷ events.Goes b (exchanges.Cycle a 10)
    ∷ events.Uses a used.Rollback (codes "s")
    ∷ events.Binds b (mades.Ask a 10 2) (codes "q")
    ∷ events.Binds a (mades.Serve (codes "q")) (codes "r")
    ∷ add_container a 17 (codes "y")
    ∷ events.Binds a mades.Backup (codes "i")
    ∷ events.Uses b used.Deliver (codes "r")
    ∷ []

abbrev pub rollback_told : List Answer
rollback_told =
    both_made
    ++ answer (codes "snapshot") a outcomes.Ok ∷ answer (codes "add") a (outcomes.Usn 1) ∷ []
    ++ one_taken
    ++ answer (codes "rollback") a outcomes.Ok
    ∷ asked b
    ∷ answer (codes "serve") a (rolled_back (identifier 161) 0 1)
    ∷ answer (codes "add") a quarantined
    ∷ answer (codes "backup") a quarantined
    ∷ answer (codes "deliver") b outcomes.Absent
    ∷ []

-- a collected tombstone: a partner is too old, and a new controller is made of an image
abbrev pub collection : List Event
collection =
    new_a
    ∷ new_b
    ∷ events.Time 10
    ∷ add_container a 16 (codes "x")
    ∷ events.Goes b (exchanges.Cycle a 10)
    ∷ events.Calls a (calls.Write (writes.Delete (identifier 16)))
    ∷ events.Time 100
    ∷ events.Calls a (calls.Collect 50)
    ∷ events.Binds b (mades.Ask a 10 2) (codes "q")
    ∷ events.Binds a (mades.Serve (codes "q")) (codes "r")
    ∷ events.Binds a mades.Backup (codes "i")
    ∷ events.Comes (codes "C") (identifier 193) (comings.Installed (identifier 192) (codes "i"))
    ∷ events.Goes (codes "C") (exchanges.Cycle a 10)
    ∷ []

abbrev pub collection_told : List Answer
collection_told =
    both_made
    ++ answer (codes "add") a (outcomes.Usn 1) ∷ []
    ++ one_taken
    ++ answer (codes "delete") a (outcomes.Usn 2)
    ∷ answer (codes "collect") a (outcomes.Removed 1)
    ∷ asked b
    ∷ answer (codes "serve") a (outcomes.Refused 32 (codes "TooOld") (field (codes "inv") (Id (identifier 161)) ∷ field (codes "purged") (Number 2) ∷ field (codes "has") (Number 1) ∷ []))
    ∷ answer (codes "backup") a outcomes.Ok
    ∷ answer (codes "install") (codes "C") outcomes.Ok
    ∷ asked (codes "C")
    ∷ served (mark 0 0 0) (mark 3 3 3) 0 0 true
    ∷ answer (codes "deliver") (codes "C") (outcomes.Took 0 0 3)
    ∷ []

-- a request that is bound to a name
abbrev pub asked_once : List Event
asked_once = new_a ∷ new_b ∷ events.Binds b (mades.Ask a 10 2) (codes "q") ∷ []
