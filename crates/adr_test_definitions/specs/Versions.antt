-- Runs with times, with two schemas, and with an object of an image that comes again.
use Rattle.std.specs.Prelude.{true, pos, ℕ, List, [], ◌∷◌, ◌++◌, codes}
use Rattle.adr_values.specs.declared.content.Value.TheVariants.{Text, Number as Integer}
use Rattle.adr_call.specs.declared.event.Event.{Event}
use Rattle.adr_call.specs.declared.call.Call.TheVariants as calls
use Rattle.adr_call.specs.declared.event.Event.TheVariants as events
use Rattle.adr_call.specs.declared.event.Use.TheVariants as used
use Rattle.adr_call.specs.declared.event.Made.TheVariants as mades
use Rattle.adr_call.specs.declared.event.Exchange.TheVariants as exchanges
use Rattle.adr_call.specs.declared.answer.Answer.{Answer}
use Rattle.adr_call.specs.declared.write.Write.TheVariants as writes
use Rattle.adr_call.specs.declared.report.Report.TheVariants as reports
use Rattle.adr_call.specs.declared.outcome.Plainly.TheVariants.{Id, Number}
use Rattle.adr_call.specs.declared.outcome.Outcome.{Outcome}
use Rattle.adr_call.specs.declared.outcome.Outcome.TheVariants as outcomes
use Rattle.adr_call.specs.declared.directory.Entry.{Entry}
use Rattle.adr_model.specs.Place.{identifier, root}
use Rattle.adr_model.specs.Refused.{field, schemas_differ}
use Rattle.adr_model.specs.World.{answer}
use Rattle.adr_test_definitions.specs.Acting.{mark, bare, account, user}
use Rattle.adr_test_definitions.specs.Stops.{new_a, new_b, add_container}
use Rattle.adr_test_definitions.specs.Exchanges.{a, b, both_made, asked, served, one_taken}

-- what B has seen, behind one reply of version 2, and of version 1
abbrev pub one_object_of_a : List Event
one_object_of_a = new_a ∷ new_b ∷ events.Time 7 ∷ add_container a 16 (codes "x") ∷ []

abbrev pub in_version : ℕ → List Event
in_version version = one_object_of_a ++ events.Binds b (mades.Ask a 10 version) (codes "q") ∷ events.Binds a (mades.Serve (codes "q")) (codes "r") ∷ events.Uses b used.Deliver (codes "r") ∷ events.Asks b reports.Vector ∷ []

abbrev pub seen_by_b : Outcome → List Answer
seen_by_b seen = both_made ++ answer (codes "add") a (outcomes.Usn 1) ∷ [] ++ one_taken ++ answer (codes "vector") b seen ∷ []

abbrev pub one_time_told : List Answer
one_time_told = seen_by_b (outcomes.Vector ((identifier 161, 1) ∷ (identifier 177, 1) ∷ []) ((identifier 161, 7) ∷ []))

abbrev pub no_time_told : List Answer
no_time_told = seen_by_b (outcomes.Vector ((identifier 161, 1) ∷ (identifier 177, 1) ∷ []) [])

-- a class of schema 2, and controllers of two schemas
abbrev pub other_schema : List Event
other_schema =
    new_a
    ∷ new_b
    ∷ events.Calls a (calls.Write (writes.Add (identifier 16) 8 root (codes "c") []))
    ∷ events.Calls a calls.Upgrade
    ∷ events.Calls a (calls.Write (writes.Add (identifier 16) 8 root (codes "c") ((21, Text (codes "t") ∷ []) ∷ [])))
    ∷ events.Binds b (mades.Ask a 10 2) (codes "q")
    ∷ events.Binds a (mades.Serve (codes "q")) (codes "r")
    ∷ events.Calls b calls.Upgrade
    ∷ events.Calls b calls.Upgrade
    ∷ events.Goes b (exchanges.Cycle a 10)
    ∷ events.Asks b reports.Directory
    ∷ []

abbrev pub other_schema_told : List Answer
other_schema_told =
    both_made
    ++ answer (codes "add") a (outcomes.Refused 1 (codes "UnknownClass") [])
    ∷ answer (codes "upgrade") a outcomes.Ok
    ∷ answer (codes "add") a (outcomes.Usn 1)
    ∷ asked b
    ∷ answer (codes "serve") a (schemas_differ 2 1)
    ∷ answer (codes "upgrade") b outcomes.Ok
    ∷ answer (codes "upgrade") b (outcomes.Refused 52 (codes "SchemaThere") (field (codes "number") (Number 2) ∷ []))
    ∷ asked b
    ∷ served (mark 0 0 0) (mark 1 1 1) 1 3 true
    ∷ answer (codes "deliver") b (outcomes.Took 1 1 1)
    ∷ answer (codes "show") b (outcomes.Show (record (bare 16 8 root (codes "c")) { values = (21, Text (codes "t") ∷ []) ∷ [] } ∷ []))
    ∷ []

-- a user and its container are deleted, and come again of an image: the user with its membership
abbrev pub revived : List Event
revived =
    new_a
    ∷ events.Time 10
    ∷ events.Calls a (calls.Write (writes.Add (identifier 16) 3 root (codes "o") []))
    ∷ events.Calls a (calls.Write (writes.Add (identifier 17) 5 (identifier 16) (codes "u") (account (codes "u"))))
    ∷ events.Calls a (calls.Write (writes.Add (identifier 18) 6 root (codes "g") ((19, Integer (pos 2) ∷ []) ∷ [])))
    ∷ events.Calls a (calls.Write (writes.Link (identifier 18) 30 (identifier 17)))
    ∷ events.Binds a mades.Backup (codes "i")
    ∷ events.Calls a (calls.Write (writes.Delete (identifier 17)))
    ∷ events.Calls a (calls.Write (writes.Delete (identifier 16)))
    ∷ events.Time 20
    ∷ events.Uses a (used.Revive (identifier 17) root (codes "u")) (codes "i")
    ∷ events.Uses a (used.Revive (identifier 16) root (codes "o")) (codes "i")
    ∷ events.Asks a reports.Directory
    ∷ events.Uses a (used.Revive (identifier 17) root (codes "u")) (codes "i")
    ∷ events.Uses a (used.Revive (identifier 19) root (codes "z")) (codes "i")
    ∷ events.Uses a (used.Revive (identifier 17) root (codes "u")) (codes "j")
    ∷ []

abbrev pub revived_shown : List Entry
revived_shown =
    bare 16 3 root (codes "o")
    ∷ record (user 17 root (codes "u") (codes "u")) { links = (31, identifier 18 ∷ []) ∷ [] }
    ∷ record (bare 18 6 root (codes "g")) { values = (19, Integer (pos 2) ∷ []) ∷ []; links = (30, identifier 17 ∷ []) ∷ [] }
    ∷ []

abbrev pub revived_told : List Answer
revived_told =
    answer (codes "controller") a outcomes.Ok
    ∷ answer (codes "add") a (outcomes.Usn 1)
    ∷ answer (codes "add") a (outcomes.Usn 2)
    ∷ answer (codes "add") a (outcomes.Usn 3)
    ∷ answer (codes "link") a (outcomes.Usn 4)
    ∷ answer (codes "backup") a outcomes.Ok
    ∷ answer (codes "delete") a (outcomes.Usn 5)
    ∷ answer (codes "delete") a (outcomes.Usn 6)
    ∷ answer (codes "revive") a (outcomes.Usn 8)
    ∷ answer (codes "revive") a (outcomes.Usn 9)
    ∷ answer (codes "show") a (outcomes.Show revived_shown)
    ∷ answer (codes "revive") a (outcomes.Refused 61 (codes "StillLive") (field (codes "guid") (Id (identifier 17)) ∷ []))
    ∷ answer (codes "revive") a (outcomes.Refused 60 (codes "NotInImage") (field (codes "guid") (Id (identifier 19)) ∷ []))
    ∷ answer (codes "revive") a outcomes.Absent
    ∷ []
