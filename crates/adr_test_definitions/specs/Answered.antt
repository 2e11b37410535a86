-- Small runs, written out as events with the answers that they get.
use Rattle.std.specs.Prelude.{ℕ, List, [], ◌∷◌, codes}
use Rattle.adr_call.specs.declared.event.Event.{Event}
use Rattle.adr_call.specs.declared.call.Call.TheVariants.{Write}
use Rattle.adr_call.specs.declared.event.Event.TheVariants.{Time, Calls, Asks, Comes}
use Rattle.adr_call.specs.declared.event.Coming.TheVariants.{Fresh}
use Rattle.adr_call.specs.declared.answer.Answer.{Answer}
use Rattle.adr_call.specs.declared.write.Write.TheVariants as writes
use Rattle.adr_call.specs.declared.report.Report.TheVariants.{Directory}
use Rattle.adr_call.specs.declared.outcome.Plainly.TheVariants.{Id}
use Rattle.adr_call.specs.declared.outcome.Outcome.TheVariants as outcomes
use Rattle.adr_model.specs.Place.{identifier, root, lost_and_found}
use Rattle.adr_model.specs.Refused.{field}
use Rattle.adr_model.specs.World.{answer}
use Rattle.adr_test_definitions.specs.Acting.{account, user}

abbrev pub add_user : ℕ → List ℕ → List ℕ → Event
add_user guid name login = Calls (codes "A") (Write (writes.Add (identifier guid) 5 root name (account login)))

-- one controller, one person, and the directory
abbrev pub first_person : List Event
first_person =
    Comes (codes "A") (identifier 161) (Fresh (identifier 160))
    ∷ Time 1000
    ∷ add_user 16 (codes "Ann") (codes "ann")
    ∷ Asks (codes "A") Directory
    ∷ []

abbrev pub first_person_answers : List Answer
first_person_answers =
    answer (codes "controller") (codes "A") outcomes.Ok
    ∷ answer (codes "add") (codes "A") (outcomes.Usn 1)
    ∷ answer (codes "show") (codes "A") (outcomes.Show (user 16 root (codes "Ann") (codes "ann") ∷ []))
    ∷ []

-- adds that are refused, and one between them that is not; the directory goes by GUID
abbrev pub refused_adds : List Event
refused_adds =
    Comes (codes "A") (identifier 161) (Fresh (identifier 160))
    ∷ add_user 17 (codes "Ann") (codes "ann")
    ∷ add_user 18 (codes "ANN") (codes "x")
    ∷ add_user 17 (codes "Bo") (codes "bo")
    ∷ add_user 1 (codes "Bo") (codes "bo")
    ∷ add_user 18 (codes "LostAndFound") (codes "x")
    ∷ add_user 16 (codes "Bo") (codes "bo")
    ∷ Asks (codes "A") Directory
    ∷ []

abbrev pub refused_adds_answers : List Answer
refused_adds_answers =
    answer (codes "controller") (codes "A") outcomes.Ok
    ∷ answer (codes "add") (codes "A") (outcomes.Usn 1)
    ∷ answer (codes "add") (codes "A") (outcomes.Refused 13 (codes "NameTaken") (field (codes "holder") (Id (identifier 17)) ∷ []))
    ∷ answer (codes "add") (codes "A") (outcomes.Refused 17 (codes "GuidThere") (field (codes "guid") (Id (identifier 17)) ∷ []))
    ∷ answer (codes "add") (codes "A") (outcomes.Refused 17 (codes "GuidThere") (field (codes "guid") (Id root) ∷ []))
    ∷ answer (codes "add") (codes "A") (outcomes.Refused 13 (codes "NameTaken") (field (codes "holder") (Id lost_and_found) ∷ []))
    ∷ answer (codes "add") (codes "A") (outcomes.Usn 2)
    ∷ answer (codes "show") (codes "A") (outcomes.Show (user 16 root (codes "Bo") (codes "bo") ∷ user 17 root (codes "Ann") (codes "ann") ∷ []))
    ∷ []
