-- Logs that are nearly full, and disks that are put back with their logs.
use Rattle.std.specs.Prelude.{ℕ, ◌-◌, false, List, [], ◌∷◌, Option, codes}
use Rattle.std.specs.Option.{option_map}
use Rattle.adr_call.specs.declared.event.Event.{Event}
use Rattle.adr_call.specs.declared.event.Event.TheVariants.{Asks, Binds, Uses}
use Rattle.adr_call.specs.declared.event.Use.TheVariants.{Rollback}
use Rattle.adr_call.specs.declared.event.Made.TheVariants.{Serve, Snapshot}
use Rattle.adr_call.specs.declared.answer.Answer.{Answer}
use Rattle.adr_call.specs.declared.report.Report.TheVariants.{Directory}
use Rattle.adr_call.specs.declared.outcome.Plainly.TheVariants.{Number, Word}
use Rattle.adr_call.specs.declared.outcome.Outcome.TheVariants as outcomes
use Rattle.adr_model.specs.Place.{identifier}
use Rattle.adr_model.specs.Lengths.{first_area, area_version, new_log}
use Rattle.adr_model.specs.Replica.{on_disk}
use Rattle.adr_model.specs.Refused.{field, rolled_back}
use Rattle.adr_model.specs.World.{World, empty_world, answer, replica_at}
use Rattle.adr_model.specs.Step.{answers}
use Rattle.adr_test_definitions.specs.Acting.{first, second, container}
use Rattle.adr_test_definitions.specs.Stops.{new_a, add_container}

-- a world of two controllers, of which the log of the first ends here, behind a long image
abbrev pub with_log : ℕ → World
with_log end =
    record empty_world {
      replicas =
          on_disk (codes "A") first (record { second = false; place = first_area; version = area_version; first = end - 1; log_end = end })
          ∷ on_disk (codes "B") second (new_log second)
          ∷ [];
    }

abbrev pub full_log : List ℕ → Answer
full_log verb =
    answer verb (codes "A") (outcomes.Refused 22 (codes "Full") (field (codes "table") (Word (codes "Log")) ∷ field (codes "limit") (Number 8589934592) ∷ []))

-- a new disk's log ends at 101; a container of one letter takes 183 bytes, whose object is 140 of them. One fits to the last
-- byte, and the next isn't written
abbrev pub last_room : List Event
last_room = add_container (codes "A") 16 (codes "x") ∷ add_container (codes "A") 17 (codes "y") ∷ Asks (codes "A") Directory ∷ []

abbrev pub last_room_told : List Answer
last_room_told =
    answer (codes "add") (codes "A") (outcomes.Usn 1)
    ∷ full_log (codes "add")
    ∷ answer (codes "show") (codes "A") (outcomes.Show (container 16 (codes "x") ∷ []))
    ∷ []

-- one byte less of room
abbrev pub no_room_told : List Answer
no_room_told = full_log (codes "add") ∷ full_log (codes "add") ∷ answer (codes "show") (codes "A") (outcomes.Show []) ∷ []

-- where a log ends, of what a start finds and of what is safe
abbrev pub log_ends : World → Option (ℕ × ℕ)
log_ends w = option_map (λ r. (r.device.read_log.log_end, r.device.safe_log.log_end)) (replica_at w (codes "A"))

-- a disk that is put back has the log that it had: its end is that of the snapshot, 366 bytes behind that of a new disk. A new
-- disk of that state would end at 443
abbrev pub put_back : List Event
put_back =
    new_a
    ∷ add_container (codes "A") 16 (codes "x")
    ∷ add_container (codes "A") 17 (codes "y")
    ∷ Binds (codes "A") Snapshot (codes "s")
    ∷ add_container (codes "A") 18 (codes "z")
    ∷ Uses (codes "A") Rollback (codes "s")
    ∷ []

-- a controller that was put back is asked by one who has seen more, and has no room to note that it is shut off: 35 bytes
abbrev pub asked_for_more : ℕ → List Answer
asked_for_more end =
    answers (record (with_log end) { requests = (codes "q", record { version = 2; dest = identifier 176; source = identifier 160; inv = identifier 161; mark = record { obj = 1; prop = 1; seen = 1 }; schema = 1; max = 10; vector = [] }) ∷ [] })
    (Binds (codes "A") (Serve (codes "q")) (codes "r") ∷ [])

abbrev pub shut_off : List Answer
shut_off = answer (codes "serve") (codes "A") (rolled_back (identifier 161) 0 1) ∷ []
