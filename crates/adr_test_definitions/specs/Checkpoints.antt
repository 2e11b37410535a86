-- A commit that is due: the logs that its nine calls leave under plans, when it comes, and where its new area stands.
use Rattle.std.specs.Prelude.{ℕ, ◌+◌, List, [], ◌∷◌, Bool, true, false, not, Option, Some, None, map, codes, if◌then◌else◌}
use Rattle.std.specs.List.{range_with_len}
use Rattle.adr_disk.specs.declared.memory.Crash.{Crash}
use Rattle.adr_disk.specs.declared.memory.Crash.TheVariants.{Kept, Lost, Torn}
use Rattle.adr_call.specs.declared.event.Event.{Event}
use Rattle.adr_call.specs.declared.event.Event.TheVariants.{Asks, Meets}
use Rattle.adr_call.specs.declared.event.Meeting.TheVariants.{Start, StopAfter}
use Rattle.adr_call.specs.declared.answer.Answer.{Answer}
use Rattle.adr_call.specs.declared.report.Report.TheVariants.{Directory}
use Rattle.adr_call.specs.declared.outcome.Outcome.TheVariants as outcomes
use Rattle.adr_call.specs.declared.directory.Entry.{Entry}
use Rattle.adr_model.specs.Change.{Change}
use Rattle.adr_model.specs.Lengths.{Log, first_area, area_version, is_due, checkpointed}
use Rattle.adr_model.specs.Collect.{quarantine}
use Rattle.adr_disk.specs.declared.memory.Mishap.{Mishap}
use Rattle.adr_disk.specs.declared.memory.Mishap.TheVariants.{Fails, Stops}
use Rattle.adr_disk.specs.declared.memory.Plan.{Plan}
use Rattle.adr_model.specs.Replica.{ToQuarantine, Pending, Device, Replica, on_disk, rests_at, Went, Passed, Met, commit_goes, device_after_commit, device_after_start}
use Rattle.adr_model.specs.World.{World, empty_world}
use Rattle.adr_test_definitions.specs.Acting.{first}
use Rattle.adr_test_definitions.specs.Runs.{object}
use Rattle.adr_test_definitions.specs.Stops.{add_x, of_a}
use Rattle.adr_test_definitions.specs.Logs.{full_log}

-- a log in this slot, whose area stands at a place, with the 38 bytes of the first controller's image, and which ends here
abbrev pub log_at : Bool → ℕ → ℕ → Log
log_at slot place end = record { second = slot; place = place; version = area_version; first = place + 44; log_end = end }

-- with the live area in the first slot, and in the second one
abbrev pub in_both : {A : Type 0} → (Bool → A) → List A
in_both by_slot = by_slot false ∷ by_slot true ∷ []

-- ---- nine calls: a controller is quarantined, by a record of 35 bytes

-- the log before, the one of the new area, and the one with the record
abbrev pub old_log : Bool → Log
old_log slot = log_at slot first_area 70000

abbrev pub new_area : Bool → Log
new_area slot = log_at (not slot) 70000 70045

abbrev pub with_record : Bool → Log
with_record slot = log_at (not slot) 70000 70080

-- the log that a start finds, and the one that is safe
abbrev pub leaves : Log → Log → Option Plan → Device
leaves read safe plan = record { read_log = read; safe_log = safe; plan = plan }

abbrev pub stands : Device → Replica
stands device = record (on_disk (codes "A") first (old_log false)) { device = device }

abbrev pub due : Bool → Option Plan → Replica
due slot plan = stands (leaves (old_log slot) (old_log slot) plan)

abbrev pub shuts_off : Pending
shuts_off = record { call = ToQuarantine; change = quarantine first }

abbrev pub meets : ℕ → Mishap → Option Plan
meets calls mishap = Some (record { calls = calls; mishap = mishap })

-- no plan, and one behind all nine calls
abbrev pub commits_due : Bool → List Device
commits_due slot = map (λ plan. device_after_commit (due slot plan) shuts_off) (None ∷ meets 9 Fails ∷ [])

abbrev pub commits_due_told : Bool → List Device
commits_due_told slot = map (leaves (with_record slot) (with_record slot)) (None ∷ meets 0 Fails ∷ [])

-- a call fails, or the disk stops there, and all that isn't synced is kept, lost or torn
abbrev pub mishaps : List Mishap
mishaps = Fails ∷ Stops Kept ∷ Stops Lost ∷ Stops Torn ∷ []

abbrev pub nine_calls : Bool → List (List Device)
nine_calls slot = map (λ calls. map (λ mishap. device_after_commit (due slot (meets calls mishap)) shuts_off) mishaps) (range_with_len 0 9)

-- one for each mishap
abbrev pub mishaps_told : Device → Log → Log → Log → List Device
mishaps_told failed kept lost torn = failed ∷ rests_at kept ∷ rests_at lost ∷ rests_at torn ∷ []

abbrev pub nothing_done : Log → List Device
nothing_done l = mishaps_told (rests_at l) l l l

-- a torn selector selects the second slot, whichever was meant
abbrev pub behind_torn_selector : Bool → Log
behind_torn_selector slot = if slot then old_log slot else new_area slot

-- in turn: the area, its slot, a sync, the selector, a sync, the record, a sync, its gate, a sync
abbrev pub nine_calls_told : Bool → List (List Device)
nine_calls_told slot = by (old_log slot) (new_area slot) (with_record slot) (behind_torn_selector slot)
  where
    by : Log → Log → Log → Log → List (List Device)
    by old area next torn =
        nothing_done old
        ∷ nothing_done old
        ∷ nothing_done old
        ∷ mishaps_told (rests_at old) area old torn
        ∷ mishaps_told (leaves area old None) area old torn
        ∷ nothing_done area
        ∷ nothing_done area
        ∷ mishaps_told (rests_at area) next area next
        ∷ mishaps_told (leaves next area None) next area next
        ∷ []

-- to the states a fault before the record is one of its first call
abbrev pub states_under : Bool → List Went
states_under slot = map (λ calls. commit_goes (due slot (meets calls Fails)) shuts_off) (range_with_len 0 10)

abbrev pub states_told : Bool → List Went
states_told slot =
    Met 0 Fails
    ∷ Met 0 Fails
    ∷ Met 0 Fails
    ∷ Met 0 Fails
    ∷ Met 0 Fails
    ∷ Met 0 Fails
    ∷ Met 1 Fails
    ∷ Met 2 Fails
    ∷ Met 3 Fails
    ∷ Passed (meets 0 Fails)
    ∷ []

-- a start behind the call that failed, whose sync meets each mishap
abbrev pub start_behind : ℕ → Bool → List Device
start_behind calls slot = map (λ mishap. device_after_start (stands (record left { plan = meets 0 mishap }))) mishaps
  where
    left : Device
    left = device_after_commit (due slot (meets calls Fails)) shuts_off

-- behind the fifth call the selector isn't synced, and behind the last one the gate isn't
abbrev pub selector_told : Bool → List Device
selector_told slot = mishaps_told (leaves (new_area slot) (old_log slot) None) (new_area slot) (old_log slot) (behind_torn_selector slot)

abbrev pub gate_told : Bool → List Device
gate_told slot = mishaps_told (leaves (with_record slot) (new_area slot) None) (with_record slot) (new_area slot) (with_record slot)

-- ---- when a checkpoint comes, and where its area stands

-- a log behind a new disk's area, with records of so many bytes
abbrev pub with_records : ℕ → Log
with_records bytes = log_at false first_area (101 + bytes)

abbrev pub is_due_behind : ℕ → Bool
is_due_behind bytes = is_due (with_records bytes) (quarantine first)

-- a change that removes so many objects has a record of 65595 bytes, longer than the 38 of the image and 64 KiB
abbrev pub long_change : Change
long_change = record (quarantine first) { removed = map (λ n. object n 161 1) (range_with_len 0 1639) }

abbrev pub is_long_due_behind : ℕ → Bool
is_long_due_behind bytes = is_due (with_records bytes) long_change

-- without a record, in an area of this version
abbrev pub is_due_at : ℕ → Bool
is_due_at version = is_due (record (with_records 0) { version = version }) (quarantine first)

abbrev pub anew : Log → Log
anew l = checkpointed l first.store

-- ---- by lines

-- a world of one controller, whose log stands so
abbrev pub with_log_at : Log → World
with_log_at l = record empty_world { replicas = on_disk (codes "A") first l ∷ [] }

-- the new area has 45 bytes and begins where the log ended, and the object's record has 183
abbrev pub ends_at : ℕ → World
ends_at end = with_log_at (log_at false first_area end)

-- a log up to the limit, with room before its area
abbrev pub full_of_records : World
full_of_records = with_log_at (log_at false 8589800000 8589934592)

abbrev pub added : List Answer
added = of_a (codes "add") (outcomes.Usn 1) ∷ []

abbrev pub not_added : List Answer
not_added = full_log (codes "add") ∷ []

-- an object is added while the disk stops behind so many of nine calls
abbrev pub stopped_due_add : ℕ → Crash → List Event
stopped_due_add calls how = Meets (codes "A") (StopAfter calls how) ∷ add_x ∷ Meets (codes "A") Start ∷ Asks (codes "A") Directory ∷ []

abbrev pub stopped_due_add_told : List Entry → List Answer
stopped_due_add_told entries =
    of_a (codes "stop") outcomes.Ok
    ∷ of_a (codes "add") outcomes.Stopped
    ∷ of_a (codes "start") outcomes.Ok
    ∷ of_a (codes "show") (outcomes.Show entries)
    ∷ []
