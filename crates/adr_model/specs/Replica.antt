-- A controller with its disk: what a start would find, what a crash that loses the unsynced would leave, and the moves between the two.
use Rattle.std.specs.Prelude.{ℕ, ◌+◌, ◌-◌, List, [], ◌∷◌, ◌++◌, not, ◌&&◌, nat_le, ◌==◌, Option, Some, None, unwrap_or, Result, Ok, Err, if◌then◌else◌}
use Rattle.std.specs.Map.{lookup}
use Rattle.std.specs.BTreeMap.{is_at, insert_entry}
use Rattle.adr_values.specs.Order.{identifier_order}
use Rattle.adr_disk.specs.declared.memory.Crash.TheVariants.{Kept, Lost, Torn}
use Rattle.adr_disk.specs.declared.memory.Mishap.{Mishap}
use Rattle.adr_disk.specs.declared.memory.Mishap.TheVariants.{Fails, Stops}
use Rattle.adr_disk.specs.declared.memory.Plan.{Plan}
use Rattle.adr_call.specs.declared.outcome.Outcome.{Outcome}
use Rattle.adr_call.specs.declared.outcome.Outcome.TheVariants as outcomes
use Rattle.adr_model.specs.Update.{Identifier, Update}
use Rattle.adr_model.specs.Store.{State}
use Rattle.adr_model.specs.Change.{Change, after, updates_written}
use Rattle.adr_model.specs.Lengths.{Log, new_log, is_due, log_before, next_log}
use Rattle.adr_model.specs.LocalLog.{LocalLog, first_log, no_log}
use Rattle.adr_model.specs.Serve.{Reply}
use Rattle.adr_model.specs.Write.{Write, write}
use Rattle.adr_model.specs.Take.{take}
use Rattle.adr_model.specs.Collect.{collect, quarantine}
use Rattle.adr_model.specs.Upgrade.{upgrade}

-- a call that changes a controller, with its arguments
pub data Call : Type 0 where
  ToWrite : (what : Write) (now : ℕ) → Call
  ToTake : (reply : Reply) → Call
  ToCollect : (now lifetime : ℕ) → Call
  ToUpgrade : Call
  ToQuarantine : Call

abbrev pub change_in : {E : Type 0} → Result Change E → Option Change
change_in (Ok c) = Some c
change_in (Err e) = None

-- the change that a call makes, where it isn't refused
abbrev pub change_of : State → Call → Option Change
change_of s (ToWrite w now) = change_in (write s w now)
change_of s (ToTake reply) = change_in (take s reply)
change_of s (ToCollect now lifetime) = change_in (collect s now lifetime)
change_of s ToUpgrade = change_in (upgrade s)
change_of s ToQuarantine = Some (quarantine s)

-- what a change issues: the updates of a client's write
abbrev pub issued_by : Call → Change → List Update
issued_by (ToWrite w now) c = updates_written c
issued_by (ToTake reply) c = []
issued_by (ToCollect now lifetime) c = []
issued_by ToUpgrade c = []
issued_by ToQuarantine c = []

-- a call with its change, which is on the disk and isn't synced
pub record Pending : Type 0 where
  pub call : Call
  pub change : Change

pub data Standing : Type 0 where
  Up : Standing
  Down : Standing
  Failed : Standing

-- what a run knows of a disk beside the states: where the log stands that a start would find, and the one that a crash would leave that loses the unsynced; and the plan
pub record Device : Type 0 where
  pub read_log : Log
  pub safe_log : Log
  pub plan : Option Plan

-- a controller by its name; where it is up, both states are one and no call is kept
pub record Replica : Type 0 where
  pub name : List ℕ
  pub read : State  -- what a start would find
  pub safe : State  -- what a crash would leave that loses the unsynced
  pub kept : Option Pending
  pub standing : Standing
  pub device : Device

-- all of a log is synced, and nothing is planned
abbrev pub rests_at : Log → Device
rests_at log = record { read_log = log; safe_log = log; plan = None }

-- a controller that is up, whose log stands so
abbrev pub on_disk : List ℕ → State → Log → Replica
on_disk name s log = record { name = name; read = s; safe = s; kept = None; standing = Up; device = rests_at log }

-- a controller on a new disk
abbrev pub on_new_disk : List ℕ → State → Replica
on_new_disk name s = on_disk name s (new_log s)

-- what all controllers are compared with: what clients wrote, in the order in which it became safe, and the log of each incarnation
pub record Book : Type 0 where
  pub issued : List Update
  pub logs : List (Identifier × LocalLog)

abbrev pub log_of : Book → Identifier → LocalLog
log_of book inv = unwrap_or (lookup (is_at (identifier_order inv)) book.logs) no_log

-- an incarnation begins with what its state has
abbrev pub begun : Book → State → Book
begun book s =
    record {
      issued = book.issued;
      logs = insert_entry identifier_order book.logs s.inv (first_log s.store.usn s.store.rows);
    }

abbrev pub with_change : LocalLog → Change → LocalLog
with_change h c = record { start_usn = h.start_usn; start_rows = h.start_rows; changes = c ∷ h.changes }

-- a change of an incarnation becomes safe
abbrev pub recorded : Book → Identifier → Pending → Book
recorded book inv p =
    record {
      issued = book.issued ++ issued_by p.call p.change;
      logs = insert_entry identifier_order book.logs inv (with_change (log_of book inv) p.change);
    }

-- ---- moves

pub data Move : Type 0 where
  Begin : (pending : Pending) → Move
  Settle : Move
  Forget : Move

abbrev settled : Option Pending → Book → Identifier → Book
settled None book inv = book
settled (Some p) book inv = recorded book inv p

-- a change begins: a start would find it. It settles: it is safe. Or it is forgotten
abbrev pub moved : Book × Replica → Move → Book × Replica
moved t (Begin p) = (t.0, record t.1 { read = after t.1.safe p.change; kept = Some p })
moved t Settle = (settled t.1.kept t.0 t.1.safe.inv, record t.1 { safe = t.1.read; kept = None })
moved t Forget = (t.0, record t.1 { read = t.1.safe; kept = None })

-- ---- device calls

-- how device calls go: all pass, and a plan may wait on, or the one at a place meets a mishap
pub data Went : Type 0 where
  Passed : (left : Option Plan) → Went
  Met : (place : ℕ) (mishap : Mishap) → Went

abbrev pub went : Option Plan → ℕ → Went
went None calls = Passed None
went (Some p) calls = if nat_le calls p.calls then Passed (Some (record { calls = p.calls - calls; mishap = p.mishap })) else Met p.calls p.mishap

-- the calls of a commit: the body, a sync, the gate, a sync. The gate is found by a start; the last sync makes it safe
abbrev pub moves_of_commit : Pending → Went → List Move
moves_of_commit p (Passed left) = Begin p ∷ Settle ∷ []
moves_of_commit p (Met place Fails) = if place == 3 then Begin p ∷ [] else []
moves_of_commit p (Met place (Stops Lost)) = if place == 3 then Begin p ∷ Forget ∷ [] else []
moves_of_commit p (Met place (Stops Kept)) = if nat_le 2 place then Begin p ∷ Settle ∷ [] else []
moves_of_commit p (Met place (Stops Torn)) = if nat_le 2 place then Begin p ∷ Settle ∷ [] else []

-- a start is one sync
abbrev pub moves_of_start : Went → List Move
moves_of_start (Passed left) = Settle ∷ []
moves_of_start (Met place Fails) = []
moves_of_start (Met place (Stops Lost)) = Forget ∷ []
moves_of_start (Met place (Stops Kept)) = Settle ∷ []
moves_of_start (Met place (Stops Torn)) = Settle ∷ []

-- a start that fails leaves the controller as it stood
abbrev pub standing_after : Standing → Went → Standing
standing_after faulty (Passed left) = Up
standing_after faulty (Met place (Stops how)) = Down
standing_after faulty (Met place Fails) = faulty

abbrev pub plan_after : Went → Option Plan
plan_after (Passed left) = left
plan_after (Met place mishap) = None

abbrev pub outcome_after : Went → Outcome → Outcome
outcome_after (Passed left) outcome = outcome
outcome_after (Met place (Stops how)) outcome = outcomes.Stopped
outcome_after (Met place Fails) outcome = outcomes.Disk

-- ---- what device calls leave of logs

abbrev pub rest : Log → Log × Log
rest l = (l, l)

-- the four calls of a record: the log that is found, and the one that is safe
abbrev pub logs_of_record : Log → Log → Went → Log × Log
logs_of_record l next (Passed left) = rest next
logs_of_record l next (Met place Fails) = if place == 3 then (next, l) else rest l
logs_of_record l next (Met place (Stops Lost)) = rest l
logs_of_record l next (Met place (Stops Kept)) = rest (if nat_le 2 place then next else l)
logs_of_record l next (Met place (Stops Torn)) = rest (if nat_le 2 place then next else l)

-- the five calls of a checkpoint: the area, the slot, a sync, the selector, a sync. A torn selector selects the second slot
abbrev pub logs_of_checkpoint : Log → Log → Went → Log × Log
logs_of_checkpoint l next (Passed left) = rest next
logs_of_checkpoint l next (Met place Fails) = if place == 4 then (next, l) else rest l
logs_of_checkpoint l next (Met place (Stops Lost)) = rest l
logs_of_checkpoint l next (Met place (Stops Kept)) = rest (if nat_le 3 place then next else l)
logs_of_checkpoint l next (Met place (Stops Torn)) = rest (if nat_le 3 place && next.second then next else l)

-- a start is one sync
abbrev pub torn_log : Log → Log → Log
torn_log read safe = if safe.second && not read.second then safe else read

abbrev pub logs_of_start : Log → Log → Went → Log × Log
logs_of_start read safe (Passed left) = rest read
logs_of_start read safe (Met place Fails) = (read, safe)
logs_of_start read safe (Met place (Stops Lost)) = rest safe
logs_of_start read safe (Met place (Stops Kept)) = rest read
logs_of_start read safe (Met place (Stops Torn)) = rest (torn_log read safe)

abbrev device_of : Log × Log → Went → Device
device_of l g = record { read_log = l.0; safe_log = l.1; plan = plan_after g }

-- ---- how commits and starts go

-- the calls of a checkpoint, where one is due
abbrev pub calls_before : Replica → Pending → ℕ
calls_before r p = if is_due r.device.safe_log p.change then 5 else 0

abbrev pub behind : ℕ → Went → Went
behind n (Passed left) = Passed left
behind n (Met place mishap) = Met (place - n) mishap

-- how a commit goes, from the first call of its record on: one that goes wrong before is as the first
abbrev pub commit_goes : Replica → Pending → Went
commit_goes r p = behind (calls_before r p) (went r.device.plan (calls_before r p + 4))

abbrev pub start_goes : Replica → Went
start_goes r = went r.device.plan 1

abbrev pub recorded_on : Log → Log → Option Plan → Device
recorded_on l next plan = let g = went plan 4 in device_of (logs_of_record l next g) g

abbrev pub checkpointed_on : Log → Log → Log → Went → Device
checkpointed_on l mid next (Passed left) = recorded_on mid next left
checkpointed_on l mid next (Met place mishap) = device_of (logs_of_checkpoint l mid (Met place mishap)) (Met place mishap)

abbrev pub device_after_commit : Replica → Pending → Device
device_after_commit r p =
    let l = r.device.safe_log in
    let next = next_log l r.safe.store p.change in
    if is_due l p.change then checkpointed_on l (log_before l r.safe.store p.change) next (went r.device.plan 5) else recorded_on l next r.device.plan

abbrev pub device_after_start : Replica → Device
device_after_start r = let g = start_goes r in device_of (logs_of_start r.device.read_log r.device.safe_log g) g

-- a crash that keeps the unsynced
abbrev pub device_settled : Replica → Device
device_settled r = rests_at r.device.read_log
