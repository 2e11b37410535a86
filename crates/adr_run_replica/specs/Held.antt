-- A controller on a disk in memory, seen as the definitions' replica.
use Rattle.std.specs.Prelude.{◌≡◌, ℕ, List, [], Bool, true, false, Option, Some, None, Ok, Err}
use Rattle.adr_wire.specs.Ranges.{IsId}
use Rattle.adr_model.specs.Update.{Identifier}
use Rattle.adr_model.specs.Store.{State, empty_state}
use Rattle.adr_model.specs.Lengths.{new_log}
use Rattle.adr_disk.specs.declared.memory.Plan.{Plan}
use Rattle.adr_model.specs.Replica.{Device, Pending, Replica, Standing, Up, Down, Failed}
use Rattle.adr_law_journal.specs.Areas.{Found, found, Started}
use Rattle.adr_law_journal.specs.Replicas.{Has}
use Rattle.adr_controller.specs.Running.{Running}

-- what a start finds; of a log that is damaged an empty state
abbrev pub found_or_none : Started State → Found State
found_or_none (Ok f) = f
found_or_none (Err place) = let s = empty_state [] [] in found s (new_log s)

-- a controller is down, or it has a state, or it has failed
abbrev pub standing_by : Bool → Option State → Standing
standing_by true state = Down
standing_by false (Some s) = Up
standing_by false None = Failed

-- where logs stand by what is read and what is safe, and the plan
abbrev pub device_seen : Found State → Found State → Option Plan → Device
device_seen read safe plan = record { read_log = read.log; safe_log = safe.log; plan = plan }

-- a controller over its keeper, by what is read of that, what is safe and its plan
abbrev pub seen : {K : Type 0} → (K → Started State) → (K → Started State) → (K → Option Plan) → List ℕ → Running K → Option Pending → Replica
seen read safe plan name c kept =
    record {
      name = name;
      read = (found_or_none (read c.keeper)).state;
      safe = (found_or_none (safe c.keeper)).state;
      kept = kept;
      standing = standing_by c.down c.state;
      device = device_seen (found_or_none (read c.keeper)) (found_or_none (safe c.keeper)) (plan c.keeper);
    }

-- Its keeper has what the replica has: nothing is damaged, and a crash that tears the unsynced leaves the state that is
-- read. While it is up its disk runs and no call is kept. Its identifier stays.
pub record IsHeld {K : Type 0} (read safe torn : K → Started State) (plan : K → Option Plan) (has_stopped : K → Bool) (name : List ℕ) (dsa : Identifier)
    (c : Running K) (kept : Option Pending) : Type 0 where
  pub has : Has read safe torn plan c.keeper (seen read safe plan name c kept)
  pub runs : (s : State) → c.state ≡ Some s → has_stopped c.keeper ≡ false
  pub none_kept : (s : State) → c.state ≡ Some s → kept ≡ None
  pub is_id : IsId dsa
  pub reads : (seen read safe plan name c kept).read.dsa ≡ dsa
  pub keeps : (seen read safe plan name c kept).safe.dsa ≡ dsa
