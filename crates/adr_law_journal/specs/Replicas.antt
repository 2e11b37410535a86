-- A disk in memory beside a replica of the definitions: what its bytes stand for, and its plan.
use Rattle.std.specs.Prelude.{◌≡◌, Bool, true, false, Option, Some, None, Ok, fold}
use Rattle.adr_io.specs.declared.Fault.{Fault as Cause}
use Rattle.adr_disk.specs.declared.memory.Mishap.{Mishap}
use Rattle.adr_disk.specs.declared.memory.Mishap.TheVariants.{Fails, Stops}
use Rattle.adr_disk.specs.declared.memory.Plan.{Plan}
use Rattle.adr_disk.specs.declared.memory.Crash.TheVariants.{Torn}
use Rattle.adr_disk.specs.Memory.{DiskState, read_of, left_by}
use Rattle.adr_model.specs.Store.{State}
use Rattle.adr_model.specs.Replica.{Pending, Standing, Up, Down, Failed, Replica, Book, moved, moves_of_commit, moves_of_start, standing_after, torn_log, commit_goes, start_goes, device_after_commit, device_after_start}
use Rattle.adr_law_journal.specs.Areas.{Found, found, Started}
use Rattle.adr_law_journal.specs.Kept.{Layout, starts}

-- how a controller stands after a call that passed or failed: the disk stopped within it, or it is as faulty as before
abbrev pub standing_of : Option Cause → Bool → Standing → Standing
standing_of None stopped faulty = Up
standing_of (Some cause) true faulty = Down
standing_of (Some cause) false faulty = faulty

-- a call that passed leaves a disk that runs
abbrev pub IsRunning : Option Cause → Bool → Type 0
IsRunning None stopped = stopped ≡ false
IsRunning (Some cause) stopped = Unit {0}

-- what a start of a replica would find, what one would after a crash that loses the unsynced, and after one that tears it
abbrev pub read_found : Replica → Found State
read_found r = found r.read r.device.read_log

abbrev pub safe_found : Replica → Found State
safe_found r = found r.safe r.device.safe_log

abbrev pub torn_found : Replica → Found State
torn_found r = found r.read (torn_log r.device.read_log r.device.safe_log)

-- something has what a replica has: what a start finds now, and after either crash; and the plan
pub record Has {K : Type 0} (read safe torn : K → Started State) (plan : K → Option Plan) (k : K) (r : Replica) : Type 0 where
  pub is_read : read k ≡ Ok (read_found r)
  pub is_safe : safe k ≡ Ok (safe_found r)
  pub is_torn : torn k ≡ Ok (torn_found r)
  pub is_plan : plan k ≡ r.device.plan

-- a disk in memory has it
abbrev pub IsOn : {H : Type 0} → Layout H State → Replica → DiskState → Type 0
IsOn l r d =
    Has (λ (d : DiskState). starts l (read_of d.held.surface)) (λ (d : DiskState). starts l d.held.surface.synced)
    (λ (d : DiskState). starts l (left_by Torn d.held.surface)) (λ (d : DiskState). d.plan) d r

-- the replica after a commit, and after a start
abbrev pub committed : Book → Replica → Pending → Replica
committed book r p =
    let g = commit_goes r p in
    let m = fold moved (book, r) (moves_of_commit p g) in
    record m.1 { standing = standing_after Failed g; device = device_after_commit r p }

abbrev pub started : Book → Replica → Replica
started book r =
    let g = start_goes r in
    let m = fold moved (book, r) (moves_of_start g) in
    record m.1 { standing = standing_after r.standing g; device = device_after_start r }

-- a disk has what the replica has after a commit that ended so, and the controller stands as the replica does
abbrev pub CommitLeads : {H : Type 0} → Layout H State → Book → Replica → Pending → DiskState → Option Cause → Type 0
CommitLeads l book r p new e =
    IsOn l (committed book r p) new × (standing_of e new.stopped Failed ≡ (committed book r p).standing) × IsRunning e new.stopped

-- and after a start, which leaves a controller whose disk fails as it stood
abbrev pub StartLeads : {H : Type 0} → Layout H State → Book → Replica → DiskState → Option Cause → Type 0
StartLeads l book r new e =
    IsOn l (started book r) new × (standing_of e new.stopped r.standing ≡ (started book r).standing) × IsRunning e new.stopped
