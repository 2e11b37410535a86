-- What the calls of a checkpoint leave of a disk in memory under a plan, and what a commit under one begins with.
use Rattle.std.specs.Prelude.{◌≡◌, ◌≤◌, ◌<◌, ℕ, ◌+◌, ◌^◌, false, List, [], ◌∷◌, ◌++◌, length, Option, Some, Ok}
use Rattle.adr_io.specs.declared.Fault.{Fault as Cause}
use Rattle.adr_disk.specs.declared.memory.Crash.TheVariants.{Torn}
use Rattle.adr_disk.specs.Disk.{Only}
use Rattle.adr_disk.specs.Memory.{DiskState, read_of, IsImage, left_by}
use Rattle.adr_model.specs.Store.{State}
use Rattle.adr_model.specs.Change.{after}
use Rattle.adr_model.specs.Lengths.{Log, area_version, image_length, change_length, checkpointed}
use Rattle.adr_model.specs.Replica.{Pending, Replica, Went, Failed, standing_after, plan_after, torn_log}
use Rattle.adr_law_journal.specs.Replicas.{standing_of, IsRunning, read_found, safe_found}
use Rattle.adr_law_journal.specs.Areas.{found, Started, TellsArea}
use Rattle.adr_law_journal.specs.Kept.{Layout, Rests}

-- starts find this state with these logs, the plan is what is left of it, and the controller stands so
pub record Leads {S : Type 0} (starts : List ℕ → Started S) (s : S) (logs : Log × Log) (went : Went) (e : Option Cause) (new : DiskState) : Type 0 where
  pub is_read : starts (read_of new.held.surface) ≡ Ok (found s logs.0)
  pub is_safe : starts new.held.surface.synced ≡ Ok (found s logs.1)
  pub is_torn : starts (left_by Torn new.held.surface) ≡ Ok (found s (torn_log logs.0 logs.1))
  pub is_plan : new.plan ≡ plan_after went
  pub stands : standing_of e new.stopped Failed ≡ standing_after Failed went
  pub running : IsRunning e new.stopped

-- a disk that runs has all of a replica, synced, and the plan; and these bytes make the change of its state
pub record IsReadyToCommit {H : Type 0} (l : Layout H State) (r : Replica) (p : Pending) (body : List ℕ) (disk : DiskState) : Type 0 where
  pub settled : read_found r ≡ safe_found r
  pub running : disk.stopped ≡ false
  pub is_plan : disk.plan ≡ r.device.plan
  pub rests : Rests l r.safe r.device.safe_log (read_of disk.held.surface)
  pub synced : Only (read_of disk.held.surface) (IsImage disk.held.surface)
  pub version : r.device.safe_log.version ≤ area_version
  pub follows : l.following area_version r.safe body ≡ Some (after r.safe p.change)
  pub is_long : length body ≡ change_length p.change
  pub fits : length body < 2 ^ 32

-- these bytes are an area of its state with a closed gate, where the next area stands
pub record IsNextArea {H : Type 0} (l : Layout H State) (r : Replica) (written : List ℕ) : Type 0 where
  pub image : List ℕ
  pub is : written ≡ image ++ 0 ∷ []
  pub tells : TellsArea (l.area l.told) (checkpointed r.device.safe_log r.safe.store).place image area_version r.safe
  pub is_long : length image ≡ 6 + image_length r.safe.store
  pub near : (checkpointed r.device.safe_log r.safe.store).place < 2 ^ 64
