-- What a keeper under a plan comes to, beside a replica.
use Rattle.std.specs.Prelude.{◌≡◌, Bool, true, false, Option, Some, None}
use Rattle.adr_io.specs.declared.Fault.{Fault as Cause}
use Rattle.adr_io.specs.declared.Fault.TheVariants.{Failed as failed_call}
use Rattle.adr_disk.specs.declared.memory.Crash.{Crash}
use Rattle.adr_disk.specs.declared.memory.Crash.TheVariants.{Kept, Lost, Torn}
use Rattle.adr_model.specs.Store.{State}
use Rattle.adr_model.specs.Replica.{Replica, Failed as stands_failed}
use Rattle.adr_law_journal.specs.Areas.{Started}
use Rattle.adr_law_journal.specs.Replicas.{standing_of, IsRunning}
use Rattle.adr_journal.specs.declared.keeper.KeeperRefusal.{KeeperRefusal}
use Rattle.adr_journal.specs.declared.keeper.StartRefusal.{StartRefusal}
use Rattle.adr_journal.specs.declared.keeper.StartRefusal.TheVariants.{DiskFault, Damaged, NoMemory}

-- what a crash leaves of what is read, safe and torn
abbrev pub left_found : Crash → Started State → Started State → Started State → Started State
left_found Kept read safe torn = read
left_found Lost read safe torn = safe
left_found Torn read safe torn = torn

-- a start finds the same, and as much has failed
pub record Same {K : Type 0} (read safe torn : K → Started State) (is_failed : K → Bool) (old new : K) : Type 0 where
  pub read_stays : read new ≡ read old
  pub safe_stays : safe new ≡ safe old
  pub torn_stays : torn new ≡ torn old
  pub failed_stays : is_failed new ≡ is_failed old

abbrev pub cause_of : Option KeeperRefusal → Option Cause
cause_of None = None
cause_of (Some refusal) = Some failed_call

-- a commit that ended so leaves what the replica has, and stands as it does; one that passed leaves a disk that runs
abbrev pub CommitsAs : {K : Type 0} → (K → Replica → Type 0) → (K → Bool) → Option KeeperRefusal → Replica → K → Type 0
CommitsAs has has_stopped e after new =
    has new after × (standing_of (cause_of e) (has_stopped new) stands_failed ≡ after.standing) × IsRunning (cause_of e) (has_stopped new)

-- and a start: the sync that it begins with was made, failed, or wanted memory before it did anything
abbrev pub StartsAs : {K : Type 0} → (K → Replica → Type 0) → (K → Bool) → Option StartRefusal → Replica → Replica → K → Type 0
StartsAs has has_stopped None before after new = has new after × (standing_of None (has_stopped new) before.standing ≡ after.standing) × (has_stopped new ≡ false)
StartsAs has has_stopped (Some DiskFault) before after new = has new after × (standing_of (Some failed_call) (has_stopped new) before.standing ≡ after.standing)
StartsAs has has_stopped (Some (Damaged place)) before after new = has new after
StartsAs has has_stopped (Some (NoMemory true)) before after new = has new after
StartsAs has has_stopped (Some (NoMemory false)) before after new = has new before
