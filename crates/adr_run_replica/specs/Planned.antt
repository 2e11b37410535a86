-- What holds of every controller on a disk in memory under a plan.
use Rattle.std.specs.Prelude.{◌≡◌, Bool, false, Option, Some, None, Ok}
use Rattle.adr_model.specs.Change.{Change}
use Rattle.adr_model.specs.Store.{State}
use Rattle.adr_disk.specs.declared.memory.Plan.{Plan}
use Rattle.adr_model.specs.Replica.{Book, Pending, Replica}
use Rattle.adr_law_journal.specs.Areas.{Found, Started}
use Rattle.adr_law_journal.specs.Replicas.{Has, committed, read_found, safe_found, started}
use Rattle.adr_run_keeper.specs.Planned.{StartsAs}
use Rattle.adr_journal.specs.declared.keeper.Keeper.{Ghosts}
use Rattle.adr_journal.specs.declared.keeper.KeeperRefusal.{KeeperRefusal}
use Rattle.adr_journal.specs.declared.keeper.KeeperRefusal.TheVariants.{DiskFault}
use Rattle.adr_journal.specs.declared.keeper.StartRefusal.{StartRefusal}
use Rattle.adr_controller.specs.Did.{Ran}
use Rattle.adr_run_keeper.specs.Goes.{GoesAs}
use Rattle.adr_controller.specs.declared.refusal.Hindrance.{Hindrance}

-- A keeper that stands for something has it whatever a crash does; a start takes it where it takes a replica, and a
-- commit where it takes one; a format doesn't fail without a plan; and what it tells is what is read.
pub record GoesAsPlanned {K : Type 0} (k : Ghosts K) (read safe torn : K → Started State) (plan : K → Option Plan) (has_stopped : K → Bool)
    : Type 0 where
  pub keeps :
      (x : K) (f : Found State) → k.is_at x f → k.is_failed x ≡ false → (read x ≡ Ok f) × (safe x ≡ Ok f) × (torn x ≡ Ok f)
  pub starts :
      (x new : K) (e : Option StartRefusal) (book : Book) (r : Replica) → has_stopped x ≡ false → Has read safe torn plan x r
      → k.starts x e new → StartsAs (Has read safe torn plan) has_stopped e r (started book r) new
  pub commits :
      (old new : K) (c : Change) (how : Option Hindrance) (book : Book) (r : Replica) (p : Pending)
      → k.is_at old (safe_found r) → k.is_failed old ≡ false → k.can_follow r.safe c → has_stopped old ≡ false
      → read_found r ≡ safe_found r → Has read safe torn plan old r → p.change ≡ c → Ran k old r.safe c how new
      → GoesAs (Has read safe torn plan) has_stopped how r (committed book r p) new
  pub formats :
      (x new : K) (e : Option KeeperRefusal) → has_stopped x ≡ false → plan x ≡ None → k.formats x e new
      → (plan new ≡ None) × (has_stopped new ≡ false) × (e ≡ Some DiskFault → ⊥)
  pub tells : (x : K) → k.told x ≡ Some (read x)
