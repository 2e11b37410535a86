-- What is seen of a controller, by what its keeper has.
use Rattle.std.proofs.Common.{◌≡◌, ◌∙◌, refl, sym, ap, subst, ℕ, List, Bool, true, false, not, ◌&&◌, Option, Some, None, Ok, if◌then◌else◌}
use Rattle.adr_wire.specs.Ranges.{IsId}
use Rattle.adr_model.specs.Update.{Identifier}
use Rattle.adr_model.specs.Store.{State}
use Rattle.adr_model.specs.Lengths.{Log}
use Rattle.adr_disk.specs.declared.memory.Plan.{Plan}
use Rattle.adr_model.specs.Replica.{Pending, Replica, Standing, torn_log}
use Rattle.adr_law_journal.specs.Areas.{Found, found, Started}
use Rattle.adr_law_journal.specs.Replicas.{Has, read_found, safe_found}
use Rattle.adr_controller.specs.Running.{Running}
use Rattle.adr_run_replica.specs.Held.{device_seen, found_or_none, standing_by, seen, IsHeld}

abbrev made : List ℕ → Found State → Found State → Option Pending → Standing → Option Plan → Replica
made name read safe kept standing plan =
    record { name = name; read = read.state; safe = safe.state; kept = kept; standing = standing; device = device_seen read safe plan }

-- a crash that tears what is synced leaves it
same_either : {A : Type 0} (b : Bool) (x : A) → (if b then x else x) ≡ x
same_either true x = refl
same_either false x = refl

pub torn_at_rest : (s : State) (log : Log) → ◌≡◌ {A = Started State} (Ok (found s log)) (Ok (found s (torn_log log log)))
torn_at_rest s log = ap (λ l. let f : Started State = Ok (found s l) in f) (sym (same_either (log.second && not log.second) log))

module _ {K : Type 0} (read safe torn : K → Started State) (plan : K → Option Plan) where
  pub seen_so : (name : List ℕ) (c : Running K) (kept : Option Pending) (r : Replica) → Has read safe torn plan c.keeper r → name ≡ r.name → standing_by c.down c.state ≡ r.standing
      → kept ≡ r.kept → seen read safe plan name c kept ≡ r
  seen_so name c kept r h named stands keeps =
      ap (λ n. made n (found_or_none (read c.keeper)) (found_or_none (safe c.keeper)) kept (standing_by c.down c.state) (plan c.keeper)) named
      ∙ ap (λ f. made r.name f (found_or_none (safe c.keeper)) kept (standing_by c.down c.state) (plan c.keeper)) (ap found_or_none h.is_read)
      ∙ ap (λ f. made r.name (read_found r) f kept (standing_by c.down c.state) (plan c.keeper)) (ap found_or_none h.is_safe)
      ∙ ap (λ x. made r.name (read_found r) (safe_found r) x (standing_by c.down c.state) (plan c.keeper)) keeps
      ∙ ap (λ x. made r.name (read_found r) (safe_found r) r.kept x (plan c.keeper)) stands
      ∙ ap (λ x. made r.name (read_found r) (safe_found r) r.kept r.standing x) h.is_plan

  -- where it has what a replica has, and is seen as that, it is held
  pub held_so : (has_stopped : K → Bool) (name : List ℕ) (dsa : Identifier) (c : Running K) (kept : Option Pending) (r : Replica) → seen read safe plan name c kept ≡ r
      → Has read safe torn plan c.keeper r → ((s : State) → c.state ≡ Some s → (has_stopped c.keeper ≡ false) × (kept ≡ None)) → IsId dsa → r.read.dsa ≡ dsa → r.safe.dsa ≡ dsa
      → IsHeld read safe torn plan has_stopped name dsa c kept
  held_so has_stopped name dsa c kept r is h up id reads keeps = record {
    has = subst (λ x. Has read safe torn plan c.keeper x) (sym is) h;
    runs = λ s there. (up s there).0;
    none_kept = λ s there. (up s there).1;
    is_id = id;
    reads = ap (λ (x : Replica). x.read.dsa) is ∙ reads;
    keeps = ap (λ (x : Replica). x.safe.dsa) is ∙ keeps;
  }
