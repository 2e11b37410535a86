-- Bytes of a disk that are put aside, and a disk with such bytes that is started.
use Rattle.std.proofs.Common.{◌≡◌, ◌∙◌, refl, sym, ap, subst, ℕ, List, [], Bool, false, Option, None, Ok}
use Rattle.adr_wire.specs.Ranges.{IsId}
use Rattle.adr_model.specs.Update.{Identifier}
use Rattle.adr_model.specs.Store.{State}
use Rattle.adr_disk.specs.declared.memory.Plan.{Plan}
use Rattle.adr_model.specs.Replica.{Replica, Pending, Book, on_disk}
use Rattle.adr_model.specs.World.{Snapshot}
use Rattle.adr_law_journal.specs.Areas.{Started}
use Rattle.adr_law_journal.specs.Replicas.{Has, read_found, started}
use Rattle.adr_run_keeper.specs.Planned.{StartsAs}
use Rattle.adr_journal.specs.declared.keeper.Keeper.{Ghosts}
use Rattle.adr_controller.specs.Running.{Running, IsStarted}
use Rattle.adr_run_replica.specs.Planned.{GoesAsPlanned}
use Rattle.adr_run_replica.specs.Held.{found_or_none, standing_by, seen, IsHeld}
use Rattle.adr_run_replica.specs.Put.{IsWhole, aside, found_on}
use Rattle.adr_run_replica.proofs.Seen.{seen_so, held_so, torn_at_rest}

-- bytes of which a start finds what is read of a keeper
module _ {K : Type 0} (read safe torn : K → Started State) (plan : K → Option Plan) (has_stopped : K → Bool) (name : List ℕ) (dsa : Identifier) (c : Running K) (kept : Option Pending)
    (held : IsHeld read safe torn plan has_stopped name dsa c kept) (bytes : List ℕ) (same : found_on bytes ≡ read c.keeper) where
  abbrev r : Replica
  r = seen read safe plan name c kept

  finds : found_on bytes ≡ Ok (read_found r)
  finds = same ∙ held.has.is_read

  pub aside_whole : IsWhole bytes
  aside_whole = record {
    finds = finds ∙ ap Ok (sym (ap found_or_none finds));
    is_id = subst IsId (sym (ap (λ t. (found_or_none t).state.dsa) finds ∙ held.reads)) held.is_id;
  }

  pub aside_dsa : dsa ≡ (aside bytes).state.dsa
  aside_dsa = sym (ap (λ t. (found_or_none t).state.dsa) finds ∙ held.reads)

  pub aside_so : (v : Replica) → r ≡ v → aside bytes ≡ record { state = v.read; log = v.device.read_log }
  aside_so v is =
      ap (λ t. let f = found_or_none t in let s : Snapshot = record { state = f.state; log = f.log } in s) finds
      ∙ ap (λ (r : Replica). let s : Snapshot = record { state = r.read; log = r.device.read_log } in s) is

-- a disk with such bytes, which has started
module _ {K : Type 0} (k : Ghosts K) (read safe torn : K → Started State) (plan : K → Option Plan) (has_stopped : K → Bool) (name : List ℕ) (dsa : Identifier) (c : Running K) (kept : Option Pending)
    (law : GoesAsPlanned k read safe torn plan has_stopped)
    (bytes : List ℕ) (whole : IsWhole bytes) (old : K) (reads : read old ≡ found_on bytes) (safes : safe old ≡ found_on bytes) (torns : torn old ≡ found_on bytes)
    (planned : plan old ≡ None) (runs : has_stopped old ≡ false) (begun : IsStarted k old c) (ran : k.starts old None c.keeper)
    (given : dsa ≡ (aside bytes).state.dsa) (none : kept ≡ None) where
  abbrev put : Replica
  put = on_disk name (aside bytes).state (aside bytes).log

  no_book : Book
  no_book = record { issued = []; logs = [] }

  put_goes : StartsAs (Has read safe torn plan) has_stopped None put (started no_book put) c.keeper
  put_goes = law.starts old c.keeper None no_book put runs (record { is_read = reads ∙ whole.finds; is_safe = safes ∙ whole.finds; is_torn = torns ∙ whole.finds ∙ torn_at_rest (aside bytes).state (aside bytes).log; is_plan = planned }) ran

  pub put_seen : seen read safe plan name c kept ≡ put
  put_seen =
      seen_so read safe torn plan name c kept put put_goes.0 refl (ap (λ b. standing_by b c.state) begun.up ∙ ap (λ o. standing_by false o) begun.in_memory) none

  pub put_held : IsHeld read safe torn plan has_stopped name dsa c kept
  put_held =
      held_so read safe torn plan has_stopped name dsa c kept put put_seen put_goes.0 (λ s there. (put_goes.2, none)) (subst IsId (sym given) whole.is_id) (sym given) (sym given)
