-- A controller that is up, one that is new, and what one asks.
use Rattle.std.proofs.Common.{◌≡◌, ◌∙◌, refl, sym, ap, subst, ℕ, List, Bool, false, Option, Some, None}
use Rattle.adr_wire.specs.Ranges.{IsId}
use Rattle.adr_call.specs.declared.outcome.Outcome.TheVariants as outcomes
use Rattle.adr_model.specs.Update.{Identifier}
use Rattle.adr_model.specs.Store.{State}
use Rattle.adr_model.specs.Lengths.{new_log}
use Rattle.adr_disk.specs.declared.memory.Plan.{Plan}
use Rattle.adr_model.specs.Replica.{Replica, Pending, Up, on_new_disk}
use Rattle.adr_model.specs.Serve.{Request, ask}
use Rattle.adr_model.specs.World.{World, Sent, nothing, where_up}
use Rattle.adr_law_journal.specs.Areas.{found, Started}
use Rattle.adr_law_journal.specs.Replicas.{Has}
use Rattle.adr_journal.specs.declared.keeper.Keeper.{Ghosts}
use Rattle.adr_controller.specs.Running.{Running, IsInOrder}
use Rattle.adr_run_replica.specs.Planned.{GoesAsPlanned}
use Rattle.adr_run_replica.specs.Held.{found_or_none, standing_by, seen, IsHeld}
use Rattle.adr_run_replica.proofs.Seen.{seen_so, held_so, torn_at_rest}

module _ {K : Type 0} (k : Ghosts K) (read safe torn : K → Started State) (plan : K → Option Plan) (has_stopped : K → Bool) (name : List ℕ) (dsa : Identifier) (c : Running K) (kept : Option Pending)
    (order : IsInOrder k c)
    (law : GoesAsPlanned k read safe torn plan has_stopped) where
  -- one that is up has in memory what is safe
  pub up_so : IsHeld read safe torn plan has_stopped name dsa c kept → (v : Replica) → seen read safe plan name c kept ≡ v → (s : State) → c.state ≡ Some s → (v.standing ≡ Up) × (s ≡ v.safe) × k.is_formed s
  up_so held v is s there =
      let up = order.up s there in
      let finds = law.keeps c.keeper (found s up.0.log) up.0.at up.0.running in (
        ap (λ (r : Replica). r.standing) (sym is) ∙ ap (λ b. standing_by b c.state) up.1 ∙ ap (λ o. standing_by false o) there,
        sym (ap (λ t. (found_or_none t).state) finds.1) ∙ ap (λ (r : Replica). r.safe) is,
        up.0.formed,
      )

  -- a new one
  module _ (s : State) (id : IsId s.dsa) (given : dsa ≡ s.dsa) (there : c.state ≡ Some s) (down : c.down ≡ false) (at : k.is_at c.keeper (found s (new_log s)))
      (planned : plan c.keeper ≡ None) (runs : has_stopped c.keeper ≡ false) (none : kept ≡ None) where
    new_has : Has read safe torn plan c.keeper (on_new_disk name s)
    new_has =
        let finds = law.keeps c.keeper (found s (new_log s)) at (order.up s there).0.running in
        record { is_read = finds.0; is_safe = finds.1; is_torn = finds.2 ∙ torn_at_rest s (new_log s); is_plan = planned }

    new_is : seen read safe plan name c kept ≡ on_new_disk name s
    new_is = seen_so read safe torn plan name c kept (on_new_disk name s) new_has refl (ap (λ b. standing_by b c.state) down ∙ ap (λ o. standing_by false o) there) none

    pub new_held : IsHeld read safe torn plan has_stopped name dsa c kept
    new_held = held_so read safe torn plan has_stopped name dsa c kept (on_new_disk name s) new_is new_has (λ t up. (runs, none)) (subst IsId (sym given) id) (sym given) (sym given)

    pub new_seen : IsHeld read safe torn plan has_stopped name dsa c kept → seen read safe plan name c kept ≡ on_new_disk name s
    new_seen held = new_is

-- what one that is up asks
pub asked_so : (v : Replica) (s : State) (partner : Identifier) (max version : ℕ) (request : Request) → v.standing ≡ Up → s ≡ v.safe → request ≡ ask s partner max version → (w : World)
    → where_up (nothing w) v.standing (w, outcomes.Ok, Some (ask v.safe partner max version)) ≡ (w, outcomes.Ok, Some request)
asked_so v s partner max version request up same is w =
    let asks : Request → Sent Request = λ q. (w, outcomes.Ok, Some q) in
    ap (λ st. where_up (nothing w) st (asks (ask v.safe partner max version))) up ∙ ap asks (sym (is ∙ ap (λ s. ask s partner max version) same))
