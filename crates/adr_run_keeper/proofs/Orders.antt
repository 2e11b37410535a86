-- A controller whose keeper stands for what it stood for.
use Rattle.std.proofs.Common.{◌≡◌, ◌∙◌}
use Rattle.adr_model.specs.Store.{State}
use Rattle.adr_law_journal.specs.Areas.{Found, found}
use Rattle.adr_journal.specs.declared.keeper.Keeper.{Ghosts}
use Rattle.adr_controller.specs.Running.{Running, IsUp, IsInOrder}

module _ {K : Type 0} (k : Ghosts K) where
  -- it has failed if it had
  module _ (old new : K) (at : (f : Found State) → k.is_at old f → k.is_at new f) (failed : k.is_failed new ≡ k.is_failed old) where
    still_up : (s : State) → IsUp k old s → IsUp k new s
    still_up s up = record { log = up.log; at = at (found s up.log) up.at; running = failed ∙ up.running; formed = up.formed }

    pub still_in_order : (c : Running K) → IsInOrder k (record c { keeper = old }) → IsInOrder k (record c { keeper = new })
    still_in_order c order = record {
      up = λ s is. let was = order.up s is in (still_up s was.0, was.1);
      faulty = λ none up. failed ∙ order.faulty none up;
    }
