-- What holds of a controller in order.
use Rattle.std.proofs.Common.{◌≡◌, true, None}
use Rattle.adr_journal.specs.declared.keeper.Keeper.{Ghosts}
use Rattle.adr_controller.specs.Running.{Running, IsInOrder}
use Rattle.adr_controller.proofs.Results.{none_of}

module _ {K : Type 0} (k : Ghosts K) where
  pub none_when_down : (c : Running K) → IsInOrder k c → c.down ≡ true → c.state ≡ None
  none_when_down c order down = none_of c.state (λ s is. cc ((order.up s is).1, down))
