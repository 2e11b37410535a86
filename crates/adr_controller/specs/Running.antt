-- Where a controller stands: its keeper, and the state in memory.
use Rattle.std.specs.Prelude.{◌≡◌, length, Bool, true, false, Option, Some, None, Ok, IfSome}
use Rattle.adr_model.specs.Store.{State}
use Rattle.adr_model.specs.Lengths.{Log, image_bytes}
use Rattle.adr_law_journal.specs.Areas.{found}
use Rattle.adr_journal.specs.declared.keeper.Keeper.{Ghosts}

-- a keeper; where the controller is up, its state in memory; and whether it was stopped
pub record Running (K : Type 0) : Type 0 where
  pub keeper : K
  pub state : Option State
  pub down : Bool

-- a keeper that hasn't failed stands for a state, which is as all that are kept
pub record IsUp {K : Type 0} (k : Ghosts K) (keeper : K) (s : State) : Type 0 where
  pub log : Log
  pub at : k.is_at keeper (found s log)
  pub running : k.is_failed keeper ≡ false
  pub formed : k.is_formed s

-- a state in memory is what the keeper stands for; without one the controller is down, or its keeper failed
pub record IsInOrder {K : Type 0} (k : Ghosts K) (c : Running K) : Type 0 where
  pub up : (s : State) → c.state ≡ Some s → IsUp k c.keeper s × (c.down ≡ false)
  pub faulty : c.state ≡ None → c.down ≡ false → k.is_failed c.keeper ≡ true

-- it was started: it has the state that its keeper stands for, which a start would have found
pub record IsStarted {K : Type 0} (k : Ghosts K) (old : K) (c : Running K) : Type 0 where
  pub state : State
  pub log : Log
  pub in_memory : c.state ≡ Some state
  pub up : c.down ≡ false
  pub at : k.is_at c.keeper (found state log)
  pub told : IfSome (k.told old) (λ t. t ≡ Ok (found state log))
  -- where the bytes of its disk are told, a bound begins with this log
  pub within : IfSome (k.content c.keeper) (λ bytes. k.is_within c.keeper (length bytes) (image_bytes log) 0)
