-- A keeper that is as a log, and the state that it stands for.
use Rattle.std.specs.Prelude.{◌≡◌, Some}
use Rattle.adr_model.specs.Store.{State}
use Rattle.adr_law_journal.specs.Areas.{Found}
use Rattle.adr_records.specs.Logged.{IsLogged}
use Rattle.adr_journal.specs.declared.keeper.Keeper.{Ghosts}
use Rattle.adr_controller.specs.Running.{Running}
use Rattle.adr_law_controller.specs.Laws.{GivenCallsFollow}

-- it takes the change of each call that has the form of one, and keeps states of a log alone
pub record KeepsLog {K : Type 0} (k : Ghosts K) : Type 0 where
  pub given : GivenCallsFollow k
  pub logged : (s : State) → k.is_formed s → IsLogged s

-- a controller is up with this state, and its keeper stands for it
abbrev pub Stands : {K : Type 0} → Ghosts K → Found State → Running K → Type 0
Stands k f c = (c.state ≡ Some f.state) × k.is_at c.keeper f
