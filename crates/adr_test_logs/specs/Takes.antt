-- What a keeper of logs takes: a new controller, and what clients write.
use Rattle.adr_call.specs.declared.write.Write.{Write}
use Rattle.adr_model.specs.Place.{identifier}
use Rattle.adr_model.specs.Store.{State, empty_state}
use Rattle.adr_model.specs.Given.{IsWellGiven}
use Rattle.adr_model.specs.Write.{write_meant}
use Rattle.adr_journal.specs.declared.keeper.Keeper.{Ghosts}
use Rattle.adr_controller.specs.Able.{AllFollow, written_in}
use Rattle.adr_law_recorded.specs.Typed.{IsTypedWrite}

-- a new, empty controller
abbrev pub new_state : State
new_state = empty_state (identifier 0xa0) (identifier 0xa1)

-- a client's write, of values in order and in their types
abbrev pub IsWrite : Write → Type 0
IsWrite what = IsWellGiven (write_meant what) × IsTypedWrite (write_meant what)

-- it takes the new controller, and each of those writes at the time 0
pub record TakesAll {K : Type 0} (k : Ghosts K) : Type 0 where
  pub begins : k.can_begin new_state
  pub formed : k.is_formed new_state
  pub follows : (what : Write) → IsWrite what → AllFollow k (written_in what 0)
