-- Which states a log leads to, and which states and changes may be written to one.
use Rattle.std.specs.Prelude.{◌≡◌}
use Rattle.adr_wire.specs.Ranges.{IsId}
use Rattle.adr_model.specs.Change.{Change}
use Rattle.adr_model.specs.Formed.{IsFormed}
use Rattle.adr_model.specs.Lengths.{area_version}
use Rattle.adr_model.specs.Store.{Normal, State}
use Rattle.adr_law_calls.specs.Follow.{CanFollow, HasKnownClasses}
use Rattle.adr_image.specs.Changes.{HasBody}
use Rattle.adr_image.specs.Stored.{IsSpelled}

-- what each state of a log is
pub record IsLogged (s : State) : Type 0 where
  pub dsa : IsId s.dsa
  pub inv : IsId s.inv
  pub formed : IsFormed s
  pub spelled : IsSpelled s.store
  pub classes : HasKnownClasses s

-- a state that a log may begin with, however long its image is: it is up
pub record MayBegin (s : State) : Type 0 where
  pub logged : IsLogged s
  pub normal : s.mode ≡ Normal

-- a change that can be written as a record, in the version that is written, and can follow the state
pub record MayBeRecorded (s : State) (c : Change) : Type 0 where
  pub logged : IsLogged s
  pub follows : CanFollow s c
  pub body : HasBody area_version s.store.usn s.store.schema c
