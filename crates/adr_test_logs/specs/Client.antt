-- What a client finds behind a call.
use Rattle.std.specs.Prelude.{◌≡◌, ◌⊎◌, Option, Some}
use Rattle.adr_model.specs.Store.{State}
use Rattle.adr_model.specs.Change.{Change, after}

-- the state before it, or the one behind its change
abbrev pub IsBeforeOrBehind : (State → Option Change) → State → State → Type 0
IsBeforeOrBehind changes s t = (t ≡ s) ⊎ ((c : Change) × (changes s ≡ Some c) × (t ≡ after s c))
