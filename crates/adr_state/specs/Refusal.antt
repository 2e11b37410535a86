-- When a change is refused.
use Rattle.std.specs.Prelude.{◌⊎◌, ◌<◌, length}
use Rattle.adr_values.specs.Vector.{cursor_limit}
use Rattle.adr_model.specs.Store.{State}

-- a vector of the state has more cursors than a vector has
abbrev pub IsOverfull : State → Type 0
IsOverfull s = (cursor_limit < length s.store.vector) ⊎ (cursor_limit < length s.store.purged)
