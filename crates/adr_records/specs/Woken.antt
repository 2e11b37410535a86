-- A controller is made of a store.
use Rattle.std.specs.Prelude.{ℕ, List}
use Rattle.adr_model.specs.Store.{PartnerMark, State, empty_state, empty_store}
use Rattle.adr_model.specs.Update.{Identifier}

-- a controller of nothing, under this schema
abbrev pub unmade : ℕ → Identifier → Identifier → State
unmade schema dsa inv = record (empty_state dsa inv) { store = empty_store schema }

abbrev pub with_marks : List (Identifier × PartnerMark) → State → State
with_marks marks s = record s { store = record (s.store) { marks = marks } }
