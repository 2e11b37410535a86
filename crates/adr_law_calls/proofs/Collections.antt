-- What a collection is of: who is dead, its change, the state behind it, the rows that it finds, and the objects that go.
use Rattle.std.proofs.Common.{ℕ, List, map}
use Rattle.adr_values.specs.declared.stamp.Oid.{Oid}
use Rattle.adr_model.specs.Update.{Update}
use Rattle.adr_model.specs.Store.{Held, State}
use Rattle.adr_model.specs.Change.{Change, after}
use Rattle.adr_model.specs.Collect.{deaths_to_collect, collection}

pub record Collecting : Type 0 where
  pub dead : List (Oid × Update)
  pub c : Change
  pub d : State
  pub rows : List Held
  pub os : List Oid

abbrev pub collecting : State → ℕ → ℕ → Collecting
collecting s now lifetime =
    let dead = deaths_to_collect s now lifetime in
    let c = collection s dead in
    record { dead = dead; c = c; d = after s c; rows = s.store.rows; os = map (λ (t : Oid × Update). t.0) dead }
