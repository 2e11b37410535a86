-- What a revival needs of an image: its rows, and the number of its schema.
use Rattle.std.specs.Prelude.{◌≡◌, ℕ, List}
use Rattle.adr_model.specs.Store.{Held, Store, empty_store}

pub record Archived : Type 0 where
  pub schema : ℕ
  pub rows : List Held

abbrev pub IsArchive : Store → Archived → Type 0
IsArchive image a = (image.schema ≡ a.schema) × (image.rows ≡ a.rows)

-- an image with these rows
abbrev pub stored : Archived → Store
stored a = record (empty_store a.schema) { rows = a.rows }
