-- Where an identifier stands among cursors, or would stand.
use Rattle.std.specs.Prelude.{◌≡◌, ℕ, ◌<◌, ◌≤◌, List, [], length, slice_index_or}
use Rattle.std.specs.declared.cmp.Ordering.TheVariants.{Less}
use Rattle.adr_values.specs.Order.{identifier_order}
use Rattle.adr_values.specs.Vector.{Cursors}

-- the identifier of the cursor at a place
abbrev pub identifier_at : Cursors → ℕ → List ℕ
identifier_at cursors i = let cursor = slice_index_or cursors i ([], 0) in cursor.0

-- the identifiers before a place are less
abbrev pub AreLessBefore : Cursors → List ℕ → ℕ → Type 0
AreLessBefore cursors inv i = (j : ℕ) → j < i → identifier_order (identifier_at cursors j) inv ≡ Less

pub record IsAt (cursors : Cursors) (inv : List ℕ) (i : ℕ) : Type 0 where
  pub in_range : i < length cursors
  pub is_there : identifier_at cursors i ≡ inv
  pub before : AreLessBefore cursors inv i

pub record IsGapFor (cursors : Cursors) (inv : List ℕ) (i : ℕ) : Type 0 where
  pub in_range : i ≤ length cursors
  pub before : AreLessBefore cursors inv i
  pub after : i < length cursors → identifier_order inv (identifier_at cursors i) ≡ Less
