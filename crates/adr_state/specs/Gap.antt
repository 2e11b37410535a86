-- Where the row of a key stands among rows, or would stand.
use Rattle.std.specs.Prelude.{◌≡◌, ℕ, ◌<◌, ◌≤◌, List, length, slice_set, insert}
use Rattle.adr_model.specs.Update.{Key}
use Rattle.adr_model.specs.Store.{Held, with_row}

-- a row of the key takes the place
pub record IsPlaceOf (rows : List Held) (key : Key) (i : ℕ) : Type 0 where
  pub in_range : i < length rows
  pub takes : (h : Held) → h.update.key ≡ key → with_row rows h ≡ slice_set rows i h

-- a row of the key comes in before the place
pub record IsGapFor (rows : List Held) (key : Key) (i : ℕ) : Type 0 where
  pub in_range : i ≤ length rows
  pub enters : (h : Held) → h.update.key ≡ key → with_row rows h ≡ insert rows i h
