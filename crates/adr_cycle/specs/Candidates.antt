-- The items that may be sent, looked up one by one, and the units that are left meanwhile.
use Rattle.std.specs.Prelude.{◌≡◌, ◌+◌, ◌≤◌, ℕ, List, [], ◌∷◌, Option, Some, None, filter, find, nat_lt}
use Rattle.std.specs.Option.{option_map_or}
use Rattle.std.specs.Ordering.{nat_cmp}
use Rattle.std.specs.Map.{lookup}
use Rattle.std.specs.BTreeMap.{is_at}
use Rattle.adr_values.specs.declared.stamp.Unit.{Unit as Named}
use Rattle.adr_values.specs.Vector.{Cursors}
use Rattle.adr_values.specs.declared.mark.Mark.{Mark}
use Rattle.adr_model.specs.Store.{Held, updates_of}
use Rattle.adr_model.specs.Change.{Item}
use Rattle.adr_model.specs.Serve.{candidates, is_unseen}
use Rattle.adr_update.specs.Sought.{rows_of_unit}
use Rattle.adr_table.specs.Lasts.{AreLasts, Last}

-- the rows of a unit that the asker may lack
abbrev pub unseen_of : List Held → Mark → Cursors → Named → List Held
unseen_of rows from asked unit = filter (is_unseen from asked) (rows_of_unit rows unit)

-- rows of a unit as an item, if there are any
abbrev pub some_item : Named → List Held → Option Item
some_item unit [] = None
some_item unit (h ∷ hs) = Some (record { unit = unit; rows = updates_of (h ∷ hs) })

-- the item under a number
abbrev pub candidate_at : List Held → Mark → Cursors → ℕ → Option Item
candidate_at rows from asked usn = lookup (is_at (nat_cmp usn)) (candidates rows from asked)

-- the first item behind a number, with its own
abbrev pub next_candidate : List Held → Mark → Cursors → ℕ → Option (ℕ × Item)
next_candidate rows from asked usn = find (λ (e : ℕ × Item). nat_lt usn e.0) (candidates rows from asked)

-- the units that are left are those behind a number, and no item is between that and this one
pub record AreBehind (rows : List Held) (from : Mark) (asked : Cursors) (usn : ℕ) (left : List Last) : Type 0 where
  pub passed : ℕ
  pub above : from.obj ≤ passed
  pub lasts : AreLasts rows (passed + 1) left
  pub same : next_candidate rows from asked passed ≡ next_candidate rows from asked usn

-- the number of an item, or the one before it where there is none
abbrev pub number_after : ℕ → Option (ℕ × Item) → ℕ
number_after usn next = option_map_or (λ (c : ℕ × Item). c.0) next usn
