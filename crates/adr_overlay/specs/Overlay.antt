-- What is told by rows over those of a base.
use Rattle.std.specs.Prelude.{◌≡◌, ℕ, List, [], ◌∷◌, ◌++◌, Bool, ◌&&◌, ◌||◌, not, Option, Some, None, filter, is_none, is_some, length, nat_lt, if◌then◌else◌}
use Rattle.adr_values.specs.declared.stamp.Oid.{Oid}
use Rattle.adr_model.specs.Update.{Key, RowOf, LinkOf, deleted_attr}
use Rattle.adr_model.specs.Live.{born, objects_of}
use Rattle.adr_model.specs.Store.{Held, holds_dead, row_held, updates_of, with_row}
use Rattle.adr_model.specs.Change.{goes_with}
use Rattle.adr_model.specs.Write.{is_link_row, links_in}
use Rattle.adr_model.specs.Formed.{AreRising}
use Rattle.adr_update.specs.Sought.{is_link_from, is_link_to}
use Rattle.adr_table.specs.Table.{IsKept, rows_in}
use Rattle.adr_table.specs.declared.table.Table.{Table}

-- whether a row of the base went with an object that died by rows over it
abbrev pub is_stripped : List Held → Key → Bool
is_stripped over (RowOf o attr) = holds_dead over o && nat_lt deleted_attr attr
is_stripped over (LinkOf l) = holds_dead over l.from || holds_dead over l.to

-- whether a row of the base still counts
abbrev pub is_left : List Held → Key → Bool
is_left over k = not (is_stripped over k) && is_none (row_held over k)

-- rows in the places of those of their keys
abbrev pub laid : List Held → List Held → List Held
laid [] base = base
laid (x ∷ xs) base = with_row (laid xs base) x

-- the rows of the base that are left, and over them the others
abbrev pub told : List Held → List Held → List Held
told over base = laid over (filter (λ h. not (is_stripped over h.update.key)) base)

-- keys rise, and the counts are those of what is told
pub record IsCounted (over base : List Held) (m n : ℕ) : Type 0 where
  pub over_rises : AreRising over
  pub base_rises : AreRising base
  pub objects : m ≡ length (objects_of (updates_of (told over base)))
  pub links : n ≡ links_in (told over base)

-- the rows over the base and those of the base stand in tables, and together they are counted
pub record AreLaid (over base : Table) (m n : ℕ) : Type 0 where
  pub kept : IsKept over
  pub based : IsKept base
  pub counted : IsCounted (rows_in over) (rows_in base) m n

-- 1 where it is so
abbrev pub one : Bool → ℕ
one b = if b then 1 else 0

-- a class row, which is there once for each object
abbrev pub is_birth_row : Key → Bool
is_birth_row k = is_some (born k)

-- whether a row of the key counts, as an object or as a link
abbrev pub is_counted : Key → Bool
is_counted k = is_birth_row k || is_link_row k

-- the row of a key in the base, if it still counts where none is over it
abbrev pub left_below : List Held → List Held → Key → Option Held
left_below over base k = if is_stripped over k then None else row_held base k

-- how many links a death takes
abbrev pub links_lost : Option Oid → List Held → ℕ
links_lost None rows = 0
links_lost (Some o) rows = length (filter (λ h. is_link_row h.update.key && goes_with o h.update.key) rows)

-- the links from an object, and then the other links to it
abbrev pub links_found : Oid → List Held → List Held
links_found o rows =
    filter (λ h. is_link_from o h.update.key) rows ++ filter (λ h. not (is_link_from o h.update.key)) (filter (λ h. is_link_to o h.update.key) rows)
