-- What a controller keeps: its rows with their local USNs, what it has seen and what it has collected, and how far it has read each partner.
use Rattle.std.specs.Prelude.{ℕ, List, [], ◌∷◌, map, Bool, false, Option, unwrap_or, is_some, if◌then◌else◌}
use Rattle.std.specs.List.{list_any, find}
use Rattle.std.specs.Map.{lookup}
use Rattle.std.specs.BTreeMap.{is_at}
use Rattle.std.specs.Ordering.{match_ordering}
use Rattle.adr_values.specs.Order.{identifier_order}
use Rattle.adr_values.specs.declared.stamp.Oid.{Oid}
use Rattle.adr_values.specs.Vector.{Cursors}
use Rattle.adr_values.specs.declared.mark.Mark.{Mark}
use Rattle.adr_model.specs.Update.{Identifier, Key, RowOf, LinkOf, Update, key_order, same_key, same_object, same_identifier, deleted_attr}
use Rattle.adr_model.specs.Place.{identifier}

-- a row with the USN under which it was written here
pub record Held : Type 0 where
  pub update : Update
  pub local : ℕ

-- the rows of a state as updates
abbrev pub updates_of : List Held → List Update
updates_of rows = map (λ h. h.update) rows

-- rows with one more, which takes the place of the row of its key
abbrev pub with_row : List Held → Held → List Held
with_row [] h = h ∷ []
with_row (x ∷ xs) h = match_ordering (key_order h.update.key x.update.key) (h ∷ x ∷ xs) (h ∷ xs) (x ∷ with_row xs h)

-- the row of a key
abbrev pub row_held : List Held → Key → Option Held
row_held rows key = find (λ h. same_key h.update.key key) rows

-- whether the key is that of a row of the object
abbrev pub is_row_of : Oid → Key → Bool
is_row_of o (RowOf p attr) = same_object p o
is_row_of o (LinkOf l) = false

-- whether the object is held, and whether it is held dead
abbrev pub holds_object : List Held → Oid → Bool
holds_object rows o = list_any (λ h. is_row_of o h.update.key) rows

abbrev pub holds_dead : List Held → Oid → Bool
holds_dead rows o = is_some (row_held rows (RowOf o deleted_attr))

-- how far an incarnation of a partner was read (after MS-DRSR USN_VECTOR)
pub record PartnerMark : Type 0 where
  pub inv : Identifier
  pub mark : Mark

-- a database. It has no identity of its own: an image is a store
pub record Store : Type 0 where
  pub schema : ℕ
  pub usn : ℕ
  pub rows : List Held  -- in order of their keys
  pub vector : Cursors
  pub times : Cursors  -- when each incarnation was last read whole, where that is known
  pub purged : Cursors  -- covers the births and deaths of what was collected
  pub marks : List (Identifier × PartnerMark)  -- by partner, rising

pub data Mode : Type 0 where
  Normal : Mode
  Quarantined : Mode

-- a controller: its own identifier, the invocation identifier of its database, and that database
pub record State : Type 0 where
  pub dsa : Identifier
  pub inv : Identifier
  pub mode : Mode
  pub store : Store

abbrev pub empty_store : ℕ → Store
empty_store schema = record { schema = schema; usn = 0; rows = []; vector = []; times = []; purged = []; marks = [] }

-- a new, empty controller
abbrev pub empty_state : Identifier → Identifier → State
empty_state dsa inv = record { dsa = dsa; inv = inv; mode = Normal; store = empty_store 1 }

-- the mark of a partner of whom nothing was read
abbrev pub no_mark : Mark
no_mark = record { obj = 0; prop = 0; seen = 0 }

-- what is kept of a partner
abbrev pub kept_of : Store → Identifier → PartnerMark
kept_of s partner = unwrap_or (lookup (is_at (identifier_order partner)) s.marks) (record { inv = identifier 0; mark = no_mark })

-- a mark, as far as it speaks of this incarnation
abbrev pub mark_of : PartnerMark → Identifier → Mark
mark_of k inv = if same_identifier k.inv inv then k.mark else no_mark
