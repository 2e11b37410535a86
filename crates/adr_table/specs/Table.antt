-- Tables: the rows that are seen, what keeps the slots and the hints together, and room for rows.
use Rattle.std.specs.Prelude.{ℕ, ◌<◌, List, length, slice_index_or}
use Rattle.adr_model.specs.Store.{Held}
use Rattle.adr_table.specs.declared.table.Table.{Table}
use Rattle.adr_shelves.specs.Place.{place_of}
use Rattle.adr_table.specs.Slots.{HasSlot, IsTidy, rows_seen}
use Rattle.adr_table.specs.Back.{AreBacked, IsHinted}
use Rattle.adr_table.specs.Deaths.{AreListed, IsListed}
use Rattle.adr_table.specs.Locals.{AreLocated, IsLocated}

-- the rows of a table, in order of their keys
abbrev pub rows_in : Table → List Held
rows_in t = rows_seen t.slots

-- rows stand at their places and are counted, and links and deaths have their hints
pub record IsKept (t : Table) : Type 0 where
  pub tidy : IsTidy t.slots
  pub backed : AreBacked t.slots t.back
  pub listed : AreListed t.slots t.dead

-- each row has the hint of its local USN
abbrev pub AreNumbered : Table → Type 0
AreNumbered t = AreLocated t.slots t.locals

-- a row can be put without memory
pub record HasRoom (t : Table) (h : Held) : Type 0 where
  pub slot : HasSlot t.slots (place_of h.update.key)
  pub hinted : IsHinted t.back h.update.key
  pub listed : IsListed t.dead h.update.key
  pub located : IsLocated t.locals h

abbrev pub HaveRoom : Table → List Held → Type 0
HaveRoom t rows = (i : ℕ) (d : Held) → i < length rows → HasRoom t (slice_index_or rows i d)
