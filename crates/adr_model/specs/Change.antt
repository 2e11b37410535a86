-- What one commit changes, and what it makes of rows and of a controller. This one function of rows serves every call, the local logs and the journal.
use Rattle.std.specs.Prelude.{ℕ, List, [], map, fold, filter, Bool, false, not, ◌||◌, ◌==◌, nat_lt, Option, Some, None, if◌then◌else◌}
use Rattle.std.specs.List.{flat_map}
use Rattle.std.specs.BTreeMap.{insert_entry}
use Rattle.adr_values.specs.Order.{identifier_order}
use Rattle.adr_values.specs.declared.stamp.Oid.{Oid}
use Rattle.adr_values.specs.declared.stamp.Unit.{Unit as Named}
use Rattle.adr_values.specs.Vector.{Cursors, joined, raised}
use Rattle.adr_model.specs.Update.{Identifier, Key, RowOf, LinkOf, Update, same_object, deleted_attr}
use Rattle.adr_model.specs.Store.{Held, PartnerMark, Mode, Normal, Store, State, with_row, is_row_of}

-- rows of one object, or a link row
pub record Item : Type 0 where
  pub unit : Named
  pub rows : List Update

-- rows of one unit, which are written under one local USN
pub record Written : Type 0 where
  pub local : ℕ
  pub item : Item

-- what one commit changes: the USN after, the mode, the number of the schema, the mark of a partner, what is joined into the
-- two vectors and the times, which objects are removed and which rows are written
pub record Change : Type 0 where
  pub usn : ℕ
  pub mode : Mode
  pub schema : ℕ
  pub mark : Option (Identifier × PartnerMark)
  pub joined : Cursors
  pub times : Cursors
  pub purged : Cursors
  pub removed : List Oid
  pub writes : List Written

-- the rows that are written, in order
abbrev pub held_of : List Written → List Held
held_of writes = flat_map (λ (w : Written). map (λ (u : Update). let h : Held = record { update = u; local = w.local } in h) w.item.rows) writes

-- the updates that a change writes
abbrev pub updates_written : Change → List Update
updates_written c = flat_map (λ (w : Written). w.item.rows) c.writes

-- whether a row goes when the object dies: it stands above the reserved rows (a formed store has none of attribute 0), or is a
-- link that begins or ends there
abbrev pub goes_with : Oid → Key → Bool
goes_with o (RowOf p attr) = if same_object p o then nat_lt deleted_attr attr else false
goes_with o (LinkOf l) = same_object l.from o || same_object l.to o

-- the object that a row of this key kills
abbrev pub killed_by : Key → Option Oid
killed_by (RowOf o attr) = if attr == deleted_attr then Some o else None
killed_by (LinkOf l) = None

abbrev pub stripped : Option Oid → List Held → List Held
stripped None rows = rows
stripped (Some o) rows = filter (λ h. not (goes_with o h.update.key)) rows

-- a row is put: it takes the place of the row of its key, and a death takes its object's other rows and links
abbrev pub put : List Held → Held → List Held
put rows h = stripped (killed_by h.update.key) (with_row rows h)

abbrev pub without_object : List Held → Oid → List Held
without_object rows o = filter (λ h. not (is_row_of o h.update.key)) rows

-- rows after others were written, one after the other, and then objects removed
abbrev pub rows_after : List Oid → List Held → List Held → List Held
rows_after removed writes rows = fold without_object (fold put rows writes) removed

abbrev pub with_mark : Option (Identifier × PartnerMark) → List (Identifier × PartnerMark) → List (Identifier × PartnerMark)
with_mark None marks = marks
with_mark (Some m) marks = insert_entry identifier_order marks m.0 m.1

-- a store after a change, but for its USN and its own cursor
abbrev pub merged : Store → Change → Store
merged s c =
    record {
      schema = c.schema;
      usn = s.usn;
      rows = rows_after c.removed (held_of c.writes) s.rows;
      vector = joined s.vector c.joined;
      times = joined s.times c.times;
      purged = joined s.purged c.purged;
      marks = with_mark c.mark s.marks;
    }

-- a controller after a change; its own cursor is its USN
abbrev pub after : State → Change → State
after s c =
    let m = merged s.store c in
    record { dsa = s.dsa; inv = s.inv; mode = c.mode; store = record m { usn = c.usn; vector = raised m.vector s.inv c.usn } }

-- a change that leaves a controller as it is
abbrev pub unchanged : State → Change
unchanged s =
    record { usn = s.store.usn; mode = Normal; schema = s.store.schema; mark = None; joined = []; times = []; purged = []; removed = []; writes = [] }
