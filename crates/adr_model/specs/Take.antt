-- Taking a reply: the first refusal, or the change that it makes.
use Rattle.std.specs.Prelude.{ℕ, ◌+◌, List, [], ◌∷◌, ◌++◌, Bool, true, false, not, ◌&&◌, ◌||◌, ◌==◌, nat_le, nat_lt, max, length, map, filter, fold, Option, Some, None, unwrap_or, is_some, Result, if◌then◌else◌}
use Rattle.std.specs.List.{list_any, find}
use Rattle.std.specs.Bool.{then_some}
use Rattle.std.specs.Option.{option_map, option_map_or, option_and_then, option_or}
use Rattle.adr_values.specs.declared.stamp.Oid.{Oid}
use Rattle.adr_values.specs.declared.stamp.Stamp.{Stamp}
use Rattle.adr_values.specs.declared.stamp.Unit.{Unit as Named}
use Rattle.adr_values.specs.declared.stamp.Unit.TheVariants.{Object, Link}
use Rattle.adr_values.specs.declared.content.Content.TheVariants.{Class, Name, Dead, Values}
use Rattle.adr_values.specs.declared.refusal.SchemaRefusal.{SchemaRefusal}
use Rattle.adr_values.specs.Table.{Table as Schema, must_of}
use Rattle.adr_values.specs.Numbered.{numbered}
use Rattle.adr_values.specs.Rules.{class_refusal, name_refusal, row_refusal, not_link_refusal}
use Rattle.adr_values.specs.Vector.{Cursors, at, first_gap, cursor_limit}
use Rattle.adr_values.specs.declared.mark.Mark.{Mark}
use Rattle.adr_call.specs.declared.refusal.Table.{Table}
use Rattle.adr_call.specs.declared.refusal.Table.TheVariants.{Objects, Links, Cursors as CursorTable, Marks}
use Rattle.adr_call.specs.declared.refusal.ItemFault.{ItemFault}
use Rattle.adr_call.specs.declared.refusal.ItemFault.TheVariants.{Schema as BreaksSchema, WrongBirth}
use Rattle.adr_call.specs.declared.refusal.TakeRefusal.{TakeRefusal}
use Rattle.adr_call.specs.declared.refusal.TakeRefusal.TheVariants.{Quarantined, NotMine, Stale, VectorBehind, SchemaMismatch, RolledBack, BadItem, Incomplete, UsnLimit, Full}
use Rattle.adr_values.specs.First.{first_of}
use Rattle.adr_model.specs.Refusing.{unless}
use Rattle.adr_model.specs.Update.{Key, RowOf, LinkOf, Said, Holds, IsPresent, Update, same_identifier, is_older, class_attr, name_attr, deleted_attr}
use Rattle.adr_model.specs.Live.{objects_of}
use Rattle.adr_model.specs.Visible.{covers_birth}
use Rattle.adr_model.specs.Store.{Held, State, updates_of, row_held, holds_object, holds_dead, kept_of, mark_of}
use Rattle.adr_model.specs.Change.{Item, Written, Change, held_of, rows_after, after, unchanged}
use Rattle.adr_model.specs.Serve.{Reply, is_quarantined}
use Rattle.adr_model.specs.Write.{object_limit, link_limit, usn_limit, links_in}

-- ---- which rows of an item are written

-- whether a row is above the one of its key, or there is none
abbrev pub is_above : List Held → Update → Bool
is_above rows u = option_map_or (λ h. is_older h.update u) (row_held rows u.key) true

abbrev pub is_of_attr : ℕ → Key → Bool
is_of_attr attr (RowOf o a) = a == attr
is_of_attr attr (LinkOf l) = false

-- a class, name or deleted row
abbrev pub is_reserved_row : Key → Bool
is_reserved_row (RowOf o a) = nat_le class_attr a && nat_le a deleted_attr
is_reserved_row (LinkOf l) = false

abbrev pub has_row : ℕ → List Update → Bool
has_row attr rows = list_any (λ u. is_of_attr attr u.key) rows

-- an object that dies keeps only its class, name and deleted rows
abbrev pub left_by_death : List Update → List Update
left_by_death rows = if has_row deleted_attr rows then filter (λ u. is_reserved_row u.key) rows else rows

-- an object that was held and was collected, or never comes
abbrev pub is_gone : Cursors → List Held → Oid → Bool
is_gone vector rows o = not (holds_object rows o) && covers_birth vector o

-- an end of a link that is dead or gone
abbrev pub is_lost_end : Cursors → List Held → Oid → Bool
is_lost_end vector rows o = holds_dead rows o || is_gone vector rows o

-- what stands of an object before its item: it is held dead, or held alive; or it is gone, since it was held and collected or
-- never comes; or it is new
pub data Presence : Type 0 where
  IsDead : Presence
  IsHeld : Presence
  IsGone : Presence
  IsNew : Presence

abbrev pub presence_of : Cursors → List Held → Oid → Presence
presence_of vector rows o =
    if holds_dead rows o then IsDead else if holds_object rows o then IsHeld else if covers_birth vector o then IsGone else IsNew

-- the rows of an object's item that are written: of a dead object a younger death, of a live one all younger rows but its class
abbrev pub object_rows_taken : List Held → List Update → Presence → List Update
object_rows_taken rows us IsDead = filter (λ u. is_of_attr deleted_attr u.key && is_above rows u) us
object_rows_taken rows us IsHeld = left_by_death (filter (λ u. not (is_of_attr class_attr u.key) && is_above rows u) us)
object_rows_taken rows us IsGone = []
object_rows_taken rows us IsNew = left_by_death us

-- the rows of an item that are written
abbrev pub rows_taken : Cursors → List Held → Item → List Update
rows_taken vector rows item = by item.unit
  where
    by : Named → List Update
    by (Object o) = object_rows_taken rows item.rows (presence_of vector rows o)
    by (Link l) = if is_lost_end vector rows l.from || is_lost_end vector rows l.to then [] else filter (is_above rows) item.rows

-- ---- which rows of an item are looked at, and what is wrong with one

-- the rows of an object's item that are looked at: of a live object all, also where it dies by them
abbrev pub object_rows_tested : List Update → Presence → List Update
object_rows_tested us IsDead = []
object_rows_tested us IsHeld = us
object_rows_tested us IsGone = []
object_rows_tested us IsNew = left_by_death us

-- the rows that aren't left out
abbrev pub rows_tested : Cursors → List Held → Item → List Update
rows_tested vector rows item = by item.unit
  where
    by : Named → List Update
    by (Object o) = object_rows_tested item.rows (presence_of vector rows o)
    by (Link l) = if is_lost_end vector rows l.from || is_lost_end vector rows l.to then [] else item.rows

-- whether a stamp is that of the creation of the object
abbrev pub carries_birth : Oid → Stamp → Bool
carries_birth o s = (s.version == 1) && same_identifier s.inv o.birth.inv && (s.usn == o.birth.usn)

-- whether a class row carries the birth of its object
abbrev pub is_birth : Oid → Update → Bool
is_birth o u = carries_birth o u.stamp.stamp

abbrev pub broken : Option SchemaRefusal → Option ItemFault
broken r = option_map BreaksSchema r

-- what is wrong with a row of an object of this class, if the class is known
abbrev pub row_fault : Schema → Option ℕ → Update → Option ItemFault
row_fault table class u = by u.key u.said
  where
    by : Key → Said → Option ItemFault
    by (RowOf o attr) (Holds (Class c)) = first_of (then_some (not (is_birth o u)) WrongBirth ∷ broken (class_refusal table c) ∷ [])
    by (RowOf o attr) (Holds (Name text parent)) = broken (name_refusal text)
    by (RowOf o attr) (Holds Dead) = None
    by (RowOf o attr) (Holds (Values vs)) = broken (row_refusal table class attr vs)
    by (RowOf o attr) (IsPresent b) = None
    by (LinkOf l) said = broken (not_link_refusal table l.attr)

-- the class that a class row gives
abbrev pub class_said : Said → Option ℕ
class_said (Holds (Class c)) = Some c
class_said (Holds (Name text parent)) = None
class_said (Holds Dead) = None
class_said (Holds (Values vs)) = None
class_said (IsPresent b) = None

abbrev pub class_among : List Update → Option ℕ
class_among rows = option_and_then (λ u. class_said u.said) (find (λ u. is_of_attr class_attr u.key) rows)

-- the class of an item's object: that of the held object, or the one that comes
abbrev pub class_of_item : List Held → Item → Option ℕ
class_of_item rows item = by item.unit
  where
    by : Named → Option ℕ
    by (Object o) = option_or (option_and_then (λ h. class_said h.update.said) (row_held rows (RowOf o class_attr))) (class_among item.rows)
    by (Link l) = None

abbrev pub item_fault : Schema → Cursors → List Held → Item → Option ItemFault
item_fault table vector rows item = first_of (map (row_fault table (class_of_item rows item)) (rows_tested vector rows item))

-- whether a new object lacks its class or its name, or is alive and lacks what it must have
abbrev pub lacks : Schema → List Update → Bool
lacks table rows =
    not (has_row class_attr rows) || not (has_row name_attr rows)
    || (not (has_row deleted_attr rows) && list_any (λ attr. not (has_row attr rows)) (must_of table (unwrap_or (class_among rows) 0)))

-- only a new object may lack anything
abbrev pub object_lacks : Schema → List Update → Presence → Bool
object_lacks table us IsNew = lacks table us
object_lacks table us _ = false

abbrev pub incomplete : Schema → Cursors → List Held → Item → Option TakeRefusal
incomplete table vector rows item = by item.unit
  where
    by : Named → Option TakeRefusal
    by (Object o) = then_some (object_lacks table item.rows (presence_of vector rows o)) (Incomplete o)
    by (Link l) = None

abbrev pub item_refusal : Schema → Cursors → List Held → ℕ → Item → Option TakeRefusal
item_refusal table vector rows at item = first_of (option_map (BadItem at) (item_fault table vector rows item) ∷ incomplete table vector rows item ∷ [])

-- ---- the items, one after the other

-- how far a reply has been taken: the rows, the USN and the writes so far, the first refusal, and the most objects and links on the way
pub record Taking : Type 0 where
  pub rows : List Held
  pub usn : ℕ
  pub writes : List Written
  pub refusal : Option TakeRefusal
  pub place : ℕ
  pub objects : ℕ
  pub links : ℕ

abbrev pub begin : State → Taking
begin s = record { rows = s.store.rows; usn = s.store.usn; writes = []; refusal = None; place = 0; objects = 0; links = 0 }

-- the rows of an item under the next USN, where there are any
abbrev pub writes_of : ℕ → Item → List Update → List Written
writes_of usn item [] = []
writes_of usn item (u ∷ us) = record { local = usn + 1; item = record { unit = item.unit; rows = u ∷ us } } ∷ []

-- an item is judged against what the items before it left, with the vector of the start
abbrev pub take_item : Schema → Cursors → Taking → Item → Taking
take_item table vector t item =
    let writes = writes_of t.usn item (rows_taken vector t.rows item) in
    let rows = rows_after [] (held_of writes) t.rows in
    record {
      rows = rows;
      usn = t.usn + length writes;
      writes = t.writes ++ writes;
      refusal = first_of (t.refusal ∷ item_refusal table vector t.rows t.place item ∷ []);
      place = t.place + 1;
      objects = max t.objects (length (objects_of (updates_of rows)));
      links = max t.links (links_in rows);
    }

abbrev pub take_items : State → List Item → Taking
take_items s items = fold (take_item (numbered s.store.schema) s.store.vector) (begin s) items

-- ---- the whole

-- the times that a reply brings: the last one does
abbrev pub times_brought : Reply → Cursors
times_brought r = if is_some r.last then r.times else []

-- the change of a taken reply; the last one brings the source's vector and times
abbrev pub taken_change : State → Reply → Taking → Change
taken_change s r t =
    record (unchanged s) {
      usn = t.usn;
      mark = Some (r.source, record { inv = r.inv; mark = r.to });
      joined = unwrap_or r.last [];
      times = times_brought r;
      writes = t.writes;
    }

-- how many partners' marks a controller keeps at most
abbrev pub mark_limit : ℕ
mark_limit = 10000

-- a table is over its limit
abbrev pub over_limit : Table → ℕ → ℕ → Option TakeRefusal
over_limit table limit count = then_some (nat_lt limit count) (Full table limit)

abbrev pub same_mark : Mark → Mark → Bool
same_mark m n = (m.obj == n.obj) && (m.prop == n.prop) && (m.seen == n.seen)

abbrev pub kept_mark : State → Reply → Mark
kept_mark s r = mark_of (kept_of s.store r.source) r.inv

-- how much of this incarnation the source has seen
abbrev pub shown_by_last : State → Reply → ℕ
shown_by_last s r = option_map_or (λ v. at v s.inv) r.last 0

-- why a reply is refused, first in order
abbrev pub take_refusal : State → Reply → Taking → State → Option TakeRefusal
take_refusal s r t taken =
    first_of (
    then_some (is_quarantined s.mode) Quarantined
    ∷ then_some (not (same_identifier r.dest s.dsa)) (NotMine r.dest)
    ∷ then_some (not (same_mark r.from (kept_mark s r))) (Stale (kept_mark s r) r.from)
    ∷ option_map (λ gap. VectorBehind gap.0 gap.1 gap.2) (first_gap r.asked s.store.vector)
    ∷ then_some (not (r.schema == s.store.schema)) (SchemaMismatch s.store.schema r.schema)
    ∷ then_some (nat_lt s.store.usn (shown_by_last s r)) (RolledBack s.inv s.store.usn (shown_by_last s r))
    ∷ t.refusal
    ∷ then_some (nat_lt usn_limit t.usn) UsnLimit
    ∷ over_limit Objects object_limit t.objects
    ∷ over_limit Links link_limit t.links
    ∷ over_limit CursorTable cursor_limit (length taken.store.vector)
    ∷ over_limit Marks mark_limit (length taken.store.marks)
    ∷ []
    )

-- what a reply does to a controller: the first refusal, or the change
abbrev pub take : State → Reply → Result Change TakeRefusal
take s r =
    let t = take_items s r.items in
    let change = taken_change s r t in
    unless (take_refusal s r t (after s change)) change
