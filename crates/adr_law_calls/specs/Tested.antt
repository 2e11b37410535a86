-- What can follow, as a test of a change that was read, which looks at what the change touches.
use Rattle.std.specs.Prelude.{Option, ℕ, List, [], ◌∷◌, length, Bool, true, false, not, ◌&&◌, ◌||◌, ◌==◌, nat_le, Some, None, is_none, is_some}
use Rattle.std.specs.List.{list_all}
use Rattle.std.specs.Option.{option_map_or}
use Rattle.adr_values.specs.declared.stamp.Oid.{Oid}
use Rattle.adr_values.specs.declared.stamp.Unit.{Unit as Named}
use Rattle.adr_values.specs.declared.stamp.Unit.TheVariants.{Object, Link}
use Rattle.adr_values.specs.declared.content.Content.TheVariants.{Class, Name, Dead, Values}
use Rattle.adr_values.specs.Table.{Table, class_at, must_of, kind_at, is_forward}
use Rattle.adr_values.specs.Numbered.{numbered}
use Rattle.adr_values.specs.Names.{name_fault}
use Rattle.adr_values.specs.Rules.{row_refusal}
use Rattle.adr_values.specs.Vector.{Cursors, at, at_most, cursor_limit}
use Rattle.adr_model.specs.Update.{Key, RowOf, LinkOf, Said, Holds, IsPresent, Update, class_attr, name_attr, deleted_attr}
use Rattle.adr_model.specs.Live.{objects_of}
use Rattle.adr_model.specs.Visible.{covers_update, covers_birth}
use Rattle.adr_model.specs.Store.{Held, State, updates_of, row_held, is_row_of, holds_object}
use Rattle.adr_model.specs.Change.{Item, Written, Change, held_of, rows_after, after}
use Rattle.adr_model.specs.Serve.{is_quarantined}
use Rattle.adr_model.specs.Write.{object_limit, link_limit, links_in}
use Rattle.adr_model.specs.Take.{is_above, is_of_attr, is_reserved_row, lacks, is_lost_end, Presence, IsDead, IsHeld, IsGone, IsNew, presence_of, is_birth, class_said, mark_limit}
use Rattle.adr_law_calls.specs.Follow.{after_write}

-- ---- one write at its turn

-- an object that is written to is dead and only dies, or stands, or is new and comes whole
abbrev pub may_write_object : Table → List Update → Presence → Bool
may_write_object table us IsDead = list_all (λ u. is_of_attr deleted_attr u.key) us
may_write_object table us IsHeld = true
may_write_object table us IsGone = false
may_write_object table us IsNew = not (lacks table us)

abbrev pub may_write_unit : Table → Cursors → List Held → Named → List Update → Bool
may_write_unit table vector rows (Object o) us = may_write_object table us (presence_of vector rows o)
may_write_unit table vector rows (Link l) us =
    not (is_lost_end vector rows l.from || is_lost_end vector rows l.to)

abbrev pub may_follow : Table → Cursors → List Held → Item → Bool
may_follow table vector rows item =
    list_all (is_above rows) item.rows && may_write_unit table vector rows item.unit item.rows

abbrev pub are_within_limits : List Held → Bool
are_within_limits rows =
    nat_le (length (objects_of (updates_of rows))) object_limit && nat_le (links_in rows) link_limit

abbrev pub may_follow_in_turn : Table → Cursors → List Held → List Written → Bool
may_follow_in_turn table vector rows [] = true
may_follow_in_turn table vector rows (w ∷ ws) =
    may_follow table vector rows w.item && are_within_limits (after_write rows w)
    && may_follow_in_turn table vector (after_write rows w) ws

-- ---- removed objects

abbrev pub is_removable : List Held → Cursors → Oid → Bool
is_removable rows purged o =
    option_map_or (λ h. covers_birth purged o && covers_update purged h.update)
    (row_held rows (RowOf o deleted_attr)) false

-- all of these objects may go
abbrev pub are_removable : List Held → Cursors → List Oid → Bool
are_removable rows purged os = list_all (is_removable rows purged) os

-- ---- a touched unit behind the change

-- whether a class is said, and the table has it
abbrev pub is_class_known : Table → Option ℕ → Bool
is_class_known table None = false
is_class_known table (Some c) = is_some (class_at table c)

abbrev pub says_allowed_name : Said → Bool
says_allowed_name (Holds (Name text parent)) = is_none (name_fault text)
says_allowed_name (Holds (Class class)) = false
says_allowed_name (Holds Dead) = false
says_allowed_name (Holds (Values vs)) = false
says_allowed_name (IsPresent b) = false

abbrev pub says_dead : Said → Bool
says_dead (Holds Dead) = true
says_dead (Holds (Class class)) = false
says_dead (Holds (Name text parent)) = false
says_dead (Holds (Values vs)) = false
says_dead (IsPresent b) = false

-- whether a live object of a class may have the row
abbrev pub fits_class : Table → ℕ → Update → Bool
fits_class table class u = by u.key u.said
  where
    by : Key → Said → Bool
    by (RowOf p attr) (Holds (Values vs)) = is_none (row_refusal table (Some class) attr vs)
    by (RowOf p attr) (Holds (Class c)) = attr == class_attr
    by (RowOf p attr) (Holds (Name text parent)) = attr == name_attr
    by (RowOf p attr) (Holds Dead) = false
    by (RowOf p attr) (IsPresent b) = false
    by (LinkOf l) said = false

-- whether all rows of an object pass
abbrev pub all_of_object : List Held → Oid → (Update → Bool) → Bool
all_of_object rows o test = list_all (λ (h : Held). not (is_row_of o h.update.key) || test h.update) rows

-- whether a live object's rows are those of its class, with each that it must have
abbrev pub is_alive_formed : Table → List Held → Oid → Option ℕ → Bool
is_alive_formed table rows o None = false
is_alive_formed table rows o (Some c) =
    is_some (class_at table c)
    && (all_of_object rows o (fits_class table c)
    && list_all (λ attr. is_some (row_held rows (RowOf o attr))) (must_of table c))

-- by the class row, the name row and the deleted row
abbrev pub is_formed_by : Table → List Held → Oid → Option Held → Option Held → Option Held → Bool
is_formed_by table rows o None n d = false
is_formed_by table rows o (Some b) None d = false
is_formed_by table rows o (Some b) (Some n) None =
    is_birth o b.update
    && (says_allowed_name n.update.said && is_alive_formed table rows o (class_said b.update.said))
is_formed_by table rows o (Some b) (Some n) (Some d) =
    is_birth o b.update
    && (is_class_known table (class_said b.update.said)
    && (says_allowed_name n.update.said
    && (says_dead d.update.said && all_of_object rows o (λ u. is_reserved_row u.key))))

abbrev pub is_object_formed : Table → List Held → Oid → Bool
is_object_formed table rows o =
    is_formed_by table rows o (row_held rows (RowOf o class_attr)) (row_held rows (RowOf o name_attr))
    (row_held rows (RowOf o deleted_attr))

-- an object that isn't held, or is formed; a link that doesn't stand, or is a forward one
abbrev pub is_touched_formed : Table → List Held → Named → Bool
is_touched_formed table rows (Object o) = not (holds_object rows o) || is_object_formed table rows o
is_touched_formed table rows (Link l) =
    is_none (row_held rows (LinkOf l)) || is_forward (kind_at table l.attr)

-- each unit that is written to passes so
abbrev pub are_touched_formed : Table → List Held → List Written → Bool
are_touched_formed table rows ws = list_all (λ (w : Written). is_touched_formed table rows w.item.unit) ws

-- ---- the whole

-- the state is up, and the change at its USN or above it
abbrev pub comes_after : State → Change → Bool
comes_after s c = not (is_quarantined s.mode) && nat_le s.store.usn c.usn

-- the vectors of the change fit the state, and there are few enough cursors and marks behind it
abbrev pub are_in_order : State → Change → Bool
are_in_order s c =
    let left = (after s c).store in
    nat_le (at c.joined s.inv) c.usn
    && at_most c.purged left.vector
    && nat_le (length left.vector) cursor_limit
    && nat_le (length left.marks) mark_limit

-- each write may follow, what is removed may go behind the writes, and what was touched is formed behind it all
abbrev pub writes_pass : State → Change → Bool
writes_pass s c =
    let table = numbered s.store.schema in
    let written = rows_after [] (held_of c.writes) s.store.rows in
    let left = (after s c).store in
    may_follow_in_turn table s.store.vector s.store.rows c.writes
    && are_removable written left.purged c.removed
    && are_touched_formed (numbered c.schema) left.rows c.writes

abbrev pub is_empty : {A : Type 0} → List A → Bool
is_empty [] = true
is_empty (x ∷ xs) = false

-- whether a change is that of an upgrade
abbrev pub is_upgraded : State → Change → Bool
is_upgraded s c =
    (c.usn == s.store.usn) && not (is_quarantined c.mode) && (c.schema == 2) && is_none c.mark
    && (is_empty c.joined && is_empty c.times && is_empty c.purged && is_empty c.removed && is_empty c.writes)

-- whether a change can follow a state
abbrev pub can_follow : State → Change → Bool
can_follow s c = comes_after s c && ((c.schema == s.store.schema) || is_upgraded s c) && are_in_order s c && writes_pass s c
