-- The parts of an image as bytes: held rows, objects with their held rows, links and marks.
use Rattle.std.specs.Prelude.{if◌then◌else◌, ℕ, List, [], ◌∷◌, ◌++◌, length, Bool, true, false, not, ◌&&◌, ◌||◌, ◌==◌, nat_le, max, fold, Option, None, Some, is_none, is_some, unwrap_or}
use Rattle.std.specs.List.{flat_map, list_any, list_all}
use Rattle.adr_values.specs.declared.stamp.Oid.{Oid}
use Rattle.adr_values.specs.declared.stamp.LinkKey.{LinkKey}
use Rattle.adr_values.specs.Order.{identifier_order, object_order, link_order}
use Rattle.adr_values.specs.declared.content.Content.{Content}
use Rattle.adr_values.specs.declared.content.Content.TheVariants.{Class, Name, Dead, Values}
use Rattle.adr_values.specs.Table.{Table, class_at, must_of, has, kind_at, is_forward}
use Rattle.adr_values.specs.Names.{name_fault}
use Rattle.adr_values.specs.Rules.{row_refusal}
use Rattle.adr_wire.specs.Reading.{Reading, as_at, where_at, then_at, elements_at, is_above, above_at, passing_at, gathered_at}
use Rattle.adr_wire.specs.Fields.{u16_at, id_at, usn_at, flag_at, u16, u64, id}
use Rattle.adr_wire.specs.Composites.{oid_at, oid, Row, row_after, row, link_stamp_at, LinkItem, link, ordered_mark_at, mark}
use Rattle.adr_model.specs.Update.{Identifier}
use Rattle.adr_model.specs.Store.{PartnerMark}
use Rattle.adr_model.specs.Live.{is_among}
use Rattle.adr_model.specs.Take.{carries_birth}
use Rattle.adr_model.specs.Write.{usn_limit}
use Rattle.adr_image.specs.declared.rows.Before.{Before}
use Rattle.adr_wire.specs.Gathering.{sooner}

-- a local USN, and the row
abbrev pub HeldRow : Type 0
HeldRow = ℕ × Row

abbrev pub Rows : Type 0
Rows = Oid × List HeldRow

-- a local USN, and the link
abbrev pub HeldLink : Type 0
HeldLink = ℕ × LinkItem

-- ---- local USNs

-- at most the USN of the image
unfoldable pub local_at : ℕ → Reading ℕ
local_at usn = where_at (λ n. nat_le n usn) usn_at

-- ---- rows of an object

abbrev pub no_rows : Before
no_rows = record { attr = None; class = None; dead = false }

abbrev pub with_held : Before → HeldRow → Before
with_held b h = by h.1.2
  where
    by : Content → Before
    by (Class class) = record { attr = Some h.1.0; class = Some class; dead = b.dead }
    by (Name text parent) = record { attr = Some h.1.0; class = b.class; dead = b.dead }
    by Dead = record { attr = Some h.1.0; class = b.class; dead = true }
    by (Values vs) = record { attr = Some h.1.0; class = b.class; dead = b.dead }

-- whether a row is one that this object may have: its class row carries its birth, its name is allowed, and a value row is
-- allowed by the class and isn't one of a dead object
abbrev pub is_allowed : Table → Oid → Before → Row → Bool
is_allowed table o b r = by r.2
  where
    by : Content → Bool
    by (Class class) = is_some (class_at table class) && carries_birth o r.1
    by (Name text parent) = is_none (name_fault text)
    by Dead = true
    by (Values vs) = not b.dead && nat_le 1 r.0 && is_none (row_refusal table b.class r.0 vs)

-- a row of the object whose first byte is at `owner`; a row out of order is refused at its local USN
unfoldable pub held_row_at : Reading ℕ → ℕ → Table → Oid → Before → Reading HeldRow
held_row_at number owner table o b rest = passing_at owner (λ h. is_allowed table o b h.1) (then_at number (λ _. row_after rest.place b.attr)) rest

abbrev pub held_row : HeldRow → List ℕ
held_row h = u64 h.0 ++ row h.1

-- ---- objects

abbrev pub has_attr : ℕ → List HeldRow → Bool
has_attr attr rows = list_any (λ h. h.1.0 == attr) rows

abbrev pub last_of : List HeldRow → ℕ
last_of rows = fold (λ n (h : HeldRow). max n h.0) 0 rows

abbrev pub told_by : List HeldRow → Before
told_by rows = fold with_held no_rows rows

-- whether all rows are there: class and name, of a live object what its class must have; and whether its last local USN is its own
abbrev pub is_whole : Table → List ℕ → List HeldRow → Bool
is_whole table used rows =
    has_attr 1 rows && has_attr 2 rows
    && (if has_attr 3 rows then true else list_all (λ attr. has_attr attr rows) (must_of table (unwrap_or (told_by rows).class 0)))
    && not (has used (last_of rows))

-- what is known from the objects before: the last name, and the last local USNs
pub record Earlier : Type 0 where
  pub last : Option Oid
  pub used : List ℕ

abbrev pub no_objects : Earlier
no_objects = record { last = None; used = [] }

abbrev pub with_rows : Earlier → Rows → Earlier
with_rows e o = record { last = Some o.0; used = last_of o.1 ∷ e.used }

-- a name behind the last one
abbrev pub named_at : Option Oid → Reading Oid
named_at last = where_at (is_above object_order last) oid_at

-- an object, with so much room in its local USNs
unfoldable pub object_with : Reading ℕ → Table → Earlier → Reading Rows
object_with number table e rest =
    passing_at rest.place (λ o. is_whole table e.used o.1)
    (then_at (named_at e.last)
    (λ o. as_at (λ p. p.1) (then_at u16_at (λ count. gathered_at with_held (held_row_at number rest.place table o) count no_rows)))) rest

-- a local USN above the USN does not end the look at the rows
unfoldable pub object_at : ℕ → Table → Earlier → Reading Rows
object_at usn table e = sooner (object_with (local_at usn_limit) table e) (object_with (local_at usn) table e)

abbrev pub object : Rows → List ℕ
object o = oid o.0 ++ (u16 (length o.1) ++ flat_map held_row o.1)

-- ---- links

abbrev pub is_dead : Rows → Bool
is_dead o = has_attr 3 o.1

-- what is known from the links before, and from the objects
pub record Linked : Type 0 where
  pub last : Option LinkKey
  pub used : List ℕ

abbrev pub with_link : Linked → HeldLink → Linked
with_link k l = record { last = Some l.1.0; used = l.0 ∷ k.used }

-- whether a link may have this attribute: that of a forward link, or any
abbrev pub passes : Table → Bool → ℕ → Bool
passes table any attr = any || is_forward (kind_at table attr)

-- the key of the link whose first byte is at `owner`, where its attribute passes
unfoldable pub key_with : (ℕ → Bool) → ℕ → List Oid → Option LinkKey → Reading LinkKey
key_with forward owner dead last =
    passing_at owner (λ k. is_above link_order last k && not (is_among dead k.to))
    (as_at (λ p. record { from = p.0; attr = p.1.0; to = p.1.1 })
    (then_at (passing_at owner (λ o. not (is_among dead o)) oid_at) (λ _. then_at (where_at forward u16_at) (λ _. oid_at))))

unfoldable pub local_and_key : (ℕ → Bool) → ℕ → List Oid → Linked → Reading (ℕ × LinkKey)
local_and_key forward usn dead k rest = then_at (where_at (λ n. not (has k.used n)) (local_at usn)) (λ _. key_with forward rest.place dead k.last) rest

unfoldable pub link_behind : Table → ℕ → List Oid → Linked → Reading HeldLink
link_behind table usn dead k =
    as_at (λ p. (p.0.0, (p.0.1, p.1.0, p.1.1)))
    (then_at (local_and_key (λ attr. is_forward (kind_at table attr)) usn dead k) (λ _. then_at link_stamp_at (λ _. flag_at)))

-- an attribute that is no forward link's does not end the look at the key
unfoldable pub link_at : ℕ → Table → List Oid → Linked → Reading HeldLink
link_at usn table dead k = sooner (local_and_key (λ _. true) usn dead k) (link_behind table usn dead k)

abbrev pub held_link : HeldLink → List ℕ
held_link l = u64 l.0 ++ link l.1

-- ---- marks

abbrev pub Marked : Type 0
Marked = Identifier × PartnerMark

unfoldable pub kept_above : Option Identifier → Reading Marked
kept_above =
    above_at identifier_order id_at
    (λ dsa. as_at (λ p. (dsa, record { inv = p.0; mark = p.1 })) (then_at id_at (λ _. ordered_mark_at)))

unfoldable pub marks_of : ℕ → Reading (List Marked)
marks_of count = elements_at (λ k. k.0) kept_above count None

abbrev pub kept : Marked → List ℕ
kept k = id k.0 ++ (id k.1.inv ++ mark k.1.mark)
