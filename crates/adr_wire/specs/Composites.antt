-- The composites: marks, names, stamps, values, contents, rows, and the lists of them.
use Rattle.std.specs.Prelude.{ℕ, ◌<◌, ◌^◌, List, [], ◌++◌, length, Bool, nat_le, ◌&&◌, if◌then◌else◌, ◌==◌, Option, None, Ok, Err, ⊤, All}
use Rattle.std.specs.List.{flat_map}
use Rattle.std.specs.Ordering.{nat_cmp}
use Rattle.adr_values.specs.declared.stamp.Oid.{Oid}
use Rattle.adr_values.specs.declared.stamp.Stamp.{Stamp}
use Rattle.adr_values.specs.declared.stamp.LinkStamp.{LinkStamp}
use Rattle.adr_values.specs.declared.stamp.LinkKey.{LinkKey}
use Rattle.adr_values.specs.Order.{identifier_order}
use Rattle.adr_values.specs.declared.content.Value.{Value as Item}
use Rattle.adr_values.specs.declared.content.Value.TheVariants.{Text, Number, Flag, Octets, Ref}
use Rattle.adr_values.specs.declared.content.Content.{Content}
use Rattle.adr_values.specs.declared.content.Content.TheVariants.{Class, Name, Dead, Values}
use Rattle.adr_values.specs.declared.mark.Mark.{Mark}
use Rattle.adr_values.specs.Vector.{Cursors, cursor_limit}
use Rattle.adr_wire.specs.Reading.{Reading, ◌>>=◌, as_at, passing_at, where_at, then_at, elements_at, is_above, above_at}
use Rattle.adr_wire.specs.Fields.{u8_at, u16_at, u32_at, u64_at, i64_at, id_at, flag_at, usn_at, usn0_at, version_at, text_at, octets_at, u8, u16, u32, u64, i64, id, flag, text, octets}

-- ---- marks, names and stamps

unfoldable pub mark_at : Reading Mark
mark_at = as_at (λ p. record { obj = p.0; prop = p.1.0; seen = p.1.1 }) (then_at usn0_at (λ _. then_at usn0_at (λ _. usn0_at)))

abbrev pub mark : Mark → List ℕ
mark m = u64 m.obj ++ (u64 m.prop ++ u64 m.seen)

-- a mark whose numbers are in order, else a fault at its first byte
abbrev pub is_ordered : Mark → Bool
is_ordered m = nat_le m.prop m.obj && nat_le m.obj m.seen

abbrev pub ordered_mark_at : Reading Mark
ordered_mark_at = where_at is_ordered mark_at

unfoldable pub oid_at : Reading Oid
oid_at = as_at (λ p. record { guid = p.0; birth = record { inv = p.1.0; usn = p.1.1 } }) (then_at id_at (λ _. then_at id_at (λ _. usn_at)))

abbrev pub oid : Oid → List ℕ
oid o = id o.guid ++ (id o.birth.inv ++ u64 o.birth.usn)

unfoldable pub stamp_at : Reading Stamp
stamp_at = as_at (λ p. record { version = p.0; time = p.1.0; inv = p.1.1.0; usn = p.1.1.1 }) (then_at version_at (λ _. then_at u64_at (λ _. then_at id_at (λ _. usn_at))))

abbrev pub stamp : Stamp → List ℕ
stamp s = u32 s.version ++ (u64 s.time ++ (id s.inv ++ u64 s.usn))

-- ---- values: a kind, and what it says is there

-- kinds: 1 text, 2 number, 3 flag, 4 octets, 5 identifier; any other is a fault at the kind
abbrev pub value_of : ℕ → ℕ → Reading Item
value_of place kind =
    if kind == 1 then as_at Text text_at
    else if kind == 2 then as_at Number i64_at
    else if kind == 3 then as_at Flag flag_at
    else if kind == 4 then as_at Octets octets_at
    else if kind == 5 then as_at Ref id_at
    else λ rest. Err place

unfoldable pub value_at : Reading Item
value_at rest = u8_at rest >>= λ kind. value_of rest.place kind.0 kind.1

abbrev pub kind_of : Item → ℕ
kind_of (Text t) = 1
kind_of (Number n) = 2
kind_of (Flag b) = 3
kind_of (Octets o) = 4
kind_of (Ref guid) = 5

-- what stands behind the kind
abbrev pub told : Item → List ℕ
told (Text t) = text t
told (Number n) = i64 n
told (Flag b) = flag b
told (Octets o) = octets o
told (Ref guid) = id guid

abbrev pub value : Item → List ℕ
value v = u8 (kind_of v) ++ told v

-- values come in any order, so all have one key
abbrev pub one_key : Item → Unit {0}
one_key v = tt

unfoldable pub values_at : ℕ → Reading (List Item)
values_at count = elements_at one_key (λ _. value_at) count None

-- ---- contents: what an attribute's number says is there

unfoldable pub content_at : ℕ → Reading Content
content_at attr =
    if attr == 1 then as_at Class u16_at
    else if attr == 2 then as_at (λ p. Name p.1 p.0) (then_at id_at (λ _. text_at))
    else if attr == 3 then (λ rest. Ok (Dead, rest))
    else as_at (λ p. Values p.1) (then_at u8_at values_at)

abbrev pub content : Content → List ℕ
content (Class class) = u16 class
content (Name t parent) = id parent ++ text t
content Dead = []
content (Values vs) = u8 (length vs) ++ flat_map value vs

-- what a length of two bytes, and a count of one, can say
abbrev pub IsShort : List ℕ → Type 0
IsShort bytes = length bytes < 2 ^ 16

abbrev pub IsShortValue : Item → Type 0
IsShortValue (Text t) = IsShort t
IsShortValue (Number n) = ⊤
IsShortValue (Flag b) = ⊤
IsShortValue (Octets o) = IsShort o
IsShortValue (Ref guid) = ⊤

abbrev pub IsShortContent : Content → Type 0
IsShortContent (Class class) = ⊤
IsShortContent (Name t parent) = IsShort t
IsShortContent Dead = ⊤
IsShortContent (Values vs) = (length vs < 256) × All IsShortValue vs

-- ---- rows, and lists of rows that rise by attribute

abbrev pub Row : Type 0
Row = ℕ × Stamp × Content

-- what stands behind a row's attribute
unfoldable pub row_of : ℕ → Reading Row
row_of attr = as_at (λ p. (attr, p.0, p.1)) (then_at stamp_at (λ _. content_at attr))

-- a row whose attribute is above the last one, else a fault at this place
unfoldable pub row_after : ℕ → Option ℕ → Reading Row
row_after place last rest = passing_at place (is_above nat_cmp last) u16_at rest >>= λ k. row_of k.0 k.1

unfoldable pub row_above : Option ℕ → Reading Row
row_above = above_at nat_cmp u16_at row_of

abbrev pub row_at : Reading Row
row_at = row_above None

abbrev pub row : Row → List ℕ
row r = u16 r.0 ++ (stamp r.1 ++ content r.2)

unfoldable pub rows_at : ℕ → Option ℕ → Reading (List Row)
rows_at = elements_at (λ r. r.0) row_above

-- ---- items: an object with its rows, and a link

unfoldable pub object_at : Reading (Oid × List Row)
object_at = then_at oid_at (λ _. as_at (λ p. p.1) (then_at (where_at (nat_le 1) u16_at) (λ count. rows_at count None)))

abbrev pub object : Oid × List Row → List ℕ
object o = oid o.0 ++ (u16 (length o.1) ++ flat_map row o.1)

unfoldable pub link_key_at : Reading LinkKey
link_key_at = as_at (λ p. record { from = p.0; attr = p.1.0; to = p.1.1 }) (then_at oid_at (λ _. then_at u16_at (λ _. oid_at)))

unfoldable pub link_stamp_at : Reading LinkStamp
link_stamp_at = as_at (λ p. record { created = p.0; stamp = p.1 }) (then_at u64_at (λ _. stamp_at))

abbrev pub LinkItem : Type 0
LinkItem = LinkKey × LinkStamp × Bool

unfoldable pub link_at : Reading LinkItem
link_at = as_at (λ p. (p.0, p.1.0, p.1.1)) (then_at link_key_at (λ _. then_at link_stamp_at (λ _. flag_at)))

abbrev pub link_key : LinkKey → List ℕ
link_key k = oid k.from ++ (u16 k.attr ++ oid k.to)

abbrev pub link_stamp : LinkStamp → List ℕ
link_stamp s = u64 s.created ++ stamp s.stamp

abbrev pub link : LinkItem → List ℕ
link l = link_key l.0 ++ (link_stamp l.1 ++ flag l.2)

-- ---- vectors: cursors that rise by identifier

unfoldable pub cursor_above : Option (List ℕ) → Reading (List ℕ × ℕ)
cursor_above = above_at identifier_order id_at (λ inv. as_at (λ usn. (inv, usn)) usn_at)

unfoldable pub cursors_at : ℕ → Option (List ℕ) → Reading Cursors
cursors_at = elements_at (λ c. c.0) cursor_above

unfoldable pub vector_at : Reading Cursors
vector_at = as_at (λ p. p.1) (then_at (where_at (λ count. nat_le count cursor_limit) u32_at) (λ count. cursors_at count None))

abbrev pub cursor : List ℕ × ℕ → List ℕ
cursor c = id c.0 ++ u64 c.1

abbrev pub vector : Cursors → List ℕ
vector cursors = u32 (length cursors) ++ flat_map cursor cursors
