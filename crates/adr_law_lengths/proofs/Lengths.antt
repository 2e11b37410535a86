-- How many bytes the formats write of each composite.
use Rattle.std.proofs.Common.{◌≡◌, ℕ, ◌+◌, ◌*◌, List, [], ◌∷◌, ◌++◌, length, map, fold, Option, Some, refl, arith}
use Rattle.std.specs.List.{flat_map, AllByRecursion}
use Rattle.std.proofs.lemmas.List.{length-append}
use Rattle.adr_values.specs.declared.stamp.Oid.{Oid}
use Rattle.adr_values.specs.declared.stamp.Stamp.{Stamp}
use Rattle.adr_values.specs.declared.stamp.LinkKey.{LinkKey}
use Rattle.adr_values.specs.declared.stamp.LinkStamp.{LinkStamp}
use Rattle.adr_values.specs.declared.content.Value.{Value}
use Rattle.adr_values.specs.declared.content.Value.TheVariants.{Text, Number, Flag, Octets, Ref}
use Rattle.adr_values.specs.declared.content.Content.{Content}
use Rattle.adr_values.specs.declared.content.Content.TheVariants.{Class, Name, Dead, Values}
use Rattle.adr_values.specs.Vector.{Cursors, at}
use Rattle.adr_values.specs.Dated.{with_moments}
use Rattle.adr_values.proofs.Dated.{as_many}
use Rattle.adr_wire.specs.Fields.{u16, u32, u64, i64, flag, octets, text}
use Rattle.adr_wire.specs.Composites.{oid, stamp, value, content, Row, row, link_key, link_stamp, LinkItem, cursor, vector}
use Rattle.adr_wire.specs.Ranges.{IsOid, IsStamp, IsValue, IsContent, IsRow, InTurn, IsRowAbove, IsObject, IsLink, IsCursor, IsCursors}
use Rattle.adr_wire.specs.Timed.{Timed, dated, timed, IsTimed}
use Rattle.adr_model.specs.Update.{Update, Holds}
use Rattle.adr_model.specs.Serve.{value_length, content_length, item_length, vector_length}
use Rattle.adr_model.specs.Lengths.{timed_length}
use Rattle.adr_law_lengths.specs.Written.{update_of, object_item, link_item, object_bytes, link_bytes}

-- ---- fields

text_long : (bytes : List ℕ) → length (text bytes) ≡ 2 + length bytes
unfolding text octets u16
text_long bytes = omega arith

octets_long : (bytes : List ℕ) → length (octets bytes) ≡ 2 + length bytes
unfolding octets u16
octets_long bytes = omega arith

pub oid_long : (o : Oid) → IsOid o → length (oid o) ≡ 40
unfolding u64
oid_long o q = simp length-append (omega arith)

pub stamp_long : (s : Stamp) → IsStamp s → length (stamp s) ≡ 36
unfolding u32 u64
stamp_long s q = simp length-append (omega arith)

-- ---- values and contents

pub value_long : (v : Value) → IsValue v → length (value v) ≡ value_length v
unfolding i64 u64
value_long (Text t) q = omega (arith, text_long t)
value_long (Number n) q = refl
value_long (Flag b) q = refl
value_long (Octets o) q = omega (arith, octets_long o)
value_long (Ref guid) q = omega arith

values_long : (n : ℕ) (vs : List Value) → AllByRecursion IsValue vs → fold (λ m v. m + value_length v) n vs ≡ n + length (flat_map value vs)
values_long n [] all = omega arith
values_long n (v ∷ vs) all =
    let rest = values_long (n + value_length v) vs all.1 in
    let here = value_long v all.0 in
    omega (arith, length-append (value v) (flat_map value vs))

pub content_long : (attr : ℕ) (c : Content) → IsContent attr c → length (content c) ≡ content_length (Holds c)
unfolding u16
content_long attr (Class class) q = refl
content_long attr (Name t parent) q = simp length-append (omega (arith, text_long t))
content_long attr Dead q = refl
content_long attr (Values vs) q = omega (arith, values_long 0 vs q.4)

-- ---- rows and objects

row_long : (r : Row) → IsRow r → length (row r) ≡ 38 + content_length (Holds r.2)
unfolding u16
row_long r q = omega (arith, length-append (stamp r.1) (content r.2), stamp_long r.1 q.1.0, content_long r.0 r.2 q.1.1)

rows_long : (o : Oid) (n : ℕ) (last : Option ℕ) (rows : List Row) → InTurn (λ r. r.0) IsRowAbove last rows
    → fold (λ m (u : Update). m + 38 + content_length u.said) n (map (update_of o) rows) ≡ n + length (flat_map row rows)
rows_long o n last [] rise = omega arith
rows_long o n last (r ∷ rows) rise =
    let rest = rows_long o (n + 38 + content_length (Holds r.2)) (Some r.0) rows rise.1 in
    let here = row_long r rise.0.0 in
    omega (arith, length-append (row r) (flat_map row rows))

pub object_long : (x : Oid × List Row) → IsObject x → length (object_bytes x) ≡ item_length (object_item x)
unfolding u16
object_long x q =
    let rows : List ℕ = flat_map row x.1 in
    omega (arith, length-append (oid x.0) (u16 (length x.1) ++ rows), oid_long x.0 q.0, rows_long x.0 0 _ x.1 q.1.1)

-- ---- links

pub link_key_long : (k : LinkKey) → IsOid k.from → IsOid k.to → length (link_key k) ≡ 82
unfolding u16
link_key_long k from to = omega (arith, length-append (oid k.from) (u16 k.attr ++ oid k.to), oid_long k.from from, oid_long k.to to)

pub link_stamp_long : (s : LinkStamp) → IsStamp s.stamp → length (link_stamp s) ≡ 44
unfolding u64
link_stamp_long s q = omega (arith, stamp_long s.stamp q)

pub link_long : (l : LinkItem) → IsLink l → length (link_bytes l) ≡ item_length (link_item l)
link_long l q =
    let front = link_key_long l.0 q.0.0 q.0.1.1 in
    let middle = link_stamp_long l.1 q.1.1 in
    omega (arith, length-append (link_key l.0) (link_stamp l.1 ++ flag l.2), length-append (link_stamp l.1) (flag l.2))

-- ---- vectors

cursor_long : (c : List ℕ × ℕ) → IsCursor c → length (cursor c) ≡ 24
unfolding u64
cursor_long c q = omega (arith, q.0, length-append c.0 (u64 c.1))

cursors_long : (v : Cursors) → AllByRecursion IsCursor v → length (flat_map cursor v) ≡ 24 * length v
cursors_long [] all = refl
cursors_long (c ∷ cs) all =
    let rest = cursors_long cs all.1 in
    let here = cursor_long c all.0 in
    omega (arith, length-append (cursor c) (flat_map cursor cs))

pub vector_long : (v : Cursors) → IsCursors v → length (vector v) ≡ vector_length v
unfolding u32
vector_long v q = omega (arith, cursors_long v q.1)

-- each with its moment, whatever that is
dated_long : (t v : Cursors) → AllByRecursion IsCursor v → length (flat_map dated (with_moments t v)) ≡ 32 * length v
unfolding u64
dated_long t [] all = refl
dated_long t (c ∷ cs) all =
    let rest = dated_long t cs all.1 in
    let here = all.0.0 in
    omega (arith, length-append c.0 (u64 c.1 ++ (u64 (at t c.0))), length-append (dated (c, at t c.0)) (flat_map dated (with_moments t cs)))

pub timed_long : (t : Timed) → IsTimed 2 t → length (timed 2 t) ≡ timed_length t.0
unfolding u32
timed_long t q = omega (arith, dated_long t.1 t.0 q.is.cursors.1, as_many t.1 t.0)
