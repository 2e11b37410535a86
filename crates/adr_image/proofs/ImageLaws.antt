-- Each part of an image is spelled in one way.
use Rattle.std.proofs.Common.{◌≡◌, ℕ, ◌≤◌, Bool, true, leb, arith, List, ◌++◌, length, Option, Ok, refl, sym, append_assoc}
use Rattle.std.specs.Prelude.{not, ◌&&◌}
use Rattle.std.specs.List.{flat_map}
use Rattle.std.specs.Ordering.{nat_cmp}
use Rattle.std.proofs.lemmas.Bool.{leb-true, le-leb}
use Rattle.adr_values.specs.declared.stamp.Oid.{Oid}
use Rattle.adr_values.specs.declared.stamp.LinkKey.{LinkKey}
use Rattle.adr_values.specs.declared.stamp.LinkStamp.{LinkStamp}
use Rattle.adr_values.specs.declared.mark.Mark.{Mark}
use Rattle.adr_values.specs.Order.{identifier_order, object_order, link_order}
use Rattle.adr_values.specs.Table.{Table, has}
use Rattle.adr_model.specs.Update.{Identifier}
use Rattle.adr_model.specs.Store.{PartnerMark}
use Rattle.adr_model.specs.Live.{is_among}
use Rattle.adr_wire.specs.Reading.{Rest, Reading, ◌>>=◌, as_at, where_at, then_at, is_above, passing_at, gathered_at}
use Rattle.adr_wire.specs.Fields.{u16_at, id_at, flag_at, usn_at, u16, u64, id, flag}
use Rattle.adr_wire.specs.Composites.{ordered_mark_at, mark, oid_at, oid, row_of, row_after, row, link_stamp_at, link_stamp, link_key}
use Rattle.adr_wire.specs.Spelling.{IsSpelling}
use Rattle.adr_wire.specs.Ranges.{IsU16, IsU64, IsId, IsUsn, IsFlag, IsOrderedMark, IsOid, IsStamp, IsRowAbove}
use Rattle.adr_wire.proofs.Combining.{bind_ok, made, in_range_too, passed, both, pair, followed, passed_at, placed, counted_too}
use Rattle.adr_wire.proofs.FieldLaws.{u16_spelled, id_spelled, flag_spelled, usn_spelled}
use Rattle.adr_wire.proofs.CompositeLaws.{ordered_mark_spelled, oid_spelled, IsBehind, behind_attr, row_of_spelled, link_stamp_spelled}
use Rattle.adr_image.specs.declared.rows.Before.{Before}
use Rattle.adr_model.specs.Write.{usn_limit}
use Rattle.adr_wire.specs.Gathering.{GivesToo}
use Rattle.adr_image.specs.Image.{HeldRow, Rows, HeldLink, local_at, no_rows, with_held, is_allowed, held_row_at, held_row, Earlier, is_whole, object_with, object_at, object, Linked, key_with, local_and_key, link_behind, link_at, held_link, Marked, kept_above, kept}
use Rattle.adr_image.specs.Ranged.{IsLocal, IsHeldRow, AreHeldRows, IsObjectIn, IsKeyIn, IsForward, IsLinkIn, IsMarked}
use Rattle.adr_wire.proofs.Gathering.{looked, gives_same, gives_tested, gives_passed, gives_as, gives_then, gives_all}

pub local_spelled : (usn : ℕ) → IsSpelling (IsLocal usn) u64 (local_at usn)
unfolding local_at
local_spelled usn = passed IsUsn u64 usn_at usn_spelled (λ n. leb n usn)

local_gives : (usn : ℕ) → usn ≤ usn_limit → GivesToo (local_at usn) (local_at usn_limit)
unfolding local_at
local_gives usn fits = gives_tested (λ n. leb n usn) (λ n. leb n usn_limit) usn_at usn_at (λ n e. le-leb n usn_limit (let le = leb-true n usn e in omega arith)) (gives_same usn_at)

-- ---- rows

row_after_spelled : (place : ℕ) (last : Option ℕ) → IsSpelling (IsRowAbove last) row (row_after place last)
unfolding row_after
row_after_spelled place last =
    in_range_too (λ r. (IsU16 r.0 × (is_above nat_cmp last r.0 ≡ true)) × IsBehind r) row (row_after place last)
    (followed (λ k. IsU16 k × (is_above nat_cmp last k ≡ true)) u16 (passing_at place (is_above nat_cmp last) u16_at) (passed_at IsU16 u16 u16_at u16_spelled place (is_above nat_cmp last)) (λ r. r.0) IsBehind behind_attr (λ _. row_of) (λ at k h. row_of_spelled k))
    (IsRowAbove last) (λ r h. ((h.0.0, h.1), h.0.1)) (λ r h. ((h.0.0, h.1), h.0.1))

module _ (usn owner : ℕ) (table : Table) (o : Oid) where
  held_row_spelled : (b : Before) → IsSpelling (IsHeldRow usn table o b) held_row (held_row_at (local_at usn) owner table o b)
  unfolding held_row_at
  held_row_spelled b =
      placed (IsHeldRow usn table o b) held_row (λ place. passing_at owner (λ (h : HeldRow). is_allowed table o b h.1) (then_at (local_at usn) (λ _. row_after place b.attr)))
      (λ place. passed_at (λ (h : HeldRow). IsLocal usn h.0 × IsRowAbove b.attr h.1) held_row (then_at (local_at usn) (λ _. row_after place b.attr))
      (pair (IsLocal usn) u64 (local_at usn) (local_spelled usn) (IsRowAbove b.attr) row (row_after place b.attr) (row_after_spelled place b.attr))
      owner (λ (h : HeldRow). is_allowed table o b h.1))

  held_row_gives : usn ≤ usn_limit → (b : Before) → GivesToo (held_row_at (local_at usn) owner table o b) (held_row_at (local_at usn_limit) owner table o b)
  unfolding held_row_at
  held_row_gives fits b rest y e =
      gives_passed owner (λ (h : HeldRow). is_allowed table o b h.1) (then_at (local_at usn) (λ _. row_after rest.place b.attr)) (then_at (local_at usn_limit) (λ _. row_after rest.place b.attr))
      (gives_then (local_at usn) (local_at usn_limit) (λ _. row_after rest.place b.attr) (λ _. row_after rest.place b.attr) (local_gives usn fits) (λ _. gives_same (row_after rest.place b.attr)))
      rest y e

-- ---- objects

abbrev rows_with : Reading ℕ → ℕ → Table → Oid → ℕ → Reading (List HeldRow)
rows_with number owner table o count = gathered_at with_held (held_row_at number owner table o) count no_rows

abbrev counted_rows : Reading ℕ → ℕ → Table → Oid → Reading (List HeldRow)
counted_rows number owner table o = as_at (λ (p : ℕ × List HeldRow). p.1) (then_at u16_at (rows_with number owner table o))

abbrev rows_spelled_so : List HeldRow → List ℕ
rows_spelled_so rows = u16 (length rows) ++ flat_map held_row rows

module _ (usn : ℕ) (table : Table) (e : Earlier) where
  abbrev named_at : Reading Oid
  named_at = where_at (is_above object_order e.last) oid_at

  object_with_spelled : IsSpelling (IsObjectIn usn table e) object (object_with (local_at usn) table e)
  unfolding object_with
  object_with_spelled =
      placed (IsObjectIn usn table e) object (λ place. passing_at place (λ (o : Rows). is_whole table e.used o.1) (then_at named_at (counted_rows (local_at usn) place table)))
      (λ place. passed_at (λ (o : Rows). (IsOid o.0 × (is_above object_order e.last o.0 ≡ true)) × AreHeldRows usn table o.0 o.1) object (then_at named_at (counted_rows (local_at usn) place table))
      (both (λ o. IsOid o × (is_above object_order e.last o ≡ true)) oid named_at (passed IsOid oid oid_at oid_spelled (is_above object_order e.last))
      (AreHeldRows usn table) (λ _. rows_spelled_so) (counted_rows (local_at usn) place table)
      (λ o h. counted_too with_held (IsHeldRow usn table o) held_row (held_row_at (local_at usn) place table o) (held_row_spelled usn place table o) IsU16 u16 u16_at u16_spelled no_rows))
      place (λ (o : Rows). is_whole table e.used o.1))

  pub object_gives : usn ≤ usn_limit → GivesToo (object_with (local_at usn) table e) (object_with (local_at usn_limit) table e)
  unfolding object_with
  object_gives fits rest y h =
      gives_passed rest.place (λ (o : Rows). is_whole table e.used o.1) (then_at named_at (counted_rows (local_at usn) rest.place table)) (then_at named_at (counted_rows (local_at usn_limit) rest.place table))
      (gives_then named_at named_at (counted_rows (local_at usn) rest.place table) (counted_rows (local_at usn_limit) rest.place table) (gives_same named_at)
      (λ o. gives_as (λ (p : ℕ × List HeldRow). p.1) (then_at u16_at (rows_with (local_at usn) rest.place table o)) (then_at u16_at (rows_with (local_at usn_limit) rest.place table o))
      (gives_then u16_at u16_at (rows_with (local_at usn) rest.place table o) (rows_with (local_at usn_limit) rest.place table o) (gives_same u16_at)
      (λ count. gives_all with_held (held_row_at (local_at usn) rest.place table o) (held_row_at (local_at usn_limit) rest.place table o) (held_row_gives usn rest.place table o fits) count no_rows))))
      rest y h

  pub object_in_spelled : usn ≤ usn_limit → IsSpelling (IsObjectIn usn table e) object (object_at usn table e)
  unfolding object_at
  object_in_spelled fits =
      looked (IsObjectIn usn table e) object (object_with (local_at usn_limit) table e) (object_with (local_at usn) table e) object_with_spelled
      (λ rest y h. (y, object_gives fits rest y h))

-- ---- links

module _ (dead : List Oid) where
  abbrev is_alive : Oid → Bool
  is_alive o = not (is_among dead o)

  abbrev passes_key : Option LinkKey → LinkKey → Bool
  passes_key last k = is_above link_order last k && not (is_among dead k.to)

  abbrev IsKey : (ℕ → Bool) → LinkKey → Type 0
  IsKey forward k = (IsOid k.from × (is_alive k.from ≡ true)) × ((IsU16 k.attr × (forward k.attr ≡ true)) × IsOid k.to)

  abbrev Three : Type 0
  Three = Oid × (ℕ × Oid)

  abbrev IsThree : (ℕ → Bool) → Three → Type 0
  IsThree forward p = (IsOid p.0 × (is_alive p.0 ≡ true)) × ((IsU16 p.1.0 × (forward p.1.0 ≡ true)) × IsOid p.1.1)

  abbrev three : Three → List ℕ
  three p = oid p.0 ++ (u16 p.1.0 ++ oid p.1.1)

  abbrev key_of : Three → LinkKey
  key_of p = record { from = p.0; attr = p.1.0; to = p.1.1 }

  abbrev attr_and_to : (ℕ → Bool) → Reading (ℕ × Oid)
  attr_and_to forward = then_at (where_at forward u16_at) (λ _. oid_at)

  abbrev three_at : (ℕ → Bool) → ℕ → Reading Three
  three_at forward owner = then_at (passing_at owner is_alive oid_at) (λ _. attr_and_to forward)

  key_spelled : (forward : ℕ → Bool) (owner : ℕ) (last : Option LinkKey) → IsSpelling (IsKeyIn forward dead last) link_key (key_with forward owner dead last)
  unfolding key_with
  key_spelled forward owner last =
      passed_at (IsKey forward) link_key (as_at key_of (three_at forward owner))
      (made (IsThree forward) three (three_at forward owner)
      (pair (λ o. IsOid o × (is_alive o ≡ true)) oid (passing_at owner is_alive oid_at) (passed_at IsOid oid oid_at oid_spelled owner is_alive)
      (λ p. (IsU16 p.0 × (forward p.0 ≡ true)) × IsOid p.1) (λ p. u16 p.0 ++ oid p.1) (attr_and_to forward)
      (pair (λ n. IsU16 n × (forward n ≡ true)) u16 (where_at forward u16_at) (passed IsU16 u16 u16_at u16_spelled forward) IsOid oid oid_at oid_spelled))
      key_of (IsKey forward) link_key
      (λ k q. ((k.from, (k.attr, k.to)), refl, q, refl)) (λ p q fits. (q, refl)))
      owner (passes_key last)

  key_gives : (forward : ℕ → Bool) (owner : ℕ) (last : Option LinkKey) → GivesToo (key_with forward owner dead last) (key_with (λ _. true) owner dead last)
  unfolding key_with
  key_gives forward owner last =
      gives_passed owner (passes_key last) (as_at key_of (three_at forward owner)) (as_at key_of (three_at (λ _. true) owner))
      (gives_as key_of (three_at forward owner) (three_at (λ _. true) owner)
      (gives_then (passing_at owner is_alive oid_at) (passing_at owner is_alive oid_at) (λ _. attr_and_to forward) (λ _. attr_and_to (λ _. true)) (gives_same (passing_at owner is_alive oid_at))
      (λ _. gives_then (where_at forward u16_at) (where_at (λ _. true) u16_at) (λ _. oid_at) (λ _. oid_at) (gives_tested forward (λ _. true) u16_at u16_at (λ _ _. refl) (gives_same u16_at)) (λ _. gives_same oid_at))))

  module _ (usn : ℕ) (k : Linked) where
    abbrev is_unused : ℕ → Bool
    is_unused n = not (has k.used n)

    abbrev unused_at : Reading ℕ
    unused_at = where_at is_unused (local_at usn)

    abbrev IsBegun : (ℕ → Bool) → ℕ × LinkKey → Type 0
    IsBegun forward p = (IsLocal usn p.0 × (is_unused p.0 ≡ true)) × IsKeyIn forward dead k.last p.1

    abbrev begun : ℕ × LinkKey → List ℕ
    begun p = u64 p.0 ++ link_key p.1

    begun_spelled : (forward : ℕ → Bool) → IsSpelling (IsBegun forward) begun (local_and_key forward usn dead k)
    unfolding local_and_key
    begun_spelled forward =
        placed (IsBegun forward) begun (λ place. then_at unused_at (λ _. key_with forward place dead k.last))
        (λ place. pair (λ n. IsLocal usn n × (is_unused n ≡ true)) u64 unused_at (passed (IsLocal usn) u64 (local_at usn) (local_spelled usn) is_unused) (IsKeyIn forward dead k.last) link_key (key_with forward place dead k.last) (key_spelled forward place k.last))

    begun_gives : (forward : ℕ → Bool) → GivesToo (local_and_key forward usn dead k) (local_and_key (λ _. true) usn dead k)
    unfolding local_and_key
    begun_gives forward rest y e =
        gives_then unused_at unused_at (λ _. key_with forward rest.place dead k.last) (λ _. key_with (λ _. true) rest.place dead k.last) (gives_same unused_at) (λ _. key_gives forward rest.place k.last) rest y e

    abbrev Behind : Type 0
    Behind = (ℕ × LinkKey) × (LinkStamp × Bool)

    abbrev held_of : Behind → HeldLink
    held_of p = (p.0.0, (p.0.1, p.1.0, p.1.1))

    abbrev IsTold : LinkStamp × Bool → Type 0
    IsTold p = (IsU64 p.0.created × IsStamp p.0.stamp) × IsFlag p.1

    abbrev told : LinkStamp × Bool → List ℕ
    told p = link_stamp p.0 ++ flag p.1

    abbrev told_at : Reading (LinkStamp × Bool)
    told_at = then_at link_stamp_at (λ _. flag_at)

    link_behind_spelled : (table : Table) → IsSpelling (IsLinkIn usn table dead k) held_link (link_behind table usn dead k)
    unfolding link_behind
    link_behind_spelled table =
        made (λ (p : Behind). IsBegun (IsForward table) p.0 × IsTold p.1) (λ (p : Behind). begun p.0 ++ told p.1) (then_at (local_and_key (IsForward table) usn dead k) (λ _. told_at))
        (pair (IsBegun (IsForward table)) begun (local_and_key (IsForward table) usn dead k) (begun_spelled (IsForward table)) IsTold told told_at
        (pair (λ s. IsU64 s.created × IsStamp s.stamp) link_stamp link_stamp_at link_stamp_spelled IsFlag flag flag_at flag_spelled))
        held_of (IsLinkIn usn table dead k) held_link
        (λ l q. (((l.0, l.1.0), (l.1.1, l.1.2)), refl, (q.0, (q.1, tt)), sym (append_assoc (u64 l.0) (link_key l.1.0) (told (l.1.1, l.1.2)))))
        (λ p q fits. ((q.0, q.1.0), sym (append_assoc (u64 p.0.0) (link_key p.0.1) (told p.1))))

    pub seen_too : (table : Table) (rest : Rest) (y : HeldLink × Rest) → link_behind table usn dead k rest ≡ Ok y → (z : (ℕ × LinkKey) × Rest) × (local_and_key (λ _. true) usn dead k rest ≡ Ok z)
    unfolding link_behind
    seen_too table rest y e =
        let whole = bind_ok (then_at (local_and_key (IsForward table) usn dead k) (λ _. told_at) rest) (λ x. Ok (held_of x.0, x.1)) y e in
        let first = bind_ok (local_and_key (IsForward table) usn dead k rest) (λ x. told_at x.1 >>= λ z. Ok ((x.0, z.0), z.1)) whole.0 whole.1 in
        (first.0, begun_gives (IsForward table) rest first.0 first.1)

    pub link_in_spelled : (table : Table) → IsSpelling (IsLinkIn usn table dead k) held_link (link_at usn table dead k)
    unfolding link_at
    link_in_spelled table = looked (IsLinkIn usn table dead k) held_link (local_and_key (λ _. true) usn dead k) (link_behind table usn dead k) (link_behind_spelled table) (seen_too table)

-- ---- marks

abbrev IsKept : PartnerMark → Type 0
IsKept k = IsId k.inv × IsOrderedMark k.mark

abbrev kept_behind : Marked → List ℕ
kept_behind k = id k.1.inv ++ mark k.1.mark

kept_of_spelled : (dsa : Identifier) → IsSpelling {X = Marked} (λ k. IsKept k.1 × (k.0 ≡ dsa)) kept_behind (as_at (λ p. (dsa, record { inv = p.0; mark = p.1 })) (then_at id_at (λ _. ordered_mark_at)))
kept_of_spelled dsa =
    made (λ (p : List ℕ × Mark). IsId p.0 × IsOrderedMark p.1) (λ p. id p.0 ++ mark p.1) (then_at id_at (λ _. ordered_mark_at))
    (pair IsId id id_at id_spelled IsOrderedMark mark ordered_mark_at ordered_mark_spelled)
    (λ p. (dsa, record { inv = p.0; mark = p.1 })) (λ k. IsKept k.1 × (k.0 ≡ dsa)) kept_behind
    (λ k q. ((k.1.inv, k.1.mark), (λ i. (q.1 i, k.1)), q.0, refl)) (λ p q fits. ((q, refl), refl))

pub kept_spelled : (last : Option Identifier) → IsSpelling (IsMarked last) kept (kept_above last)
unfolding kept_above
kept_spelled last =
    followed (λ dsa. IsId dsa × (is_above identifier_order last dsa ≡ true)) id (where_at (is_above identifier_order last) id_at) (passed IsId id id_at id_spelled (is_above identifier_order last))
    (λ (k : Marked). k.0) (λ k. IsKept k.1) kept_behind
    (λ _ dsa. as_at (λ p. (dsa, record { inv = p.0; mark = p.1 })) (then_at id_at (λ _. ordered_mark_at))) (λ place dsa h. kept_of_spelled dsa)
