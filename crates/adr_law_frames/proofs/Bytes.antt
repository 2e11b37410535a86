-- An item that a store in range can send has no more bytes than are counted of it.
use Rattle.std.proofs.Common.{◌≡◌, inl, inr, ℕ, ◌+◌, ◌≤◌, List, [], ◌∷◌, ◌++◌, length, refl, sym, ap, ◌∙◌, subst, map, arith}
use Rattle.std.specs.List.{flat_map}
use Rattle.std.proofs.lemmas.Cmp.{tied_itself}
use Rattle.std.proofs.lemmas.List.{length-append}
use Rattle.adr_values.specs.declared.stamp.LinkKey.{LinkKey}
use Rattle.adr_values.specs.declared.stamp.LinkStamp.{LinkStamp}
use Rattle.adr_values.specs.declared.stamp.Oid.{Oid}
use Rattle.adr_values.specs.declared.stamp.Stamp.{Stamp}
use Rattle.adr_values.specs.declared.stamp.Unit.{Unit as Named}
use Rattle.adr_values.specs.declared.stamp.Unit.TheVariants.{Object, Link}
use Rattle.adr_wire.specs.Composites.{content, link_key, link_stamp, oid, stamp}
use Rattle.adr_wire.specs.Fields.{flag, u16, u32, u64}
use Rattle.adr_wire.specs.Ranges.{IsOid, IsStamp}
use Rattle.adr_law_lengths.proofs.Lengths.{content_long}
use Rattle.adr_model.specs.Member.{Member, Each}
use Rattle.adr_model.specs.Update.{Key, RowOf, LinkOf, Said, Holds, IsPresent, Update, key_order, unit_of}
use Rattle.adr_model.specs.Store.{Held}
use Rattle.adr_model.specs.Change.{Item}
use Rattle.adr_model.specs.Serve.{content_length, item_length}
use Rattle.adr_model.proofs.Keys.{keys_total}
use Rattle.adr_law_knowledge.specs.Rises.{Rises}
use Rattle.adr_law_calls.proofs.Rows.{held_as, link_of_unit}
use Rattle.adr_image.specs.Changes.{unit_bytes, update_bytes}
use Rattle.adr_image.specs.Stored.{IsSpelledRow}
use Rattle.adr_image.specs.Written.{told}
use Rattle.adr_packet.specs.Parts.{item}
use Rattle.adr_law_frames.proofs.Offered.{IsOffered}
use Rattle.adr_law_frames.proofs.Rooms.{all_rows}

oid_long : (o : Oid) → IsOid o → length (oid o) ≡ 40
unfolding u64
oid_long o q = simp length-append (omega arith)

stamp_long : (s : Stamp) → IsStamp s → length (stamp s) ≡ 36
unfolding u32 u64
stamp_long s q = simp length-append (omega arith)

abbrev IsRight : Update → Type 0
IsRight u = IsSpelledRow u.key u.said u.stamp

-- ---- the rows of an object

module _ (o : Oid) where
  named : (p : Oid) → Object p ≡ Object o → p ≡ o
  named p e = cc

  name_right : (k : Key) (said : Said) (stamp : LinkStamp) → unit_of k ≡ Object o → IsSpelledRow k said stamp → IsOid o
  name_right (RowOf p attr) (Holds c) stamp unit q = subst IsOid (named p unit) q.0
  name_right (RowOf p attr) (IsPresent b) stamp unit q = absurd q
  name_right (LinkOf l) said stamp unit q = absurd (cc)

  row_long : (k : Key) (said : Said) (ls : LinkStamp) → unit_of k ≡ Object o → IsSpelledRow k said ls → length (told k ls said) ≡ 38 + content_length said
  unfolding u16
  row_long (RowOf p attr) (Holds c) ls unit q =
      omega (arith, length-append (stamp ls.stamp) (content c), stamp_long ls.stamp q.3, content_long attr c q.2)
  row_long (RowOf p attr) (IsPresent b) ls unit q = absurd q
  row_long (LinkOf l) said ls unit q = absurd (cc)

  rows_long : (n : ℕ) (us : List Update) → Each (λ u. unit_of u.key ≡ Object o) us → Each IsRight us
      → all_rows n us ≡ n + length (flat_map update_bytes us)
  rows_long n [] of_it right = omega arith
  rows_long n (u ∷ us) of_it right =
      let rest = rows_long (n + 38 + content_length u.said) us (λ v m. of_it v (inr m)) (λ v m. right v (inr m)) in
      let here = row_long u.key u.said u.stamp (of_it u (inl refl)) (right u (inl refl)) in
      omega (arith, length-append (update_bytes u) (flat_map update_bytes us))

  object_long : (us : List Update) → (u : Update) × Member u us → Each (λ u. unit_of u.key ≡ Object o) us → Each IsRight us
      → length (unit_bytes (Object o) us) ≡ 43 + all_rows 0 us
  unfolding u16
  object_long us some of_it right =
      let u = some.0 in
      let name = name_right u.key u.said u.stamp (of_it u some.1) (right u some.1) in
      omega (arith, length-append (oid o) (u16 (length us) ++ flat_map update_bytes us), oid_long o name, rows_long 0 us of_it right)

-- ---- a link

link_key_long : (k : LinkKey) → IsOid k.from → IsOid k.to → length (link_key k) ≡ 82
unfolding u16
link_key_long k from to = omega (arith, length-append (oid k.from) (u16 k.attr ++ oid k.to), oid_long k.from from, oid_long k.to to)

link_stamp_long : (s : LinkStamp) → IsStamp s.stamp → length (link_stamp s) ≡ 44
unfolding u64
link_stamp_long s q = omega (arith, stamp_long s.stamp q)

module _ (l : LinkKey) where
  link_row_long : (k : Key) (said : Said) (ls : LinkStamp) → unit_of k ≡ Link l → IsSpelledRow k said ls → length (told k ls said) ≡ 127
  link_row_long (RowOf p attr) said ls unit q = absurd (cc)
  link_row_long (LinkOf j) (Holds c) ls unit q = absurd q
  link_row_long (LinkOf j) (IsPresent b) ls unit q =
      omega (
        arith,
        link_key_long j q.0 q.2,
        link_stamp_long ls q.4,
        length-append (link_key j) (link_stamp ls ++ flag b),
        length-append (link_stamp ls) (flag b),
      )

  -- two rows would have one key
  link_long : (us : List Update) → Each (λ u. unit_of u.key ≡ Link l) us → Each IsRight us → Rises key_order (map (λ (u : Update). u.key) us)
      → length (unit_bytes (Link l) us) ≤ 128
  link_long [] of_it right rise = omega arith
  link_long (u ∷ []) of_it right rise =
      omega (arith, length-append (update_bytes u) [], link_row_long u.key u.said u.stamp (of_it u (inl refl)) (right u (inl refl)))
  link_long (u ∷ v ∷ us) of_it right rise =
      let less = rise.0 v.key (inl refl) in
      let same : v.key ≡ u.key = link_of_unit v.key l (of_it v (inr (inl refl))) ∙ sym (link_of_unit u.key l (of_it u (inl refl))) in
      let tie = ap (key_order u.key) same ∙ tied_itself keys_total u.key in
      absurd (cc)

-- ---- items

pub item_is_no_longer : (rows : List Held) → Each (λ (h : Held). IsRight h.update) rows → (i : Item) → IsOffered rows i → length (item i) ≤ item_length i
item_is_no_longer rows spelled i q = by i.unit q.of_unit
  where
    right : Each IsRight i.rows
    right u m = let h = held_as rows u (q.held u m) in subst IsRight (sym h.2) (spelled h.0 h.1)

    by : (unit : Named) → Each (λ u. unit_of u.key ≡ unit) i.rows → length (unit_bytes unit i.rows) ≤ item_length (record { unit = unit; rows = i.rows })
    by (Object o) of_unit = let long = object_long o i.rows q.some of_unit right in omega arith
    by (Link l) of_unit = let long = link_long l i.rows of_unit right q.rising in omega arith
