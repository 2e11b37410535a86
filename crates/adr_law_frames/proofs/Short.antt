-- Each item that a formed store can send is short: an object has one row of an attribute at most, and each of them has room.
use Rattle.std.proofs.Common.{◌≡◌, ⊎_elim, inl, inr, ℕ, suc, ◌+◌, ◌<◌, ◌≤◌, List, [], ◌∷◌, length, Bool, true, false, nat_lt, ◌==◌, if◌then◌else◌, Some, None, refl, sym, ap, ◌∙◌, subst, map, arith}
use Rattle.std.specs.Ordering.{MatchOrdering, nat_cmp, ordering_then}
use Rattle.std.specs.declared.cmp.Ordering.{Ordering}
use Rattle.std.specs.declared.cmp.Ordering.TheVariants.{Less, Equal, Greater}
use Rattle.std.proofs.lemmas.Bool.{ltb-false}
use Rattle.std.proofs.lemmas.Cmp.{ranked, tied_itself}
use Rattle.adr_values.specs.declared.stamp.Oid.{Oid}
use Rattle.adr_values.specs.declared.stamp.Unit.{Unit as Named}
use Rattle.adr_values.specs.declared.stamp.Unit.TheVariants.{Object, Link}
use Rattle.adr_values.specs.contracts.stamp.OidOrd.TheImpl.Laws.{total-law as objects_total}
use Rattle.adr_values.specs.declared.content.Value.{Value as Datum}
use Rattle.adr_values.specs.declared.content.Content.TheVariants.{Class, Name, Dead, Values}
use Rattle.adr_values.specs.declared.table.Kind.TheVariants.{Plain}
use Rattle.adr_values.specs.Allowed.{IsAllowed}
use Rattle.adr_values.specs.Names.{is_wrong_byte, name_fault}
use Rattle.adr_values.specs.Numbered.{numbered}
use Rattle.adr_values.specs.Places.{first_place}
use Rattle.adr_values.proofs.Extending.{second_is_last}
use Rattle.adr_model.specs.Member.{Member, Each}
use Rattle.adr_model.specs.Update.{Identifier, Key, RowOf, Said, Holds, IsPresent, Update, deleted_attr, key_order, unit_of}
use Rattle.adr_model.specs.Store.{Store, updates_of}
use Rattle.adr_model.specs.Change.{Item}
use Rattle.adr_model.specs.Formed.{IsFormedStore}
use Rattle.adr_model.specs.Serve.{content_length, item_length}
use Rattle.adr_model.specs.Spelled.{IsSaidOfKey, SayOfTheirKeys}
use Rattle.adr_model.proofs.Keys.{keys_total}
use Rattle.adr_model.proofs.Members.{member_mapped}
use Rattle.adr_law_knowledge.specs.Rises.{Rises}
use Rattle.adr_law_knowledge.proofs.Counting.{one_of_each}
use Rattle.adr_law_calls.proofs.Rows.{row_of_unit}
use Rattle.adr_law_calls.proofs.Values.{place_of}
use Rattle.adr_law_frames.proofs.Offered.{IsOffered, keys_rise}
use Rattle.adr_law_frames.proofs.Rooms.{HaveRoom, all_rooms, attr_of, attribute_limit, class_room, death_room, kind_below, name_room, plain_room, room, rows_within, values_fit}

name_short : (text : List ℕ) → name_fault text ≡ None → length text ≤ 128
unfolding name_fault
name_short text e = by (length text == 0) (nat_lt 128 (length text)) refl e
  where
    by : (b d : Bool) → nat_lt 128 (length text) ≡ d
        → (if b then Some 0 else (if d then Some 128 else first_place (is_wrong_byte text) (length text))) ≡ None → length text ≤ 128
    by true d is h = absurd (cc)
    by false true is h = absurd (cc)
    by false false is h = ltb-false 128 (length text) is

module _ (s : Store) (formed : IsFormedStore s) (says : SayOfTheirKeys (updates_of s.rows)) (o : Oid) where
  abbrev all : List Update
  all = updates_of s.rows

  abbrev HasRoom : ℕ → Said → Type 0
  HasRoom attr said = (attr < attribute_limit) × (38 + content_length said ≤ room attr)

  -- ---- one row

  values_have_room : (class attr : ℕ) (vs : List Datum) → IsAllowed (numbered s.schema) class attr vs → HasRoom attr (Holds (Values vs))
  values_have_room class attr vs q =
      let kind = (second_is_last s.schema).kinds attr (Plain q.syntax q.most) q.plain in
      let sum = values_fit q.syntax q.most vs q.right.few (λ v m. let p = place_of vs v m in q.right.fit p.0 v p.1) in
      let most = plain_room attr q.syntax q.most kind in
      (kind_below attr (Plain q.syntax q.most) kind, omega arith)

  name_has_room : (u : Update) (text : List ℕ) (parent : Identifier) → Member u all → u.key ≡ RowOf o 2 → u.said ≡ Holds (Name text parent)
      → HasRoom 2 (Holds (Name text parent))
  name_has_room u text parent m is e =
      let n = formed.rows.named o (u, 2, m, is) in
      let r = n.of_name in
      let same = one_of_each key_order keys_total (λ (v : Update). v.key) all (keys_rise s.rows formed.rising) r.0 r.1 u m (r.2 ∙ sym is) in
      let told : Holds (Name n.text n.parent) ≡ Holds (Name text parent) = sym r.3 ∙ ap (λ (v : Update). v.said) same ∙ e in
      let text_is : n.text ≡ text = cc in
      let short = subst (λ (t : List ℕ). length t ≤ 128) text_is (name_short n.text n.well_named) in
      let most = name_room in
      (omega arith, omega arith)

  has_room : (attr : ℕ) (u : Update) → Member u all → u.key ≡ RowOf o attr → (said : Said) → u.said ≡ said → IsSaidOfKey (RowOf o attr) said → HasRoom attr said
  has_room attr u m is (IsPresent b) e q = absurd q
  has_room attr u m is (Holds (Class class)) e q = subst (λ (n : ℕ). HasRoom n (Holds (Class class))) (sym q) (omega arith, class_room)
  has_room attr u m is (Holds (Name text parent)) e q =
      subst (λ (n : ℕ). HasRoom n (Holds (Name text parent))) (sym q) (name_has_room u text parent m (is ∙ ap (λ n. RowOf o n) q) e)
  has_room attr u m is (Holds Dead) e q = subst (λ (n : ℕ). HasRoom n (Holds Dead)) (sym q) (omega arith, death_room)
  has_room attr u m is (Holds (Values vs)) e q = ⊎_elim
      (λ dead. absurd (dead.bare attr above u m is))
      (λ live.
      let n = formed.rows.named o (u, attr, m, is) in
      let a = (live.1 n.class n.of_class).allowed attr above u m is in
      let told : Holds (Values a.0) ≡ Holds (Values vs) = sym a.1 ∙ e in
      let same : a.0 ≡ vs = cc in
      values_have_room n.class attr vs (subst (IsAllowed (numbered s.schema) n.class attr) same a.2))
      (formed.rows.objects o (u, attr, m, is))
    where
      above : deleted_attr < attr
      above = let none : attr ≡ 0 → ⊥ = λ z. formed.rows.none o u m (is ∙ ap (λ n. RowOf o n) z) in omega (arith, q.0, q.1, q.2, none)

  -- ---- all rows

  attrs_rise : (a b : ℕ) → key_order (RowOf o a) (RowOf o b) ≡ Less → a < b
  attrs_rise a b less = by (nat_cmp a b) (ranked a b (nat_cmp a b) refl) (ap (λ (w : Ordering). ordering_then w (nat_cmp a b)) (sym (tied_itself objects_total o)) ∙ less)
    where
      by : (r : Ordering) → MatchOrdering r (a < b) (a ≡ b) (b < a) → r ≡ Less → a < b
      by Less lt e = lt
      by Equal eq e = absurd (cc)
      by Greater gt e = absurd (cc)

  keys_rise_so : (k l : Key) → unit_of k ≡ Object o → unit_of l ≡ Object o → key_order k l ≡ Less → attr_of k < attr_of l
  keys_rise_so k l i j less =
      let p = row_of_unit k o i in
      let q = row_of_unit l o j in
      let lt = attrs_rise p.0 q.0 (subst (λ (x : Key). key_order (RowOf o p.0) x ≡ Less) q.1 (subst (λ (x : Key). key_order x l ≡ Less) p.1 less)) in
      omega (arith, ap attr_of p.1, ap attr_of q.1)

  row_has_room : (u : Update) → Member u all → unit_of u.key ≡ Object o → HasRoom (attr_of u.key) u.said
  row_has_room u m unit =
      let k = row_of_unit u.key o unit in
      subst (λ (n : ℕ). HasRoom n u.said) (sym (ap attr_of k.1)) (has_room k.0 u m k.1 u.said refl (subst (λ (x : Key). IsSaidOfKey x u.said) k.1 (says u m)))

  rows_have_room : (from : ℕ) (us : List Update) → Each (λ u. unit_of u.key ≡ Object o) us → Each (λ u. Member u all) us
      → Rises key_order (map (λ (u : Update). u.key) us) → Each (λ u. from ≤ attr_of u.key) us → HaveRoom from attribute_limit us
  rows_have_room from [] of_it held rise low = tt
  rows_have_room from (u ∷ us) of_it held rise low =
      let here = row_has_room u (held u (inl refl)) (of_it u (inl refl)) in (
        low u (inl refl),
        here.0,
        here.1,
        rows_have_room (suc (attr_of u.key)) us (λ v m. of_it v (inr m)) (λ v m. held v (inr m)) rise.1
            (λ v m. let up = keys_rise_so u.key v.key (of_it u (inl refl)) (of_it v (inr m)) (rise.0 v.key (member_mapped (λ (w : Update). w.key) us v m)) in omega arith),
      )

-- ---- items

-- the head of an object, and the room of all attributes
abbrev pub most_bytes : ℕ
most_bytes = 4762

pub item_is_short : (s : Store) → IsFormedStore s → SayOfTheirKeys (updates_of s.rows) → (i : Item) → IsOffered s.rows i → item_length i ≤ most_bytes
item_is_short s formed says i q = by i.unit q.of_unit
  where
    by : (unit : Named) → Each (λ u. unit_of u.key ≡ unit) i.rows → item_length (record { unit = unit; rows = i.rows }) ≤ most_bytes
    by (Object o) of_unit =
        let all = rows_within attribute_limit 0 attribute_limit 0 i.rows refl (rows_have_room s formed says o 0 i.rows of_unit q.held q.rising (λ u m. omega arith)) in
        let most = all_rooms in
        omega arith
    by (Link l) of_unit = omega arith
