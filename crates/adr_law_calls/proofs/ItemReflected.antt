-- Each row of an item is reflected once the rows that are written of it stand.
use Rattle.std.proofs.Common.{◌≡◌, ◌⊎◌, inl, inr, List, [], Bool, true, false, cond, refl, sym, ap, ◌∙◌, subst, filter, not, ◌&&◌, ◌||◌}
use Rattle.std.proofs.lemmas.Bool.{both_ways}
use Rattle.std.specs.Cmp.Derive.{both_true}
use Rattle.adr_values.specs.declared.stamp.Oid.{Oid}
use Rattle.adr_values.specs.declared.stamp.LinkKey.{LinkKey}
use Rattle.adr_values.specs.declared.stamp.Unit.{Unit as Named}
use Rattle.adr_values.specs.declared.stamp.Unit.TheVariants.{Object, Link}
use Rattle.adr_values.specs.Vector.{at}
use Rattle.adr_model.specs.Member.{Member, Each}
use Rattle.adr_model.specs.Update.{RowOf, LinkOf, Update, ends, class_attr, deleted_attr}
use Rattle.adr_model.specs.Reflects.{CoversBirth, IsDeath, HoldsObject, IsTombstoned, Buried, Reflects}
use Rattle.adr_model.specs.Store.{Held, State, updates_of}
use Rattle.adr_model.specs.Change.{Item}
use Rattle.adr_model.specs.Serve.{Reply}
use Rattle.adr_model.specs.Take.{is_above, is_of_attr, left_by_death, is_lost_end, Presence, IsDead, IsHeld, object_rows_taken, rows_taken}
use Rattle.adr_model.specs.Replica.{Book}
use Rattle.adr_model.specs.Sound.{IsExact}
use Rattle.adr_model.proofs.Members.{in_filter, of_filter}
use Rattle.adr_law_knowledge.proofs.Comparing.{supersedes_self}
use Rattle.adr_law_knowledge.proofs.Knows.{reflects_by_death}
use Rattle.adr_law_calls.specs.OnTheWay.{IsTakeable, known_with, source_rows, AreOnTheWay}
use Rattle.adr_law_calls.proofs.Rows.{link_of_unit}
use Rattle.adr_law_calls.proofs.Tests.{not_above}
use Rattle.adr_law_calls.proofs.Standings.{each_presence, IsLost, lost_where_tested, is_death, left_from, left_or_dead}
use Rattle.adr_law_calls.proofs.OnTheWay.{source_issued, gone_is_purged}
use Rattle.adr_law_calls.proofs.ItemRows.{in_source, item_units, row_key, row_of_attr, same_birth}
use Rattle.adr_law_calls.proofs.ItemPut.{above_of_held}

module _ (book : Book) (s : State) (r : Reply) (may : IsTakeable book s r) (rows : List Held) (way : AreOnTheWay book s rows) (next : List Held)
    (keep : (u : Update) → Reflects book.issued (known_with s rows) u → Reflects book.issued (known_with s next) u) where
  -- once these rows stand, each row of the item is reflected
  abbrev Suffice : List Update → List Update → Type 0
  Suffice xs us = Each (λ u. Member u (updates_of next)) us → Each (λ u. Reflects book.issued (known_with s next) u) xs

  stands : (u : Update) → Member u (updates_of next) → Reflects book.issued (known_with s next) u
  stands u m = inl (u, m, supersedes_self u)

  below : (u : Update) → is_above rows u ≡ false → Reflects book.issued (known_with s next) u
  below u is = keep u (inl (not_above rows u is))

  module _ (o : Oid) (xs : List Update) (exact : IsExact (source_rows book r) r (record { unit = Object o; rows = xs })) where
    abbrev item : Item
    item = record { unit = Object o; rows = xs }

    its_end : (u : Update) → Member u xs → Member o (ends u.key)
    its_end u m = let k = row_key book s r may item exact rows way o refl u m in subst (λ key. Member o (ends key)) (sym k.1) (inl refl)

    where_dead : IsTombstoned (updates_of rows) o → Suffice xs (object_rows_taken rows xs IsDead)
    where_dead tombstone written u m = by (is_of_attr deleted_attr u.key) refl (is_above rows u) refl
      where
        by : (d : Bool) → is_of_attr deleted_attr u.key ≡ d → (a : Bool) → is_above rows u ≡ a → Reflects book.issued (known_with s next) u
        by false other a above = keep u (reflects_by_death book.issued (known_with s rows) u o (its_end u m) (inl tombstone) (λ death. absurd (both_ways (is_of_attr deleted_attr u.key) other (is_death u death))))
        by true is false above = below u above
        by true is true above = stands u (written u (in_filter (λ (v : Update). is_of_attr deleted_attr v.key && is_above rows v) xs u m (both_true is above)))

    -- a row is left, or an end is dead by a death that is
    left : (us : List Update) → Each (λ u. Member u xs) us → Each (λ u. Member u (updates_of next)) (left_by_death us) → Each (λ u. Reflects book.issued (known_with s next) u) us
    left us among written u m = by (left_or_dead us u m)
      where
        by : Member u (left_by_death us) ⊎ ((d : Update) × Member d (left_by_death us) × (is_of_attr deleted_attr d.key ≡ true) × (IsDeath u → ⊥)) → Reflects book.issued (known_with s next) u
        by (inl n) = stands u (written u n)
        by (inr (d, n, is, f)) = reflects_by_death book.issued (known_with s next) u o (its_end u (among u m))
            (inl (d, written d n, row_of_attr book s r may item exact rows way o refl deleted_attr d (among d (left_from us d n)) is)) (λ death. absurd (f death))

    where_held : (IsTombstoned (updates_of rows) o → ⊥) → HoldsObject (updates_of rows) o → Suffice xs (object_rows_taken rows xs IsHeld)
    where_held alive holds written u m = by (is_of_attr class_attr u.key) refl (is_above rows u) refl
      where
        class_row : is_of_attr class_attr u.key ≡ true → Member u (updates_of rows)
        class_row is = let k = row_of_attr book s r may item exact rows way o refl class_attr u m is in
            subst (λ (v : Update). Member v (updates_of rows)) (same_birth book s r may item exact rows way o refl holds u m k) (way.formed.named o holds).of_class.1

        by : (c : Bool) → is_of_attr class_attr u.key ≡ c → (a : Bool) → is_above rows u ≡ a → Reflects book.issued (known_with s next) u
        by true is a above = keep u (inl (u, class_row is, supersedes_self u))
        by false other false above = below u above
        by false other true above = left (above_of_held rows xs) (λ v n. (of_filter (λ (w : Update). not (is_of_attr class_attr w.key) && is_above rows w) xs v n).0) written u
            (in_filter (λ (v : Update). not (is_of_attr class_attr v.key) && is_above rows v) xs u m (both_true (ap not other) above))

    where_gone : (HoldsObject (updates_of rows) o → ⊥) → CoversBirth (at s.store.vector) o → Suffice xs []
    where_gone absent covers written u m =
        keep u (inr (o, its_end u m, inr (gone_is_purged book s r may rows way u o (source_issued book s r may u (in_source book s r may item exact u m)) (its_end u m) absent covers)))

    object_reflected : Suffice xs (rows_taken s.store.vector rows item)
    object_reflected = each_presence s.store.vector rows o (λ (p : Presence). Suffice xs (object_rows_taken rows xs p)) where_dead where_held where_gone (λ absent missed. left xs (λ u m. m))

  module _ (l : LinkKey) (xs : List Update) (exact : IsExact (source_rows book r) r (record { unit = Link l; rows = xs })) where
    abbrev link : Item
    link = record { unit = Link l; rows = xs }

    link_key : (u : Update) → Member u xs → u.key ≡ LinkOf l
    link_key u m = link_of_unit u.key l (item_units book s r may link exact u m)

    where_lost : (o : Oid) → Member o (ends (LinkOf l)) → IsLost s.store.vector rows o → Each (λ u. Reflects book.issued (known_with s next) u) xs
    where_lost o e lost u m = keep u (inr (o, end, by lost))
      where
        end : Member o (ends u.key)
        end = subst (λ key. Member o (ends key)) (sym (link_key u m)) e

        by : IsLost s.store.vector rows o → Buried book.issued (known_with s rows) u o
        by (inl tombstone) = inl (tombstone, λ death. let f : LinkOf l ≡ RowOf death.0 deleted_attr = sym (link_key u m) ∙ death.1 in absurd (cc))
        by (inr (absent, covers)) = inr (gone_is_purged book s r may rows way u o (source_issued book s r may u (in_source book s r may link exact u m)) end absent covers)

    where_there : Suffice xs (filter (is_above rows) xs)
    where_there written u m = by (is_above rows u) refl
      where
        by : (a : Bool) → is_above rows u ≡ a → Reflects book.issued (known_with s next) u
        by false above = below u above
        by true above = stands u (written u (in_filter (is_above rows) xs u m above))

    link_reflected : Suffice xs (rows_taken s.store.vector rows link)
    link_reflected = by (is_lost_end s.store.vector rows l.from) refl (is_lost_end s.store.vector rows l.to) refl
      where
        by : (b : Bool) → is_lost_end s.store.vector rows l.from ≡ b → (c : Bool) → is_lost_end s.store.vector rows l.to ≡ c → Suffice xs (cond (b || c) [] (filter (is_above rows) xs))
        by true is c to written = where_lost l.from (inl refl) (lost_where_tested s.store.vector rows l.from is)
        by false is true to written = where_lost l.to (inr (inl refl)) (lost_where_tested s.store.vector rows l.to to)
        by false is false to written = where_there written

  pub item_reflected : (unit : Named) (xs : List Update) → IsExact (source_rows book r) r (record { unit = unit; rows = xs })
      → Each (λ u. Member u (updates_of next)) (rows_taken s.store.vector rows (record { unit = unit; rows = xs })) → Each (λ u. Reflects book.issued (known_with s next) u) xs
  item_reflected (Object o) xs exact = object_reflected o xs exact
  item_reflected (Link l) xs exact = link_reflected l xs exact
