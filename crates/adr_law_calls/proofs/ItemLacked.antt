-- A row of an item that is reflected and not covered isn't written.
use Rattle.std.proofs.Common.{◌≡◌, inl, inr, List, [], Bool, true, false, cond, refl, sym, subst, filter, not, ◌&&◌, ◌||◌}
use Rattle.std.proofs.lemmas.Bool.{both_ways, and_parts}
use Rattle.adr_values.specs.declared.stamp.Oid.{Oid}
use Rattle.adr_values.specs.declared.stamp.LinkKey.{LinkKey}
use Rattle.adr_values.specs.declared.stamp.Unit.{Unit as Named}
use Rattle.adr_values.specs.declared.stamp.Unit.TheVariants.{Object, Link}
use Rattle.adr_values.specs.Vector.{at}
use Rattle.adr_model.specs.Member.{Member, Each}
use Rattle.adr_model.specs.Update.{LinkOf, Update, ends, class_attr, deleted_attr}
use Rattle.adr_model.specs.Reflects.{Covers, CoversBirth, IsDeath, HoldsAtLeast, HoldsObject, IsTombstoned, Buried, Reflects}
use Rattle.adr_model.specs.Store.{Held, State, updates_of}
use Rattle.adr_model.specs.Change.{Item}
use Rattle.adr_model.specs.Serve.{Reply}
use Rattle.adr_model.specs.Take.{is_above, is_of_attr, left_by_death, is_lost_end, Presence, IsDead, IsHeld, object_rows_taken, rows_taken}
use Rattle.adr_model.specs.Replica.{Book}
use Rattle.adr_model.specs.Sound.{IsExact}
use Rattle.adr_law_knowledge.proofs.Knows.{end_of_row}
use Rattle.adr_model.proofs.Members.{of_filter}
use Rattle.adr_law_calls.specs.OnTheWay.{IsTakeable, known_with, source_rows, AreOnTheWay}
use Rattle.adr_law_calls.proofs.Rows.{link_of_unit}
use Rattle.adr_law_calls.proofs.Tests.{at_least_is_not_above}
use Rattle.adr_law_calls.proofs.Standings.{each_presence, IsThere, there_where_untested, left_from}
use Rattle.adr_law_calls.proofs.Rising.{one_of_key}
use Rattle.adr_law_calls.proofs.OnTheWay.{purged_is_covered, new_is_lacked}
use Rattle.adr_law_calls.proofs.ItemRows.{item_units, row_key, row_of_attr}
use Rattle.adr_law_calls.proofs.ItemPut.{taken_from}

module _ (book : Book) (s : State) (r : Reply) (may : IsTakeable book s r) (rows : List Held) (way : AreOnTheWay book s rows) where
  -- what is at least held isn't above
  low : (u : Update) → HoldsAtLeast (updates_of rows) u → is_above rows u ≡ false
  low u h = at_least_is_not_above rows u (one_of_key rows way.rising) h

  module _ (o : Oid) (xs : List Update) (exact : IsExact (source_rows book r) r (record { unit = Object o; rows = xs })) (u : Update) (m : Member u xs)
      (taken : Reflects book.issued (known_with s rows) u) (missed : Covers (at s.store.vector) u → ⊥) where
    abbrev item : Item
    item = record { unit = Object o; rows = xs }

    -- the end that is buried is the object
    buried : (p : Oid) → Member p (ends u.key) → Buried book.issued (known_with s rows) u p → Buried book.issued (known_with s rows) u o
    buried p e b = let k = row_key book s r may item exact rows way o refl u m in subst (Buried book.issued (known_with s rows) u) (end_of_row u o k.0 p k.1 e) b

    -- where the object is held, a row that is above is a death's of a dead object
    below : HoldsObject (updates_of rows) o → (IsTombstoned (updates_of rows) o → (IsDeath u → Covers (at s.store.vector) u) → is_above rows u ≡ false) → is_above rows u ≡ false
    below holds where_dead = by taken
      where
        by : Reflects book.issued (known_with s rows) u → is_above rows u ≡ false
        by (inl h) = low u h
        by (inr (p, e, b)) = on (buried p e b)
          where
            on : Buried book.issued (known_with s rows) u o → is_above rows u ≡ false
            on (inl (tombstone, covers)) = where_dead tombstone covers
            on (inr purged) = absurd (purged.absent holds)

    where_dead : IsTombstoned (updates_of rows) o → Member u (object_rows_taken rows xs IsDead) → ⊥
    where_dead (d, n, is) w =
        let t = of_filter (λ (v : Update). is_of_attr deleted_attr v.key && is_above rows v) xs u w in
        let both = and_parts (is_of_attr deleted_attr u.key) (is_above rows u) t.1 in
        both_ways (is_above rows u) (below (d, deleted_attr, n, is) (λ tombstone covers. absurd (missed (covers (o, row_of_attr book s r may item exact rows way o refl deleted_attr u m both.0))))) both.1

    where_held : (IsTombstoned (updates_of rows) o → ⊥) → HoldsObject (updates_of rows) o → Member u (object_rows_taken rows xs IsHeld) → ⊥
    where_held alive holds w =
        let t = of_filter (λ (v : Update). not (is_of_attr class_attr v.key) && is_above rows v) xs u (left_from (filter (λ (v : Update). not (is_of_attr class_attr v.key) && is_above rows v) xs) u w) in
        both_ways (is_above rows u) (below holds (λ tombstone covers. absurd (alive tombstone))) (and_parts (not (is_of_attr class_attr u.key)) (is_above rows u) t.1).1

    where_new : (HoldsObject (updates_of rows) o → ⊥) → (CoversBirth (at s.store.vector) o → ⊥) → Member u (left_by_death xs) → ⊥
    where_new absent unseen w = let k = row_key book s r may item exact rows way o refl u m in new_is_lacked book s r may rows way o absent unseen u k.0 k.1 taken

    object_lacked : Member u (rows_taken s.store.vector rows item) → ⊥
    object_lacked = each_presence s.store.vector rows o (λ (p : Presence). Member u (object_rows_taken rows xs p) → ⊥) where_dead where_held (λ absent covers w. absurd w) where_new

  module _ (l : LinkKey) (xs : List Update) (exact : IsExact (source_rows book r) r (record { unit = Link l; rows = xs })) (u : Update) (m : Member u xs) (taken : Reflects book.issued (known_with s rows) u) where
    abbrev link : Item
    link = record { unit = Link l; rows = xs }

    where_there : IsThere s.store.vector rows l.from → IsThere s.store.vector rows l.to → Member u (filter (is_above rows) xs) → ⊥
    where_there from to w = both_ways (is_above rows u) (by taken) (of_filter (is_above rows) xs u w).1
      where
        each_end : (o : Oid) → Member o (ends (LinkOf l)) → IsThere s.store.vector rows o
        each_end o (inl e) = subst (IsThere s.store.vector rows) (sym e) from
        each_end o (inr (inl e)) = subst (IsThere s.store.vector rows) (sym e) to
        each_end o (inr (inr n)) = absurd n

        not_buried : (o : Oid) → IsThere s.store.vector rows o → Buried book.issued (known_with s rows) u o → ⊥
        not_buried o there (inl (tombstone, covers)) = there.0 tombstone
        not_buried o (alive, inl holds) (inr purged) = purged.absent holds
        not_buried o (alive, inr unseen) (inr purged) = unseen (purged_is_covered book s r may rows way o purged)

        by : Reflects book.issued (known_with s rows) u → is_above rows u ≡ false
        by (inl h) = low u h
        by (inr (o, e, b)) = absurd (not_buried o (each_end o (subst (λ k. Member o (ends k)) (link_of_unit u.key l (item_units book s r may link exact u m)) e)) b)

    link_lacked : Member u (rows_taken s.store.vector rows link) → ⊥
    link_lacked = by (is_lost_end s.store.vector rows l.from) refl (is_lost_end s.store.vector rows l.to) refl
      where
        by : (b : Bool) → is_lost_end s.store.vector rows l.from ≡ b → (c : Bool) → is_lost_end s.store.vector rows l.to ≡ c → Member u (cond (b || c) [] (filter (is_above rows) xs)) → ⊥
        by true is c to w = absurd w
        by false is true to w = absurd w
        by false is false to w = where_there (there_where_untested s.store.vector rows l.from is) (there_where_untested s.store.vector rows l.to to) w

  -- a row that is written was not reflected, where it isn't covered
  pub item_lacked : (unit : Named) (xs : List Update) → IsExact (source_rows book r) r (record { unit = unit; rows = xs })
      → Each (λ u. (Covers (at s.store.vector) u → ⊥) → Reflects book.issued (known_with s rows) u → ⊥) (rows_taken s.store.vector rows (record { unit = unit; rows = xs }))
  item_lacked (Object o) xs exact u w missed taken = object_lacked o xs exact u (taken_from s.store.vector rows (Object o) xs u w) taken missed w
  item_lacked (Link l) xs exact u w missed taken = link_lacked l xs exact u (taken_from s.store.vector rows (Link l) xs u w) taken w
