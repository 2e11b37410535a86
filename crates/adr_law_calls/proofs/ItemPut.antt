-- The rows that are written of an item may be put, and keep the forms.
use Rattle.std.proofs.Common.{◌≡◌, ◌⊎◌, inl, inr, ℕ, List, [], ◌∷◌, Bool, true, false, cond, refl, sym, ap, ◌∙◌, subst, filter, not, ◌&&◌, ◌||◌}
use Rattle.std.proofs.lemmas.Bool.{and_parts}
use Rattle.adr_values.specs.declared.stamp.Oid.{Oid}
use Rattle.adr_values.specs.declared.stamp.LinkKey.{LinkKey}
use Rattle.adr_values.specs.declared.stamp.Unit.{Unit as Named}
use Rattle.adr_values.specs.declared.stamp.Unit.TheVariants.{Object, Link}
use Rattle.adr_values.specs.Numbered.{numbered}
use Rattle.adr_values.specs.Table.{has, must_of}
use Rattle.adr_values.specs.Vector.{Cursors, at}
use Rattle.adr_model.specs.Member.{Member, Each}
use Rattle.adr_model.specs.Update.{RowOf, LinkOf, Update, Said, ends, class_attr, name_attr, deleted_attr}
use Rattle.adr_model.specs.Reflects.{CoversBirth, IsDeath, IsDeathOf, Supersedes, HoldsObject, IsTombstoned}
use Rattle.adr_model.specs.Store.{Held, State, updates_of}
use Rattle.adr_model.specs.Change.{Item}
use Rattle.adr_model.specs.Formed.{HasRow, IsNamed, IsObjectFormed}
use Rattle.adr_model.specs.Serve.{Reply}
use Rattle.adr_model.specs.Take.{is_above, is_of_attr, is_reserved_row, left_by_death, is_lost_end, Presence, IsDead, IsHeld, object_rows_taken, rows_taken}
use Rattle.adr_model.specs.Replica.{Book}
use Rattle.adr_model.specs.Sound.{IsExact}
use Rattle.adr_model.proofs.Members.{of_filter}
use Rattle.adr_law_calls.specs.Puts.{MayPut}
use Rattle.adr_law_calls.specs.Forms.{HasKey, MayCome}
use Rattle.adr_law_calls.specs.KeepForms.{KeepForms}
use Rattle.adr_law_calls.specs.OnTheWay.{IsTakeable, source_rows, AreOnTheWay}
use Rattle.adr_law_calls.proofs.Rows.{link_of_unit}
use Rattle.adr_law_calls.proofs.Tests.{above_supersedes}
use Rattle.adr_law_calls.proofs.Standings.{each_presence, IsThere, there_where_untested, deaths_are_reserved, left_from, reserved_is_left, bare_beside_death, left_or_dead}
use Rattle.adr_law_calls.proofs.Source.{well_said}
use Rattle.adr_law_calls.proofs.Rising.{one_of_key}
use Rattle.adr_law_calls.proofs.OnTheWay.{source_one, source_formed, source_classes, comes_whole}
use Rattle.adr_law_calls.proofs.ItemRows.{in_source, item_units, may_put, row_key, row_of_attr, source_holds, may_change}

-- the rows of an item that are above where the object is held, but its class
abbrev pub above_of_held : List Held → List Update → List Update
above_of_held rows us = filter (λ u. not (is_of_attr class_attr u.key) && is_above rows u) us

-- what is written of an item is of it
pub taken_from : (vector : Cursors) (rows : List Held) (unit : Named) (xs : List Update) → Each (λ u. Member u xs) (rows_taken vector rows (record { unit = unit; rows = xs }))
taken_from vector rows (Object o) xs = each_presence vector rows o (λ (p : Presence). Each (λ u. Member u xs) (object_rows_taken rows xs p))
    (λ tombstone u m. (of_filter (λ (v : Update). is_of_attr deleted_attr v.key && is_above rows v) xs u m).0)
    (λ alive holds u m. (of_filter (λ (v : Update). not (is_of_attr class_attr v.key) && is_above rows v) xs u (left_from (above_of_held rows xs) u m)).0)
    (λ absent covers u m. absurd m)
    (λ absent missed u m. left_from xs u m)
taken_from vector rows (Link l) xs = by (is_lost_end vector rows l.from || is_lost_end vector rows l.to)
  where
    by : (b : Bool) → Each (λ u. Member u xs) (cond b [] (filter (is_above rows) xs))
    by true u m = absurd m
    by false u m = (of_filter (is_above rows) xs u m).0

pub some_or_none : {A : Type 0} (xs : List A) → (xs ≡ []) ⊎ ((x : A) × Member x xs)
some_or_none [] = inl refl
some_or_none (x ∷ xs) = inr (x, inl refl)

module _ (book : Book) (s : State) (r : Reply) (may : IsTakeable book s r) (rows : List Held) (way : AreOnTheWay book s rows) where
  -- nothing is written, or rows that may be put and keep the forms
  abbrev pub MayWrite : Named → List Update → Type 0
  MayWrite unit us = (us ≡ []) ⊎ (MayPut (updates_of rows) (at s.store.vector) unit us × KeepForms (numbered s.store.schema) (at s.store.vector) (updates_of rows) unit us)

  one_row : Each (λ x. Each (λ y. x.update.key ≡ y.update.key → x ≡ y) rows) rows
  one_row = one_of_key rows way.rising

  module _ (o : Oid) (xs : List Update) (exact : IsExact (source_rows book r) r (record { unit = Object o; rows = xs })) where
    abbrev item : Item
    item = record { unit = Object o; rows = xs }

    held_place : HoldsObject (updates_of rows) o → (p : Oid) → Object o ≡ Object p → HoldsObject (updates_of rows) p ⊎ (CoversBirth (at s.store.vector) p → ⊥)
    held_place holds p e = inl (subst (HoldsObject (updates_of rows)) (let f : o ≡ p = cc in f) holds)

    -- the object is held dead: only its death
    from_dead : (u : Update) → Member u (object_rows_taken rows xs IsDead) → Member u xs × (is_of_attr deleted_attr u.key ≡ true) × (is_above rows u ≡ true)
    from_dead u m = let t = of_filter (λ (v : Update). is_of_attr deleted_attr v.key && is_above rows v) xs u m in let b = and_parts (is_of_attr deleted_attr u.key) (is_above rows u) t.1 in (t.0, b.0, b.1)

    where_dead : IsTombstoned (updates_of rows) o → MayWrite (Object o) (object_rows_taken rows xs IsDead)
    where_dead (d, m, is) = inr (
      may_put book s r may item exact rows way (object_rows_taken rows xs IsDead) (λ u n. (from_dead u n).0) (λ u n. above_supersedes rows u one_row (from_dead u n).2) (λ e n death u k. deaths_are_reserved u (from_dead u k).1) (held_place holds),
      ((way.formed.named o holds).class, inl (may_change book s r may item exact rows way o refl holds (object_rows_taken rows xs IsDead) (λ u n. (from_dead u n).0) (λ dead u n. deaths_are_reserved u (from_dead u n).1))),
    )
      where
        holds : HoldsObject (updates_of rows) o
        holds = (d, deleted_attr, m, is)

    from_held : (u : Update) → Member u (object_rows_taken rows xs IsHeld) → Member u xs × (is_above rows u ≡ true)
    from_held u m = let t = of_filter (λ (v : Update). not (is_of_attr class_attr v.key) && is_above rows v) xs u (left_from (above_of_held rows xs) u m) in
        (t.0, (and_parts (not (is_of_attr class_attr u.key)) (is_above rows u) t.1).1)

    where_held : (IsTombstoned (updates_of rows) o → ⊥) → HoldsObject (updates_of rows) o → MayWrite (Object o) (object_rows_taken rows xs IsHeld)
    where_held alive holds = inr (
      may_put book s r may item exact rows way (object_rows_taken rows xs IsHeld) (λ u n. (from_held u n).0) (λ u n. above_supersedes rows u one_row (from_held u n).1) (bare_beside_death (above_of_held rows xs)) (held_place holds),
      ((way.formed.named o holds).class, inl (may_change book s r may item exact rows way o refl holds (object_rows_taken rows xs IsHeld) (λ u n. (from_held u n).0) (λ dead. absurd (alive dead)))),
    )

    module _ (absent : HoldsObject (updates_of rows) o → ⊥) (missed : CoversBirth (at s.store.vector) o → ⊥) where
      whole : (u : Update) (attr : ℕ) → Member u (updates_of (source_rows book r)) → u.key ≡ RowOf o attr → Member u xs
      whole u attr m e = comes_whole book s r may rows way item exact o refl absent missed u attr m e

      new_above : Each (λ u. Each (λ v. v.key ≡ u.key → Supersedes u v) (updates_of rows)) (left_by_death xs)
      new_above u m v n e = let k = row_key book s r may item exact rows way o refl u (left_from xs u m) in absurd (absent (v, k.0, n, e ∙ k.1))

      -- some row of the object comes, and so all
      module _ (first : Update) (there : Member first xs) where
        pub comes_from : HoldsObject (updates_of (source_rows book r)) o
        comes_from = source_holds book s r may item exact rows way o refl first there

        abbrev pub named : IsNamed (updates_of (source_rows book r)) o
        named = (source_formed book s r may).named o comes_from

        comes : (P : Said → Type 0) (attr : ℕ) → HasRow (updates_of (source_rows book r)) o attr P → HasKey xs o attr
        comes P attr (u, m, e, p) = (u, whole u attr m e, e)

        reserved : (attr : ℕ) → is_reserved_row (RowOf o attr) ≡ true → HasKey xs o attr → HasKey (left_by_death xs) o attr
        reserved attr is (u, m, e) = (u, reserved_is_left xs u m (ap is_reserved_row e ∙ is), e)

        all : IsObjectFormed (numbered s.store.schema) (updates_of (source_rows book r)) o
            → ((d : Update) × Member d (left_by_death xs) × IsDeathOf o d) ⊎ ((attr : ℕ) → has (must_of (numbered s.store.schema) named.class) attr ≡ true → HasKey (left_by_death xs) o attr)
        all (inl dead) = inl (reserved deleted_attr refl (comes _ deleted_attr dead.dead))
        all (inr alive) = inr must
          where
            must : (attr : ℕ) → has (must_of (numbered s.store.schema) named.class) attr ≡ true → HasKey (left_by_death xs) o attr
            must attr is = let t = comes _ attr ((alive.1 named.class named.of_class).whole attr is) in by t (left_or_dead xs t.0 t.1)
              where
                by : (t : HasKey xs o attr) → Member t.0 (left_by_death xs) ⊎ ((d : Update) × Member d (left_by_death xs) × (is_of_attr deleted_attr d.key ≡ true) × (IsDeath t.0 → ⊥)) → HasKey (left_by_death xs) o attr
                by t (inl m) = (t.0, m, t.2)
                by t (inr (d, m, is_dead, f)) = let n = left_from xs d m in absurd (alive.0 (d, in_source book s r may item exact d n, row_of_attr book s r may item exact rows way o refl deleted_attr d n is_dead))

        pub may_come : MayCome (numbered s.store.schema) (updates_of rows) o named.class (left_by_death xs)
        may_come = record {
          absent = absent;
          known = source_classes book s r may named.of_class.0 named.of_class.1 named.class named.of_class.3;
          said = λ u m. well_said (numbered s.store.schema) (updates_of (source_rows book r)) (source_one book s r may) (source_formed book s r may) o comes_from u (in_source book s r may item exact u (left_from xs u m));
          of_class = reserved class_attr refl (comes _ class_attr named.of_class);
          of_name = reserved name_attr refl (comes _ name_attr named.of_name);
          whole = all ((source_formed book s r may).objects o comes_from);
        }

      new_place : (p : Oid) → Object o ≡ Object p → HoldsObject (updates_of rows) p ⊎ (CoversBirth (at s.store.vector) p → ⊥)
      new_place p e = inr (subst (λ q. CoversBirth (at s.store.vector) q → ⊥) (let f : o ≡ p = cc in f) missed)

      where_new : MayWrite (Object o) (left_by_death xs)
      where_new = by (some_or_none xs)
        where
          by : (xs ≡ []) ⊎ ((u : Update) × Member u xs) → MayWrite (Object o) (left_by_death xs)
          by (inl e) = inl (ap left_by_death e)
          by (inr (u, m)) = inr (may_put book s r may item exact rows way (left_by_death xs) (λ v n. left_from xs v n) new_above (bare_beside_death xs) new_place, ((named u m).class, inr (may_come u m)))

    object_may : MayWrite (Object o) (rows_taken s.store.vector rows item)
    object_may = each_presence s.store.vector rows o (λ (p : Presence). MayWrite (Object o) (object_rows_taken rows xs p)) where_dead where_held (λ absent covers. inl refl) where_new

  module _ (l : LinkKey) (xs : List Update) (exact : IsExact (source_rows book r) r (record { unit = Link l; rows = xs })) where
    abbrev link : Item
    link = record { unit = Link l; rows = xs }

    link_key : (u : Update) → Member u xs → u.key ≡ LinkOf l
    link_key u m = link_of_unit u.key l (item_units book s r may link exact u m)

    no_death : (u : Update) → Member u xs → IsDeath u → ⊥
    no_death u m (o, e) = let f : LinkOf l ≡ RowOf o deleted_attr = sym (link_key u m) ∙ e in absurd (cc)

    kept : (u : Update) → Member u (filter (is_above rows) xs) → Member u xs × (is_above rows u ≡ true)
    kept u m = of_filter (is_above rows) xs u m

    where_there : IsThere s.store.vector rows l.from → IsThere s.store.vector rows l.to → MayWrite (Link l) (filter (is_above rows) xs)
    where_there from to = by (some_or_none (filter (is_above rows) xs))
      where
        each_end : Each (λ o. IsThere s.store.vector rows o) (ends (LinkOf l))
        each_end o (inl e) = subst (IsThere s.store.vector rows) (sym e) from
        each_end o (inr (inl e)) = subst (IsThere s.store.vector rows) (sym e) to
        each_end o (inr (inr m)) = absurd m

        by : (filter (is_above rows) xs ≡ []) ⊎ ((u : Update) × Member u (filter (is_above rows) xs)) → MayWrite (Link l) (filter (is_above rows) xs)
        by (inl e) = inl e
        by (inr (u, m)) = inr (
          may_put book s r may link exact rows way (filter (is_above rows) xs) (λ v n. (kept v n).0) (λ v n. above_supersedes rows v one_row (kept v n).1) (λ d n death. absurd (no_death d (kept d n).0 death)) (λ o e. absurd (cc)),
          (((source_formed book s r may).links l u (in_source book s r may link exact u (kept u m).0) (link_key u (kept u m).0)).forward, each_end),
        )

    link_may : MayWrite (Link l) (rows_taken s.store.vector rows link)
    link_may = by (is_lost_end s.store.vector rows l.from) refl (is_lost_end s.store.vector rows l.to) refl
      where
        by : (b : Bool) → is_lost_end s.store.vector rows l.from ≡ b → (c : Bool) → is_lost_end s.store.vector rows l.to ≡ c → MayWrite (Link l) (cond (b || c) [] (filter (is_above rows) xs))
        by true is c to = inl refl
        by false is true to = inl refl
        by false is false to = where_there (there_where_untested s.store.vector rows l.from is) (there_where_untested s.store.vector rows l.to to)

  pub item_may : (unit : Named) (xs : List Update) → IsExact (source_rows book r) r (record { unit = unit; rows = xs }) → MayWrite unit (rows_taken s.store.vector rows (record { unit = unit; rows = xs }))
  item_may (Object o) xs exact = object_may o xs exact
  item_may (Link l) xs exact = link_may l xs exact
