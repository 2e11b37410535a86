-- Of an item that is spelled and isn't refused nothing is written, or rows that may be put, keep the forms
-- and can follow.
use Rattle.std.proofs.Common.{◌≡◌, ◌⊎◌, inl, inr, ℕ, List, [], Bool, true, false, cond, Option, Some, None, IsSome, refl, sym, ap, ◌∙◌, subst, map, filter, not, ◌&&◌, ◌||◌}
use Rattle.std.specs.Bool.{then_some}
use Rattle.std.specs.Option.{option_map, option_map_or, option_and_then, option_or}
use Rattle.std.specs.List.Sorted.{IsStrictlySortedBy}
use Rattle.std.proofs.lemmas.Bool.{and_parts, both_ways, not-true}
use Rattle.adr_values.specs.declared.stamp.Oid.{Oid}
use Rattle.adr_values.specs.declared.stamp.LinkKey.{LinkKey}
use Rattle.adr_values.specs.declared.stamp.Unit.{Unit as Named}
use Rattle.adr_values.specs.declared.stamp.Unit.TheVariants.{Object, Link}
use Rattle.adr_values.proofs.ExactCalls.{not_then}
use Rattle.adr_values.specs.declared.content.Content.{Content}
use Rattle.adr_values.specs.declared.content.Content.TheVariants.{Class, Name, Dead, Values}
use Rattle.adr_values.specs.declared.refusal.SchemaRefusal.TheVariants.{NotLink}
use Rattle.adr_values.specs.Numbered.{numbered}
use Rattle.adr_values.specs.Rules.{not_link_refusal}
use Rattle.adr_values.specs.Table.{Table, has, must_of, class_at, kind_at, is_forward}
use Rattle.adr_values.specs.Vector.{Cursors, at}
use Rattle.adr_call.specs.declared.refusal.ItemFault.TheVariants.{Schema as BreaksSchema}
use Rattle.adr_call.specs.declared.refusal.TakeRefusal.TheVariants.{BadItem, Incomplete}
use Rattle.adr_model.specs.Member.{Member, Each}
use Rattle.adr_values.specs.First.{first_of}
use Rattle.adr_model.specs.Update.{RowOf, LinkOf, Update, Said, Holds, is_older, key_order, ends, class_attr, name_attr, deleted_attr}
use Rattle.adr_model.specs.Reflects.{CoversBirth, IsDeath, IsDeathOf, HoldsObject, IsTombstoned}
use Rattle.adr_model.specs.Store.{Held, updates_of, row_held}
use Rattle.adr_model.specs.Change.{Item}
use Rattle.adr_model.specs.Formed.{AreRising, AreFormedRows, IsNamed}
use Rattle.adr_model.specs.Take.{is_above, is_of_attr, is_reserved_row, has_row, left_by_death, is_lost_end, Presence, IsDead, IsHeld, object_rows_taken, object_rows_tested, object_lacks, rows_taken, rows_tested, row_fault, class_said, class_among, class_of_item, item_fault, lacks, incomplete, item_refusal}
use Rattle.adr_model.proofs.Members.{of_filter, member_mapped}
use Rattle.adr_law_knowledge.proofs.Refusing.{none_there, not_mapped, is_so}
use Rattle.adr_law_calls.specs.Puts.{MayPut}
use Rattle.adr_law_calls.specs.Forms.{HasKey, IsWellSaid}
use Rattle.adr_law_calls.proofs.Rows.{updated, held_as, row_of_unit, link_of_unit}
use Rattle.adr_law_calls.proofs.Rising.{one_of_key as one_held_of_key, one_update}
use Rattle.adr_law_calls.proofs.Tests.{IsFound, row_found, above_supersedes}
use Rattle.adr_law_calls.proofs.Standings.{each_presence, IsThere, there_where_untested, attr_itself, left_from, reserved_is_left, bare_beside_death}
use Rattle.adr_law_calls.proofs.ItemPut.{above_of_held, some_or_none}
use Rattle.adr_law_calls.proofs.Saids.{death_well_said}
use Rattle.adr_model.specs.Spelled.{IsContentOfAttr, IsSpelledItem}
use Rattle.adr_law_calls.specs.Follow.{IsWhole, MayWriteUnit, MayFollow}
use Rattle.adr_law_calls.specs.Taken.{MayBeTaken}
use Rattle.adr_law_calls.proofs.Sorted.{keys, filtered_rise, left_rise, one_of_key}
use Rattle.adr_law_calls.proofs.Whole.{row_of_attr, key_of, class_is, whole_where_tested}
use Rattle.adr_law_calls.proofs.Said.{says_content, neither, class_row_says, row_said}

class_of_said : (said : Said) (class : ℕ) → said ≡ Holds (Class class) → class_said said ≡ Some class
class_of_said said class e = ap class_said e

-- a row of no key that is held is above
pub new_is_above : (rows : List Held) (u : Update) → Each (λ (h : Held). h.update.key ≡ u.key → ⊥) rows
    → is_above rows u ≡ true
new_is_above rows u none = by (row_found rows u.key)
  where
    by : IsFound rows u.key (row_held rows u.key) → is_above rows u ≡ true
    by (inl (h, m, e, f)) = absurd (none h m e)
    by (inr (others, f)) = ap (λ (p : Option Held). option_map_or (λ y. is_older y.update u) p true) f

module _ (schema : ℕ) (vector : Cursors) (rows : List Held) (rising : AreRising rows)
    (formed : AreFormedRows (numbered schema) (updates_of rows)) where
  abbrev table : Table
  table = numbered schema

  one_row : Each (λ x. Each (λ y. x.update.key ≡ y.update.key → x ≡ y) rows) rows
  one_row = one_held_of_key rows rising

  module _ (unit : Named) (xs : List Update)
      (spelled : IsSpelledItem (record { unit = unit; rows = xs })) where
    one : Each (λ u. Each (λ v. u.key ≡ v.key → u ≡ v) xs) xs
    one = one_of_key xs spelled.rising

    -- some rows of the item, in order, above what is held
    part_put : (us : List Update) → Each (λ u. Member u xs) us → Each (λ u. is_above rows u ≡ true) us
        → Each (λ d. IsDeath d → Each (λ u. is_reserved_row u.key ≡ true) us) us
        → ((o : Oid) → unit ≡ Object o → HoldsObject (updates_of rows) o ⊎ (CoversBirth (at vector) o → ⊥))
        → MayPut (updates_of rows) (at vector) unit us
    part_put us among above bare place = record {
      of_unit = λ u m. spelled.of_unit u (among u m);
      alone = λ u m v n e. one u (among u m) v (among v n) e;
      above = λ u m. above_supersedes rows u one_row (above u m);
      bare = bare;
      place = place;
    }

    part_follows : (us : List Update) → (u : Update) × Member u us → Each (λ u. Member u xs) us
        → IsStrictlySortedBy key_order (keys us) → Each (λ u. is_above rows u ≡ true) us
        → MayWriteUnit table vector rows unit us
        → MayFollow table vector rows (record { unit = unit; rows = us })
    part_follows us some among rise above placed = record {
      some = some;
      form = record { of_unit = λ u m. spelled.of_unit u (among u m); rising = rise; says = λ u m. spelled.says u (among u m) };
      greater = above;
      unit = placed;
    }

  module _ (o : Oid) (xs : List Update)
      (spelled : IsSpelledItem (record { unit = Object o; rows = xs })) where
    abbrev item : Item
    item = record { unit = Object o; rows = xs }

    row_key : (u : Update) → Member u xs → (attr : ℕ) × (u.key ≡ RowOf o attr)
    row_key u m = row_of_unit u.key o (spelled.of_unit u m)

    held_place : HoldsObject (updates_of rows) o → (p : Oid) → Object o ≡ Object p
        → HoldsObject (updates_of rows) p ⊎ (CoversBirth (at vector) p → ⊥)
    held_place holds p e = inl (subst (HoldsObject (updates_of rows)) (let f : o ≡ p = cc in f) holds)

    -- ---- the object is held dead

    from_dead : (u : Update) → Member u (object_rows_taken rows xs IsDead)
        → Member u xs × (u.key ≡ RowOf o deleted_attr) × (is_above rows u ≡ true)
    from_dead u m =
        let t = of_filter (λ (v : Update). is_of_attr deleted_attr v.key && is_above rows v) xs u m in
        let b = and_parts (is_of_attr deleted_attr u.key) (is_above rows u) t.1 in
        (t.0, row_of_attr table o xs spelled deleted_attr u t.0 b.0, b.1)

    -- a deleted row says that
    death_says : (u : Update) → Member u xs → u.key ≡ RowOf o deleted_attr → u.said ≡ Holds Dead
    death_says u m is = let t = says_content u.key u.said o deleted_attr is (spelled.says u m) in t.1
        ∙ ap Holds (by t.0 t.2)
      where
        by : (c : Content) → IsContentOfAttr deleted_attr c → c ≡ Dead
        by (Class d) e = absurd (let f : deleted_attr ≡ class_attr = e in cc)
        by (Name text parent) e = absurd (let f : deleted_attr ≡ name_attr = e in cc)
        by Dead e = refl
        by (Values vs) e = absurd (e.2 refl)

    dead_is_good : IsTombstoned (updates_of rows) o
        → (u : Update) × Member u (object_rows_taken rows xs IsDead)
        → MayBeTaken schema vector rows (Object o) (object_rows_taken rows xs IsDead)
    dead_is_good (d, m, is) some = record {
      put = part_put (Object o) xs spelled (object_rows_taken rows xs IsDead) (λ u n. (from_dead u n).0)
          (λ u n. (from_dead u n).2) (λ e n death u k. reserved u k) (held_place holds);
      keeps = (
        named.class,
        inl (record {
          of_class = named.of_class;
          said = λ u n. let t = from_dead u n in death_well_said table named.class o u t.1
              (death_says u t.0 t.1);
          dead = λ t u n. reserved u n;
        }),
      );
      follows = part_follows (Object o) xs spelled (object_rows_taken rows xs IsDead) some
          (λ u n. (from_dead u n).0)
          (filtered_rise (λ (v : Update). is_of_attr deleted_attr v.key && is_above rows v) xs spelled.rising)
          (λ u n. (from_dead u n).2)
          (inl ((d, m, is), λ u n. (from_dead u n).1));
    }
      where
        holds : HoldsObject (updates_of rows) o
        holds = (d, deleted_attr, m, is)

        named : IsNamed (updates_of rows) o
        named = formed.named o holds

        reserved : (u : Update) → Member u (object_rows_taken rows xs IsDead) → is_reserved_row u.key ≡ true
        reserved u n = ap is_reserved_row (from_dead u n).1

    -- ---- the rows that are looked at

    module _ (fault : item_fault table vector rows item ≡ None) where
      tested_is : (ts : List Update) → rows_tested vector rows item ≡ ts
          → Each (λ u. row_fault table (class_of_item rows item) u ≡ None) ts
      tested_is ts e u m = none_there
          (map (row_fault table (class_of_item rows item)) (rows_tested vector rows item)) fault
          (row_fault table (class_of_item rows item) u)
          (member_mapped (row_fault table (class_of_item rows item)) (rows_tested vector rows item) u (subst (Member u) (sym e) m))

      -- ---- the object is held

      module _ (alive : IsTombstoned (updates_of rows) o → ⊥) (holds : HoldsObject (updates_of rows) o) where
        abbrev here : IsNamed (updates_of rows) o
        here = formed.named o holds

        held_tested : rows_tested vector rows item ≡ xs
        held_tested = each_presence vector rows o (λ (p : Presence). object_rows_tested xs p ≡ xs)
            (λ t. absurd (alive t)) (λ _ _. refl) (λ absent _. absurd (absent holds))
            (λ absent _. absurd (absent holds))

        held_class : class_of_item rows item ≡ Some here.class
        held_class = by (row_found rows (RowOf o class_attr))
          where
            by : IsFound rows (RowOf o class_attr) (row_held rows (RowOf o class_attr))
                → class_of_item rows item ≡ Some here.class
            by (inl (h, m, e, f)) =
                let same : here.of_class.0 ≡ h.update = one_update rows rising here.of_class.0 here.of_class.1 h.update (updated rows h m) (here.of_class.2 ∙ sym e) in
                ap (λ (p : Option Held). option_or (option_and_then (λ x. class_said x.update.said) p) (class_among xs)) f
                ∙ ap (λ (c : Option ℕ). option_or c (class_among xs))
                (class_of_said h.update.said here.class (ap (λ (u : Update). u.said) (sym same) ∙ here.of_class.3))
            by (inr (none, f)) = let h = held_as rows here.of_class.0 here.of_class.1 in absurd
                (none h.0 h.1 (ap (λ (u : Update). u.key) (sym h.2) ∙ here.of_class.2))

        from_held : (u : Update) → Member u (object_rows_taken rows xs IsHeld)
            → Member u xs × (is_of_attr class_attr u.key ≡ false) × (is_above rows u ≡ true)
        from_held u m =
            let t = of_filter (λ (v : Update). not (is_of_attr class_attr v.key) && is_above rows v) xs u (left_from (above_of_held rows xs) u m) in
            let b = and_parts (not (is_of_attr class_attr u.key)) (is_above rows u) t.1 in
            (t.0, not-true (is_of_attr class_attr u.key) b.0, b.1)

        said_of_held : Each (IsWellSaid table here.class o) (object_rows_taken rows xs IsHeld)
        said_of_held u m =
            let t = from_held u m in
            let k = row_key u t.0 in
            row_said schema here.class o u k.0 k.1 (spelled.says u t.0) (subst (λ c. row_fault table c u ≡ None) held_class (tested_is xs held_tested u t.0))
            (λ d is says. absurd (both_ways (is_of_attr class_attr u.key) t.1 (attr_itself o class_attr u.key is)))

        held_is_good : (u : Update) × Member u (object_rows_taken rows xs IsHeld)
            → MayBeTaken schema vector rows (Object o) (object_rows_taken rows xs IsHeld)
        held_is_good some = record {
          put = part_put (Object o) xs spelled (object_rows_taken rows xs IsHeld) (λ u n. (from_held u n).0)
              (λ u n. (from_held u n).2) (bare_beside_death (above_of_held rows xs)) (held_place holds);
          keeps = (here.class, inl (record { of_class = here.of_class; said = said_of_held; dead = λ t. absurd (alive t) }));
          follows = part_follows (Object o) xs spelled (object_rows_taken rows xs IsHeld) some
              (λ u n. (from_held u n).0)
              (left_rise (above_of_held rows xs) (filtered_rise (λ (v : Update). not (is_of_attr class_attr v.key) && is_above rows v) xs spelled.rising))
              (λ u n. (from_held u n).2)
              (inr (inl (alive, holds)));
        }

      -- ---- the object is new

      module _ (absent : HoldsObject (updates_of rows) o → ⊥) (missed : CoversBirth (at vector) o → ⊥)
          (whole : incomplete table vector rows item ≡ None) where
        new_tested : rows_tested vector rows item ≡ left_by_death xs
        new_tested = each_presence vector rows o
            (λ (p : Presence). object_rows_tested xs p ≡ left_by_death xs)
            (λ t. absurd (absent (t.0, deleted_attr, t.1, t.2))) (λ _ holds. absurd (absent holds))
            (λ _ covers. absurd (missed covers)) (λ _ _. refl)

        lacks_nothing : lacks table xs ≡ false
        lacks_nothing = not_then (lacks table xs) (Incomplete o)
            (sym (each_presence vector rows o (λ (p : Presence). then_some (object_lacks table xs p) (Incomplete o) ≡ then_some (lacks table xs) (Incomplete o))
            (λ t. absurd (absent (t.0, deleted_attr, t.1, t.2))) (λ _ holds. absurd (absent holds))
            (λ _ covers. absurd (missed covers)) (λ _ _. refl)) ∙ whole)

        comes : IsWhole table o xs
        comes = whole_where_tested table o xs spelled lacks_nothing

        reserved : (attr : ℕ) → is_reserved_row (RowOf o attr) ≡ true → HasKey xs o attr
            → HasKey (left_by_death xs) o attr
        reserved attr is (u, m, e) = (u, reserved_is_left xs u m (ap is_reserved_row e ∙ is), e)

        abbrev class : ℕ
        class = comes.class

        abbrev birth : HasKey xs o class_attr
        birth = (comes.of_class.0, comes.of_class.1, comes.of_class.2)

        birth_says : birth.0.said ≡ Holds (Class class)
        birth_says = comes.of_class.3

        said_class : class_among xs ≡ Some class
        said_class = class_is table o xs spelled birth class birth_says

        new_class : class_of_item rows item ≡ Some class
        new_class = by (row_found rows (RowOf o class_attr))
          where
            by : IsFound rows (RowOf o class_attr) (row_held rows (RowOf o class_attr))
                → class_of_item rows item ≡ Some class
            by (inl (h, m, e, f)) = absurd (absent (h.update, class_attr, updated rows h m, e))
            by (inr (none, f)) = ap
                (λ (p : Option Held). option_or (option_and_then (λ x. class_said x.update.said) p) (class_among xs)) f
                ∙ said_class

        said_of_new : Each (IsWellSaid table class o) (left_by_death xs)
        said_of_new u m =
            let n = left_from xs u m in
            let k = row_key u n in
            row_said schema class o u k.0 k.1 (spelled.says u n) (subst (λ c. row_fault table c u ≡ None) new_class (tested_is (left_by_death xs) new_tested u m))
            (λ d is says. same d (ap (λ (v : Update). v.said) (one (Object o) xs spelled birth.0 birth.1 u n (birth.2 ∙ sym is)) ∙ says))
          where
            same : (d : ℕ) → birth.0.said ≡ Holds (Class d) → d ≡ class
            same d e = let f : Holds (Class d) ≡ Holds (Class class) = sym e ∙ birth_says in cc

        birth_left : Member birth.0 (left_by_death xs)
        birth_left = reserved_is_left xs birth.0 birth.1 (ap is_reserved_row birth.2)

        known : IsSome (class_at table class)
        known = (class_row_says schema class o birth.0 (class_of_item rows item) class birth.2 birth_says (tested_is (left_by_death xs) new_tested birth.0 birth_left)).1

        all : ((d : Update) × Member d (left_by_death xs) × IsDeathOf o d)
            ⊎ ((attr : ℕ) → has (must_of table class) attr ≡ true → HasKey (left_by_death xs) o attr)
        all = by (has_row deleted_attr xs) refl comes.whole
          where
            by : (b : Bool) → has_row deleted_attr xs ≡ b
                → ((d : Update) × Member d xs × IsDeathOf o d) ⊎ ((attr : ℕ) → has (must_of table class) attr ≡ true → HasKey xs o attr)
                → ((d : Update) × Member d (left_by_death xs) × IsDeathOf o d)
                ⊎ ((attr : ℕ) → has (must_of table class) attr ≡ true → HasKey (left_by_death xs) o attr)
            by b is (inl death) = inl (reserved deleted_attr refl death)
            by true is (inr must) = inl (reserved deleted_attr refl (key_of table o xs spelled deleted_attr is))
            by false is (inr must) = inr (λ attr h. let k = must attr h in
                (k.0, subst (λ b. Member k.0 (cond b (filter (λ (v : Update). is_reserved_row v.key) xs) xs)) (sym is) k.1, k.2))

        new_above : Each (λ u. is_above rows u ≡ true) (left_by_death xs)
        new_above u m = let k = row_key u (left_from xs u m) in new_is_above rows u
            (λ h n e. absent (h.update, k.0, updated rows h n, e ∙ k.1))

        new_place : (p : Oid) → Object o ≡ Object p
            → HoldsObject (updates_of rows) p ⊎ (CoversBirth (at vector) p → ⊥)
        new_place p e = inr (subst (λ q. CoversBirth (at vector) q → ⊥) (let f : o ≡ p = cc in f) missed)

        new_is_good : (u : Update) × Member u (left_by_death xs)
            → MayBeTaken schema vector rows (Object o) (left_by_death xs)
        new_is_good some = record {
          put = part_put (Object o) xs spelled (left_by_death xs) (left_from xs) new_above
              (bare_beside_death xs) new_place;
          keeps = (class, inr (record { absent = absent; known = known; said = said_of_new; of_class = reserved class_attr refl birth; of_name = reserved name_attr refl comes.of_name; whole = all }));
          follows = part_follows (Object o) xs spelled (left_by_death xs) some (left_from xs)
              (left_rise xs spelled.rising) new_above
              (inr (inr (
                absent,
                missed,
                record {
                  class = class;
                  of_class = (birth.0, birth_left, birth.2, birth_says);
                  of_name = reserved name_attr refl comes.of_name;
                  whole = all;
                },
              )));
        }

      object_good : incomplete table vector rows item ≡ None
          → (u : Update) × Member u (rows_taken vector rows item)
          → MayBeTaken schema vector rows (Object o) (rows_taken vector rows item)
      object_good whole = each_presence vector rows o
          (λ (p : Presence). (u : Update) × Member u (object_rows_taken rows xs p) → MayBeTaken schema vector rows (Object o) (object_rows_taken rows xs p))
          dead_is_good held_is_good (λ absent covers some. absurd some.1) (λ absent missed. new_is_good absent missed whole)

  -- ---- links

  module _ (l : LinkKey) (xs : List Update)
      (spelled : IsSpelledItem (record { unit = Link l; rows = xs })) where
    abbrev link : Item
    link = record { unit = Link l; rows = xs }

    link_key : (u : Update) → Member u xs → u.key ≡ LinkOf l
    link_key u m = link_of_unit u.key l (spelled.of_unit u m)

    no_death : (u : Update) → Member u xs → IsDeath u → ⊥
    no_death u m (o, e) = let f : LinkOf l ≡ RowOf o deleted_attr = sym (link_key u m) ∙ e in absurd (cc)

    kept : (u : Update) → Member u (filter (is_above rows) xs) → Member u xs × (is_above rows u ≡ true)
    kept u m = of_filter (is_above rows) xs u m

    is_forward_link : (u : Update) → Member u xs → row_fault table None u ≡ None
        → is_forward (kind_at table l.attr) ≡ true
    is_forward_link u m none = is_so (is_forward (kind_at table l.attr)) (NotLink l.attr)
        (not_mapped BreaksSchema (not_link_refusal table l.attr)
        (subst (λ k. row_fault table None (record { key = k; stamp = u.stamp; said = u.said }) ≡ None) (link_key u m) none))

    there_is_good : IsThere vector rows l.from → IsThere vector rows l.to
        → Each (λ u. row_fault table None u ≡ None) xs → (u : Update) × Member u (filter (is_above rows) xs)
        → MayBeTaken schema vector rows (Link l) (filter (is_above rows) xs)
    there_is_good from to none some = record {
      put = part_put (Link l) xs spelled (filter (is_above rows) xs) (λ v n. (kept v n).0)
          (λ v n. (kept v n).1) (λ d n death. absurd (no_death d (kept d n).0 death)) (λ o e. absurd (cc));
      keeps = (is_forward_link some.0 (kept some.0 some.1).0 (none some.0 (kept some.0 some.1).0), each_end);
      follows = part_follows (Link l) xs spelled (filter (is_above rows) xs) some (λ v n. (kept v n).0)
          (filtered_rise (is_above rows) xs spelled.rising) (λ v n. (kept v n).1) each_end;
    }
      where
        each_end : Each (λ o. IsThere vector rows o) (ends (LinkOf l))
        each_end o (inl e) = subst (IsThere vector rows) (sym e) from
        each_end o (inr (inl e)) = subst (IsThere vector rows) (sym e) to
        each_end o (inr (inr m)) = absurd m

    link_good : item_fault table vector rows link ≡ None
        → (u : Update) × Member u (rows_taken vector rows link)
        → MayBeTaken schema vector rows (Link l) (rows_taken vector rows link)
    link_good fault = by (is_lost_end vector rows l.from) refl (is_lost_end vector rows l.to) refl fault
      where
        by : (b : Bool) → is_lost_end vector rows l.from ≡ b → (c : Bool) → is_lost_end vector rows l.to ≡ c
            → first_of (map (row_fault table None) (cond (b || c) [] xs)) ≡ None
            → (u : Update) × Member u (cond (b || c) [] (filter (is_above rows) xs))
            → MayBeTaken schema vector rows (Link l) (cond (b || c) [] (filter (is_above rows) xs))
        by true is c to none some = absurd some.1
        by false is true to none some = absurd some.1
        by false is false to none some = there_is_good (there_where_untested vector rows l.from is)
            (there_where_untested vector rows l.to to)
            (λ u m. none_there (map (row_fault table None) xs) none (row_fault table None u) (member_mapped (row_fault table None) xs u m)) some

  good : (unit : Named) (xs : List Update) → IsSpelledItem (record { unit = unit; rows = xs })
      → item_fault table vector rows (record { unit = unit; rows = xs }) ≡ None
      → incomplete table vector rows (record { unit = unit; rows = xs }) ≡ None
      → (u : Update) × Member u (rows_taken vector rows (record { unit = unit; rows = xs }))
      → MayBeTaken schema vector rows unit (rows_taken vector rows (record { unit = unit; rows = xs }))
  good (Object o) xs spelled fault whole = object_good o xs spelled fault whole
  good (Link l) xs spelled fault whole = link_good l xs spelled fault

pub item_may : (schema : ℕ) (vector : Cursors) (rows : List Held) (place : ℕ) (i : Item) → AreRising rows
    → AreFormedRows (numbered schema) (updates_of rows) → IsSpelledItem i
    → item_refusal (numbered schema) vector rows place i ≡ None
    → (rows_taken vector rows i ≡ []) ⊎ MayBeTaken schema vector rows i.unit (rows_taken vector rows i)
item_may schema vector rows place i rising formed spelled none = by (some_or_none (rows_taken vector rows i))
  where
    parts : (option_map (BadItem place) (item_fault (numbered schema) vector rows i) ≡ None) × (incomplete (numbered schema) vector rows i ≡ None)
    parts = neither (option_map (BadItem place) (item_fault (numbered schema) vector rows i))
        (incomplete (numbered schema) vector rows i) none

    by : (rows_taken vector rows i ≡ []) ⊎ ((u : Update) × Member u (rows_taken vector rows i))
        → (rows_taken vector rows i ≡ []) ⊎ MayBeTaken schema vector rows i.unit (rows_taken vector rows i)
    by (inl e) = inl e
    by (inr some) = inr
        (good schema vector rows rising formed i.unit i.rows spelled (not_mapped (BadItem place) (item_fault (numbered schema) vector rows i) parts.0) parts.1 some)
