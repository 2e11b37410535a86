-- No item of a sound reply is broken, and none that has a row is incomplete.
use Rattle.std.proofs.Common.{◌≡◌, ◌⊎◌, inl, inr, ℕ, List, [], Bool, true, false, cond, Option, Some, None, IsSome, unwrap_or, refl, sym, ap, ◌∙◌, subst, not, ◌||◌, ◌&&◌, ◌==◌, map}
use Rattle.std.specs.List.{list_any}
use Rattle.std.specs.Bool.{then_some}
use Rattle.std.specs.Option.{option_and_then, option_or}
use Rattle.std.proofs.lemmas.Bool.{eq-eqb, both_ways}
use Rattle.adr_values.specs.declared.stamp.Oid.{Oid}
use Rattle.adr_values.specs.declared.stamp.LinkKey.{LinkKey}
use Rattle.adr_values.specs.declared.stamp.Unit.{Unit as Named}
use Rattle.adr_values.specs.declared.stamp.Unit.TheVariants.{Object, Link}
use Rattle.adr_values.specs.declared.content.Content.TheVariants.{Class}
use Rattle.adr_values.specs.Numbered.{numbered}
use Rattle.adr_values.specs.Table.{has, must_of, class_at}
use Rattle.adr_values.specs.Vector.{at}
use Rattle.adr_call.specs.declared.refusal.TakeRefusal.TheVariants.{Incomplete}
use Rattle.adr_model.specs.Member.{Member, Each}
use Rattle.adr_values.specs.First.{first_of}
use Rattle.adr_model.specs.Update.{RowOf, Update, Said, Holds, class_attr, name_attr, deleted_attr}
use Rattle.adr_model.specs.Reflects.{CoversBirth, IsDeathOf, HoldsObject, IsTombstoned}
use Rattle.adr_model.specs.Store.{Held, State, updates_of, row_held}
use Rattle.adr_model.specs.Change.{Item}
use Rattle.adr_model.specs.Formed.{IsNamed}
use Rattle.adr_model.specs.Serve.{Reply}
use Rattle.adr_model.specs.Take.{is_of_attr, has_row, left_by_death, is_lost_end, rows_tested, row_fault, class_said, class_among, class_of_item, item_fault, lacks, Presence, object_rows_tested, object_lacks, incomplete}
use Rattle.adr_model.specs.Replica.{Book}
use Rattle.adr_model.specs.Sound.{IsExact}
use Rattle.adr_model.proofs.Members.{found, none_passes, one_passes}
use Rattle.adr_law_calls.specs.Forms.{HasKey, IsWellSaid, MayCome}
use Rattle.adr_law_calls.specs.OnTheWay.{IsTakeable, source_rows, AreOnTheWay}
use Rattle.adr_law_calls.proofs.Rows.{updated, held_as, link_of_unit}
use Rattle.adr_law_calls.proofs.Tests.{IsFound, row_found}
use Rattle.adr_law_calls.proofs.Standings.{each_presence, attr_itself, tested_where_has, left_from}
use Rattle.adr_law_calls.proofs.Rising.{one_update}
use Rattle.adr_law_calls.proofs.OnTheWay.{source_formed}
use Rattle.adr_law_calls.proofs.ItemRows.{in_source, item_units, item_one, row_key, row_of_attr, said_of_held, class_is_known}
use Rattle.adr_law_calls.proofs.ItemPut.{named, may_come, some_or_none}
use Rattle.adr_law_calls.proofs.RowPasses.{none_first, row_passes, link_passes}

class_of_said : (said : Said) (class : ℕ) → said ≡ Holds (Class class) → class_said said ≡ Some class
class_of_said said class e = ap class_said e

-- an object that comes whole lacks nothing
module _ (schema : ℕ) (before : List Update) (o : Oid) (class : ℕ) (xs : List Update) (may : MayCome (numbered schema) before o class (left_by_death xs)) where
  has_key : (attr : ℕ) → HasKey (left_by_death xs) o attr → has_row attr xs ≡ true
  has_key attr (u, m, e) = tested_where_has attr xs u (left_from xs u m) (attr_itself o attr u.key e)

  must_be_there : (classes : Option ℕ) → classes ≡ Some class → has_row deleted_attr xs ≡ false → list_any (λ attr. not (has_row attr xs)) (must_of (numbered schema) (unwrap_or classes 0)) ≡ false
  must_be_there classes is alive = by may.whole
    where
      by : ((d : Update) × Member d (left_by_death xs) × IsDeathOf o d) ⊎ ((attr : ℕ) → has (must_of (numbered schema) class) attr ≡ true → HasKey (left_by_death xs) o attr)
          → list_any (λ attr. not (has_row attr xs)) (must_of (numbered schema) (unwrap_or classes 0)) ≡ false
      by (inl death) = absurd (both_ways (has_row deleted_attr xs) alive (has_key deleted_attr death))
      by (inr whole) = subst (λ (c : Option ℕ). list_any (λ attr. not (has_row attr xs)) (must_of (numbered schema) (unwrap_or c 0)) ≡ false) (sym is)
          (none_passes (λ attr. not (has_row attr xs)) (must_of (numbered schema) class) (λ attr m. ap not (has_key attr (whole attr (one_passes (λ n. n == attr) (must_of (numbered schema) class) attr m (eq-eqb attr attr refl))))))

  lacks_nothing : class_among xs ≡ Some class → lacks (numbered schema) xs ≡ false
  lacks_nothing is = by (has_row class_attr xs) (has_key class_attr may.of_class) (has_row name_attr xs) (has_key name_attr may.of_name) (has_row deleted_attr xs) refl
    where
      by : (c : Bool) → c ≡ true → (n : Bool) → n ≡ true → (d : Bool) → has_row deleted_attr xs ≡ d
          → (not c || not n || (not d && list_any (λ attr. not (has_row attr xs)) (must_of (numbered schema) (unwrap_or (class_among xs) 0)))) ≡ false
      by true e true f true dead = refl
      by true e true f false alive = must_be_there (class_among xs) is alive
      by true e false f d dead = absurd (both_ways false refl f)
      by false e n f d dead = absurd (both_ways false refl e)

module _ (book : Book) (s : State) (r : Reply) (may : IsTakeable book s r) (rows : List Held) (way : AreOnTheWay book s rows) where
  module _ (o : Oid) (xs : List Update) (exact : IsExact (source_rows book r) r (record { unit = Object o; rows = xs })) where
    abbrev item : Item
    item = record { unit = Object o; rows = xs }

    abbrev IsSound : List Update → Type 0
    IsSound tested = first_of (map (row_fault (numbered s.store.schema) (class_of_item rows item)) tested) ≡ None

    -- rows that keep to the class of the item's object have no fault
    keep_to : (class : ℕ) → class_of_item rows item ≡ Some class → (us : List Update) → Each (λ u. Member u xs) us
        → Each (λ u. IsSome (class_at (numbered s.store.schema) class) × IsWellSaid (numbered s.store.schema) class o u) us → IsSound us
    keep_to class is us among well = none_first (row_fault (numbered s.store.schema) (class_of_item rows item)) us sound
      where
        sound : Each (λ u. row_fault (numbered s.store.schema) (class_of_item rows item) u ≡ None) us
        sound u m = let k = row_key book s r may item exact rows way o refl u (among u m) in
            subst (λ c. row_fault (numbered s.store.schema) c u ≡ None) (sym is) (row_passes (numbered s.store.schema) class (well u m).0 o u k.0 k.1 (well u m).1)

    held_class : (holds : HoldsObject (updates_of rows) o) → class_of_item rows item ≡ Some (way.formed.named o holds).class
    held_class holds = by (row_found rows (RowOf o class_attr))
      where
        here : IsNamed (updates_of rows) o
        here = way.formed.named o holds

        by : IsFound rows (RowOf o class_attr) (row_held rows (RowOf o class_attr)) → class_of_item rows item ≡ Some (way.formed.named o holds).class
        by (inl (h, m, e, f)) =
            let same : here.of_class.0 ≡ h.update = one_update rows way.rising here.of_class.0 here.of_class.1 h.update (updated rows h m) (here.of_class.2 ∙ sym e) in
            ap (λ (p : Option Held). option_or (option_and_then (λ x. class_said x.update.said) p) (class_among xs)) f
            ∙ ap (λ (c : Option ℕ). option_or c (class_among xs)) (class_of_said h.update.said here.class (ap (λ (u : Update). u.said) (sym same) ∙ here.of_class.3))
        by (inr (none, f)) = let h = held_as rows here.of_class.0 here.of_class.1 in absurd (none h.0 h.1 (ap (λ (u : Update). u.key) (sym h.2) ∙ here.of_class.2))

    where_held : (IsTombstoned (updates_of rows) o → ⊥) → HoldsObject (updates_of rows) o → IsSound xs
    where_held alive holds = keep_to (way.formed.named o holds).class (held_class holds) xs (λ u m. m) (λ u m. (class_is_known book s r may item exact rows way o refl holds u m, said_of_held book s r may item exact rows way o refl holds u m))

    module _ (absent : HoldsObject (updates_of rows) o → ⊥) (missed : CoversBirth (at s.store.vector) o → ⊥) (first : Update) (there : Member first xs) where
      abbrev class : ℕ
      class = (named book s r may rows way o xs exact absent missed first there).class

      come : MayCome (numbered s.store.schema) (updates_of rows) o class (left_by_death xs)
      come = may_come book s r may rows way o xs exact absent missed first there

      said_class : class_among xs ≡ Some class
      said_class =
          let b = come.of_class in
          let n = left_from xs b.0 b.1 in
          ap (λ (p : Option Update). option_and_then (λ u. class_said u.said) p)
          (found (λ (u : Update). is_of_attr class_attr u.key) xs b.0 n (attr_itself o class_attr b.0.key b.2)
          (λ u m is. item_one book s r may item exact u m b.0 n (row_of_attr book s r may item exact rows way o refl class_attr u m is ∙ sym b.2)))
          ∙ class_of_said b.0.said class ((come.said b.0 b.1).of_class b.2).0

      new_class : class_of_item rows item ≡ Some class
      new_class = by (row_found rows (RowOf o class_attr))
        where
          by : IsFound rows (RowOf o class_attr) (row_held rows (RowOf o class_attr)) → class_of_item rows item ≡ Some class
          by (inl (h, m, e, f)) = absurd (absent (h.update, class_attr, updated rows h m, e))
          by (inr (none, f)) = ap (λ (p : Option Held). option_or (option_and_then (λ x. class_said x.update.said) p) (class_among xs)) f ∙ said_class

      new_is_sound : IsSound (left_by_death xs)
      new_is_sound = keep_to class new_class (left_by_death xs) (left_from xs) (λ u m. (come.known, come.said u m))

      new_is_whole : then_some (lacks (numbered s.store.schema) xs) (Incomplete o) ≡ None
      new_is_whole = ap (λ b. then_some b (Incomplete o)) (lacks_nothing s.store.schema (updates_of rows) o class xs come said_class)

    where_new : (HoldsObject (updates_of rows) o → ⊥) → (CoversBirth (at s.store.vector) o → ⊥) → IsSound (left_by_death xs)
    where_new absent missed = by (some_or_none xs)
      where
        by : (xs ≡ []) ⊎ ((u : Update) × Member u xs) → IsSound (left_by_death xs)
        by (inl e) = ap (λ us. first_of (map (row_fault (numbered s.store.schema) (class_of_item rows item)) (left_by_death us))) e
        by (inr (u, m)) = new_is_sound absent missed u m

    object_sound : IsSound (rows_tested s.store.vector rows item)
    object_sound = each_presence s.store.vector rows o (λ (p : Presence). IsSound (object_rows_tested xs p)) (λ tombstone. refl) where_held (λ absent covers. refl) where_new

    object_whole : (u : Update) → Member u xs → incomplete (numbered s.store.schema) s.store.vector rows item ≡ None
    object_whole u m = each_presence s.store.vector rows o (λ (p : Presence). then_some (object_lacks (numbered s.store.schema) xs p) (Incomplete o) ≡ None)
        (λ tombstone. refl) (λ alive holds. refl) (λ absent covers. refl) (λ absent missed. new_is_whole absent missed u m)

  module _ (l : LinkKey) (xs : List Update) (exact : IsExact (source_rows book r) r (record { unit = Link l; rows = xs })) where
    abbrev link : Item
    link = record { unit = Link l; rows = xs }

    link_sound : item_fault (numbered s.store.schema) s.store.vector rows link ≡ None
    link_sound = by (is_lost_end s.store.vector rows l.from || is_lost_end s.store.vector rows l.to)
      where
        sound : Each (λ u. row_fault (numbered s.store.schema) None u ≡ None) xs
        sound u m =
            let key = link_of_unit u.key l (item_units book s r may link exact u m) in
            link_passes (numbered s.store.schema) l u key ((source_formed book s r may).links l u (in_source book s r may link exact u m) key).forward

        by : (b : Bool) → first_of (map (row_fault (numbered s.store.schema) None) (cond b [] xs)) ≡ None
        by true = refl
        by false = none_first (row_fault (numbered s.store.schema) None) xs sound

  pub item_is_sound : (unit : Named) (xs : List Update) → IsExact (source_rows book r) r (record { unit = unit; rows = xs }) → item_fault (numbered s.store.schema) s.store.vector rows (record { unit = unit; rows = xs }) ≡ None
  item_is_sound (Object o) xs exact = object_sound o xs exact
  item_is_sound (Link l) xs exact = link_sound l xs exact

  -- an item without a row, of an object that was never seen, is incomplete
  pub item_is_whole : (unit : Named) (xs : List Update) → IsExact (source_rows book r) r (record { unit = unit; rows = xs }) → (u : Update) → Member u xs
      → incomplete (numbered s.store.schema) s.store.vector rows (record { unit = unit; rows = xs }) ≡ None
  item_is_whole (Object o) xs exact u m = object_whole o xs exact u m
  item_is_whole (Link l) xs exact u m = refl
