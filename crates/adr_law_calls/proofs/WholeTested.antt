-- The whole test tells what can follow.
use Rattle.std.proofs.Common.{◌≡◌, ◌⊎◌, ◌==◌, eq-eqb, inl, inr, ℕ, List, [], ◌∷◌, Bool, true, false, Option, Some, None, refl, sym, ap, ◌∙◌, subst, not, ◌&&◌, ◌||◌, length}
use Rattle.std.specs.Prelude.{nat_le, is_none}
use Rattle.std.specs.Option.{option_map_or}
use Rattle.std.proofs.lemmas.Bool.{and_parts, and_from, both_ways, not-true, leb-true, le-leb, eqb-true, or_left, or_right}
use Rattle.adr_values.specs.declared.stamp.Oid.{Oid}
use Rattle.adr_values.specs.declared.stamp.LinkKey.{LinkKey}
use Rattle.adr_values.specs.declared.stamp.Unit.{Unit as Named}
use Rattle.adr_values.specs.declared.stamp.Unit.TheVariants.{Object, Link}
use Rattle.adr_values.specs.Numbered.{numbered}
use Rattle.adr_values.specs.Table.{Table, kind_at, is_forward}
use Rattle.adr_values.specs.Vector.{Cursors, at, at_most, cursor_limit}
use Rattle.adr_values.proofs.Comparing.{everywhere_from_at_most, at_most_from_everywhere}
use Rattle.adr_model.specs.Member.{Member}
use Rattle.adr_model.specs.Update.{Update, RowOf, LinkOf, inv_of, usn_of, deleted_attr, class_attr}
use Rattle.adr_model.specs.Reflects.{HoldsObject}
use Rattle.adr_model.specs.Visible.{covers_update, covers_birth}
use Rattle.adr_model.specs.Store.{Held, State, updates_of, row_held, holds_object}
use Rattle.adr_model.specs.Change.{Written, Change, held_of, rows_after, after}
use Rattle.adr_model.specs.Serve.{is_quarantined}
use Rattle.adr_model.specs.Formed.{AreRising, IsFormed}
use Rattle.adr_model.specs.Take.{mark_limit}
use Rattle.adr_law_calls.proofs.Rows.{updated, held_as}
use Rattle.adr_law_calls.proofs.Order.{puts_rise}
use Rattle.adr_law_calls.proofs.Tests.{IsFound, row_found, holds_where_tested, lacks_where_untested}
use Rattle.adr_law_knowledge.proofs.RisingHeld.{removals_rise}
use Rattle.adr_law_calls.proofs.Stamps.{row_held_is}
use Rattle.adr_law_calls.specs.Follow.{IsRemovable, HasKnownClasses, CanFollow}
use Rattle.adr_law_calls.specs.Touched.{IsInForm, AreTouchedInForm, CanFollowByTouched}
use Rattle.adr_model.specs.Spelled.{IsSpelledChange}
use Rattle.adr_model.specs.Upgrade.{upgraded}
use Rattle.adr_law_calls.specs.Tested.{is_empty, is_upgraded, may_follow_in_turn, is_removable, are_removable, is_object_formed, is_touched_formed, are_touched_formed, comes_after, are_in_order, writes_pass, can_follow}
use Rattle.adr_law_calls.proofs.Passed.{normal_where_not_quarantined}
use Rattle.adr_law_calls.proofs.WritesTested.{all_pass, passes_all, following_where_tested, tested_where_following}
use Rattle.adr_law_calls.proofs.UnitTested.{unit_where_tested, tested_where_unit}
use Rattle.adr_law_calls.proofs.ByTouched.{touched_is_enough, touched_is_asked}

-- ---- removed objects

removable_where_tested : (rows : List Held) (purged : Cursors) (o : Oid) → is_removable rows purged o ≡ true
    → IsRemovable rows purged o
removable_where_tested rows purged o h = by (row_found rows (RowOf o deleted_attr)) h
  where
    by : IsFound rows (RowOf o deleted_attr) (row_held rows (RowOf o deleted_attr))
        → is_removable rows purged o ≡ true → IsRemovable rows purged o
    by (inr (none, f)) t = absurd
        (both_ways (is_removable rows purged o) (ap (λ (p : Option Held). option_map_or (λ x. covers_birth purged o && covers_update purged x.update) p false) f) t)
    by (inl (x, m, e, f)) t =
        let p = and_parts (covers_birth purged o) (covers_update purged x.update) (sym (ap (λ (q : Option Held). option_map_or (λ y. covers_birth purged o && covers_update purged y.update) q false) f) ∙ t) in
        record { death = x.update; is_held = updated rows x m; is_death = e; birth_purged = leb-true o.birth.usn (at purged o.birth.inv) p.0; death_purged = leb-true (usn_of x.update) (at purged (inv_of x.update)) p.1 }

tested_where_removable : (rows : List Held) (purged : Cursors) (o : Oid) → AreRising rows
    → IsRemovable rows purged o → is_removable rows purged o ≡ true
tested_where_removable rows purged o rising r =
    let x = held_as rows r.death r.is_held in
    let key = ap (λ (u : Update). u.key) (sym x.2) ∙ r.is_death in
    ap (λ (p : Option Held). option_map_or (λ y. covers_birth purged o && covers_update purged y.update) p false) (row_held_is rows rising (RowOf o deleted_attr) x.0 x.1 key)
    ∙ and_from (covers_birth purged o) (covers_update purged x.0.update)
    (le-leb o.birth.usn (at purged o.birth.inv) r.birth_purged)
    (subst (λ (u : Update). covers_update purged u ≡ true) x.2 (le-leb (usn_of r.death) (at purged (inv_of r.death)) r.death_purged))

-- ---- touched units

module _ (schema : ℕ) (rows : List Held) (rising : AreRising rows) where
  abbrev table : Table
  table = numbered schema

  nothing_formed : (o : Oid) → (HoldsObject (updates_of rows) o → ⊥) → IsInForm table (updates_of rows) o
  nothing_formed o absent = record {
    none = λ r m is. absent (r, 0, m, is);
    births = λ r m is. absurd (absent (r, class_attr, m, is));
    classes = λ r m is. absurd (absent (r, class_attr, m, is));
    named = λ h. absurd (absent h);
    formed = λ h. absurd (absent h);
  }

  object_tells : (o : Oid) → is_touched_formed table rows (Object o) ≡ true
      → IsInForm table (updates_of rows) o
  object_tells o h = by (holds_object rows o) refl h
    where
      by : (b : Bool) → holds_object rows o ≡ b → (not b || is_object_formed table rows o) ≡ true
          → IsInForm table (updates_of rows) o
      by true is t = unit_where_tested schema rows rising o t
      by false is t = nothing_formed o (lacks_where_untested rows o is)

  object_passes : (o : Oid) → IsInForm table (updates_of rows) o
      → is_touched_formed table rows (Object o) ≡ true
  object_passes o f = by (holds_object rows o) refl
    where
      by : (b : Bool) → holds_object rows o ≡ b → (not b || is_object_formed table rows o) ≡ true
      by true is = tested_where_unit schema rows rising o f (holds_where_tested rows o is)
      by false is = refl

  abbrev IsForwardLink : LinkKey → Type 0
  IsForwardLink l = (r : Update) → Member r (updates_of rows) → r.key ≡ LinkOf l → is_forward
      (kind_at table l.attr) ≡ true

  link_tells : (l : LinkKey) → is_touched_formed table rows (Link l) ≡ true → IsForwardLink l
  link_tells l h r m is = by (row_held rows (LinkOf l)) held h
    where
      x : (y : Held) × Member y rows × (r ≡ y.update)
      x = held_as rows r m

      held : row_held rows (LinkOf l) ≡ Some x.0
      held = row_held_is rows rising (LinkOf l) x.0 x.1 (ap (λ (u : Update). u.key) (sym x.2) ∙ is)

      by : (p : Option Held) → p ≡ Some x.0 → (is_none p || is_forward (kind_at table l.attr)) ≡ true
          → is_forward (kind_at table l.attr) ≡ true
      by None e t = absurd (cc)
      by (Some y) e t = t

  link_passes : (l : LinkKey) → IsForwardLink l → is_touched_formed table rows (Link l) ≡ true
  link_passes l f = by (row_held rows (LinkOf l)) (row_found rows (LinkOf l))
    where
      by : (p : Option Held) → IsFound rows (LinkOf l) p
          → (is_none p || is_forward (kind_at table l.attr)) ≡ true
      by p (inl (x, m, e, g)) = subst
          (λ (q : Option Held). (is_none q || is_forward (kind_at table l.attr)) ≡ true) (sym g)
          (f x.update (updated rows x m) e)
      by p (inr (none, g)) = subst
          (λ (q : Option Held). (is_none q || is_forward (kind_at table l.attr)) ≡ true) (sym g) refl

  touched_tells : (c : Change) → are_touched_formed table rows c.writes ≡ true
      → AreTouchedInForm table (updates_of rows) c
  touched_tells c h = record {
    objects = λ w m o e. object_tells o
        (subst (λ u. is_touched_formed table rows u ≡ true) e (all_pass (λ (v : Written). is_touched_formed table rows v.item.unit) c.writes h w m));
    links = λ w m l e. link_tells l
        (subst (λ u. is_touched_formed table rows u ≡ true) e (all_pass (λ (v : Written). is_touched_formed table rows v.item.unit) c.writes h w m));
  }

  touched_passes : (c : Change) → AreTouchedInForm table (updates_of rows) c
      → are_touched_formed table rows c.writes ≡ true
  touched_passes c f = passes_all (λ (w : Written). is_touched_formed table rows w.item.unit) c.writes
      (λ w m. by w m w.item.unit refl)
    where
      by : (w : Written) → Member w c.writes → (u : Named) → w.item.unit ≡ u
          → is_touched_formed table rows u ≡ true
      by w m (Object o) e = object_passes o (f.objects w m o e)
      by w m (Link l) e = link_passes l (f.links w m l e)

-- ---- the whole

module _ (s : State) (c : Change) (formed : IsFormed s) where
  written_rise : AreRising (rows_after [] (held_of c.writes) s.store.rows)
  written_rise = puts_rise s.store.rows (held_of c.writes) formed.store.rising

  rows_rise : AreRising (after s c).store.rows
  rows_rise = removals_rise c.removed (rows_after [] (held_of c.writes) s.store.rows) written_rise

-- whether only an upgrade changes the schema
empty_where_tested : {A : Type 0} (xs : List A) → is_empty xs ≡ true → xs ≡ []
empty_where_tested [] h = refl
empty_where_tested (x ∷ xs) h = cc

none_where_tested : {A : Type 0} (o : Option A) → is_none o ≡ true → o ≡ None
none_where_tested None h = refl
none_where_tested (Some x) h = cc

is_change : (s : State) (c : Change) → is_upgraded s c ≡ true → c ≡ upgraded s
is_change s c h =
    let a = and_parts _ _ h in
    let b = and_parts _ _ a.0 in
    let d = and_parts _ _ b.0 in
    let e = and_parts (c.usn == s.store.usn) _ d.0 in
    let l = and_parts _ _ a.1 in
    let m = and_parts _ _ l.0 in
    let n = and_parts _ _ m.0 in
    let o = and_parts _ _ n.0 in
    let usn = eqb-true c.usn s.store.usn e.0 in
    let mode = normal_where_not_quarantined c.mode (not-true (is_quarantined c.mode) e.1) in
    let schema = eqb-true c.schema 2 d.1 in
    let mark = none_where_tested c.mark b.1 in
    let joined = empty_where_tested c.joined o.0 in
    let times = empty_where_tested c.times o.1 in
    let purged = empty_where_tested c.purged n.1 in
    let removed = empty_where_tested c.removed m.1 in
    let writes = empty_where_tested c.writes l.1 in
    λ i. record { usn = usn i; mode = mode i; schema = schema i; mark = mark i; joined = joined i; times = times i; purged = purged i; removed = removed i; writes = writes i }

schema_where_tested : (s : State) (c : Change) → ((c.schema == s.store.schema) || is_upgraded s c) ≡ true → (c.schema ≡ s.store.schema) ⊎ (c ≡ upgraded s)
schema_where_tested s c h = by (c.schema == s.store.schema) refl h
  where
    by : (b : Bool) → (c.schema == s.store.schema) ≡ b → (b || is_upgraded s c) ≡ true → (c.schema ≡ s.store.schema) ⊎ (c ≡ upgraded s)
    by true e g = inl (eqb-true c.schema s.store.schema e)
    by false e g = inr (is_change s c g)

tested_where_schema : (s : State) (c : Change) → (c.schema ≡ s.store.schema) ⊎ (c ≡ upgraded s) → ((c.schema == s.store.schema) || is_upgraded s c) ≡ true
tested_where_schema s c (inl e) = or_left _ _ (eq-eqb c.schema s.store.schema e)
tested_where_schema s c (inr e) = subst (λ (d : Change). ((d.schema == s.store.schema) || is_upgraded s d) ≡ true) (sym e) (or_right _ _ (ap (λ b. b && true && true && true && true) (eq-eqb s.store.usn s.store.usn refl)))

pub follows_where_tested : (s : State) (c : Change) → IsFormed s → HasKnownClasses s
    → IsSpelledChange s.store.usn c → can_follow s c ≡ true → CanFollow s c
follows_where_tested s c formed known spelled h =
    let table = numbered s.store.schema in
    let written = rows_after [] (held_of c.writes) s.store.rows in
    let left = (after s c).store in
    let schema = (c.schema == s.store.schema) || is_upgraded s c in
    let whole = and_parts (comes_after s c && schema && are_in_order s c) (writes_pass s c) h in
    let numbers = and_parts (comes_after s c && schema) (are_in_order s c) whole.0 in
    let first = and_parts (comes_after s c) schema numbers.0 in
    let on = and_parts (not (is_quarantined s.mode)) (nat_le s.store.usn c.usn) first.0 in
    let marks = and_parts _ (nat_le (length left.marks) mark_limit) numbers.1 in
    let cursors = and_parts _ (nat_le (length left.vector) cursor_limit) marks.0 in
    let vectors = and_parts (nat_le (at c.joined s.inv) c.usn) (at_most c.purged left.vector) cursors.0 in
    let touched = and_parts _ (are_touched_formed (numbered c.schema) left.rows c.writes) whole.1 in
    let writes = and_parts (may_follow_in_turn table s.store.vector s.store.rows c.writes) (are_removable written left.purged c.removed) touched.0 in
    touched_is_enough s c formed known (record {
      goes_on = record {
        normal = normal_where_not_quarantined s.mode (not-true (is_quarantined s.mode) on.0);
        rises = leb-true s.store.usn c.usn on.1;
        locals = spelled.locals;
        mark = spelled.mark;
        schema = schema_where_tested s c first.1;
        joined = spelled.joined;
        times = spelled.times;
        purged = spelled.purged;
        writes = following_where_tested table s.store.vector s.store.rows c.writes spelled.items writes.0;
        removed = λ o m. removable_where_tested written left.purged o
            (all_pass (is_removable written left.purged) c.removed writes.1 o m);
      };
      touched = touched_tells c.schema left.rows (rows_rise s c formed) c touched.1;
      own = leb-true (at c.joined s.inv) c.usn vectors.0;
      within = everywhere_from_at_most c.purged left.vector vectors.1;
      cursors = leb-true (length left.vector) cursor_limit cursors.1;
      marks = leb-true (length left.marks) mark_limit marks.1;
    })

pub tested_where_follows : (s : State) (c : Change) → IsFormed s → CanFollow s c → can_follow s c ≡ true
tested_where_follows s c formed can =
    let f : CanFollowByTouched s c = touched_is_asked s c formed can in
    let table = numbered s.store.schema in
    let written = rows_after [] (held_of c.writes) s.store.rows in
    let left = (after s c).store in
    let on : comes_after s c ≡ true = and_from _ _
    (ap (λ m. not (is_quarantined m)) f.goes_on.normal)
    (le-leb s.store.usn c.usn f.goes_on.rises) in
    let ordered : are_in_order s c ≡ true = and_from _ _ (and_from _ _ (and_from _ _
    (le-leb (at c.joined s.inv) c.usn f.own)
    (at_most_from_everywhere c.purged left.vector f.goes_on.purged.rising f.within))
    (le-leb (length left.vector) cursor_limit f.cursors))
    (le-leb (length left.marks) mark_limit f.marks) in
    let removed : are_removable written left.purged c.removed ≡ true = passes_all (is_removable written left.purged) c.removed
    (λ o m. tested_where_removable written left.purged o (written_rise s c formed) (f.goes_on.removed o m)) in
    let writes : writes_pass s c ≡ true = and_from _ _ (and_from _ _
    (tested_where_following table s.store.vector s.store.rows c.writes f.goes_on.writes)
    removed)
    (touched_passes c.schema left.rows (rows_rise s c formed) c f.touched) in
    and_from _ _ (and_from _ _ (and_from _ _ on (tested_where_schema s c f.goes_on.schema)) ordered) writes
