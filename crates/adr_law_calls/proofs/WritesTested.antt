-- The test of the writes tells whether they follow.
use Rattle.std.proofs.Common.{◌≡◌, inl, inr, ⊎_elim, List, [], ◌∷◌, Bool, true, false, refl, sym, ap, ◌∙◌, subst, not, ◌&&◌, ◌||◌}
use Rattle.std.specs.List.{list_all}
use Rattle.std.proofs.lemmas.Bool.{and_parts, and_from, or_parts, both_ways, not-true, leb-true, le-leb}
use Rattle.adr_values.specs.declared.stamp.Oid.{Oid}
use Rattle.adr_values.specs.declared.stamp.Unit.{Unit as Named}
use Rattle.adr_values.specs.declared.stamp.Unit.TheVariants.{Object, Link}
use Rattle.adr_values.specs.Table.{Table}
use Rattle.adr_values.specs.Vector.{Cursors, at}
use Rattle.adr_model.specs.Member.{Member, Each}
use Rattle.adr_model.specs.Update.{LinkOf, Update, ends, deleted_attr}
use Rattle.adr_model.specs.Reflects.{CoversBirth, HoldsObject, IsTombstoned}
use Rattle.adr_model.specs.Store.{Held, updates_of}
use Rattle.adr_model.specs.Change.{Item, Written}
use Rattle.adr_model.specs.Take.{is_above, is_of_attr, lacks, is_lost_end, Presence}
use Rattle.adr_law_calls.proofs.Standings.{each_presence, IsThere, there_where_untested, lost_where_tested, attr_itself}
use Rattle.adr_model.specs.Spelled.{IsSpelledItem}
use Rattle.adr_law_calls.specs.Follow.{MayWriteUnit, MayFollow, AreWithinLimits, MayFollowInTurn, after_write}
use Rattle.adr_law_calls.specs.Tested.{may_write_object, may_write_unit, may_follow, are_within_limits, may_follow_in_turn}
use Rattle.adr_law_calls.proofs.Whole.{row_of_attr, whole_where_tested, tested_where_whole}

-- ---- lists

module _ {A : Type 0} (test : A → Bool) where
  pub all_pass : (xs : List A) → list_all test xs ≡ true → Each (λ x. test x ≡ true) xs
  all_pass [] h x m = absurd m
  all_pass (y ∷ ys) h x (inl e) = ap test e ∙ (and_parts (test y) (list_all test ys) h).0
  all_pass (y ∷ ys) h x (inr m) = all_pass ys (and_parts (test y) (list_all test ys) h).1 x m

  pub passes_all : (xs : List A) → Each (λ x. test x ≡ true) xs → list_all test xs ≡ true
  passes_all [] each = refl
  passes_all (y ∷ ys) each = and_from (test y) (list_all test ys) (each y (inl refl))
      (passes_all ys (λ x m. each x (inr m)))

-- ---- where a write may go

module _ (table : Table) (vector : Cursors) (rows : List Held) where
  placed_where_tested : (unit : Named) (us : List Update) → IsSpelledItem (record { unit = unit; rows = us })
      → may_write_unit table vector rows unit us ≡ true → MayWriteUnit table vector rows unit us
  placed_where_tested (Object o) us spelled = each_presence vector rows o
      (λ (p : Presence). may_write_object table us p ≡ true → MayWriteUnit table vector rows (Object o) us)
      (λ t h. inl (t, λ u m. row_of_attr table o us spelled deleted_attr u m (all_pass (λ (v : Update). is_of_attr deleted_attr v.key) us h u m)))
      (λ alive holds h. inr (inl (alive, holds)))
      (λ absent covers h. absurd (both_ways false refl h))
      (λ absent missed h. inr (inr (absent, missed, whole_where_tested table o us spelled (not-true (lacks table us) h))))
  placed_where_tested (Link l) us spelled = λ h o m. by o
      (or_parts (is_lost_end vector rows l.from) (is_lost_end vector rows l.to) (not-true (is_lost_end vector rows l.from || is_lost_end vector rows l.to) h)) m
    where
      by : (o : Oid) → (is_lost_end vector rows l.from ≡ false) × (is_lost_end vector rows l.to ≡ false)
          → Member o (ends (LinkOf l)) → IsThere vector rows o
      by o p (inl e) = subst (IsThere vector rows) (sym e) (there_where_untested vector rows l.from p.0)
      by o p (inr (inl e)) = subst (IsThere vector rows) (sym e) (there_where_untested vector rows l.to p.1)
      by o p (inr (inr n)) = absurd n

  not_lost : (o : Oid) → IsThere vector rows o → is_lost_end vector rows o ≡ false
  not_lost o there = by (is_lost_end vector rows o) refl
    where
      by : (b : Bool) → is_lost_end vector rows o ≡ b → b ≡ false
      by false e = refl
      by true e = absurd
          (⊎_elim there.0 (λ t. ⊎_elim t.0 (λ m. m t.1) there.1) (lost_where_tested vector rows o e))

  tested_where_placed : (unit : Named) (us : List Update) → IsSpelledItem (record { unit = unit; rows = us })
      → MayWriteUnit table vector rows unit us → may_write_unit table vector rows unit us ≡ true
  tested_where_placed (Object o) us spelled placed = each_presence vector rows o
      (λ (p : Presence). may_write_object table us p ≡ true)
      (λ t. where_dead t placed)
      (λ alive holds. refl)
      (λ absent covers. where_gone absent covers placed)
      (λ absent missed. where_new absent placed)
    where
      holds_dead_one : IsTombstoned (updates_of rows) o → HoldsObject (updates_of rows) o
      holds_dead_one t = (t.0, deleted_attr, t.1, t.2)

      where_dead : IsTombstoned (updates_of rows) o → MayWriteUnit table vector rows (Object o) us
          → list_all (λ (u : Update). is_of_attr deleted_attr u.key) us ≡ true
      where_dead t (inl (u, only)) = passes_all (λ (u : Update). is_of_attr deleted_attr u.key) us
          (λ u m. attr_itself o deleted_attr u.key (only u m))
      where_dead t (inr (inl (alive, holds))) = absurd (alive t)
      where_dead t (inr (inr (absent, missed, whole))) = absurd (absent (holds_dead_one t))

      where_gone : (HoldsObject (updates_of rows) o → ⊥) → CoversBirth (at vector) o
          → MayWriteUnit table vector rows (Object o) us → false ≡ true
      where_gone absent covers (inl (t, only)) = absurd (absent (holds_dead_one t))
      where_gone absent covers (inr (inl (alive, holds))) = absurd (absent holds)
      where_gone absent covers (inr (inr (gone, missed, whole))) = absurd (missed covers)

      where_new : (HoldsObject (updates_of rows) o → ⊥) → MayWriteUnit table vector rows (Object o) us
          → not (lacks table us) ≡ true
      where_new absent (inl (t, only)) = absurd (absent (holds_dead_one t))
      where_new absent (inr (inl (alive, holds))) = absurd (absent holds)
      where_new absent (inr (inr (gone, missed, whole))) = ap not
          (tested_where_whole table o us spelled whole)
  tested_where_placed (Link l) us spelled placed = ap not
      (both (is_lost_end vector rows l.from) (is_lost_end vector rows l.to) (not_lost l.from (placed l.from (inl refl))) (not_lost l.to (placed l.to (inr (inl refl)))))
    where
      both : (a b : Bool) → a ≡ false → b ≡ false → (a || b) ≡ false
      both a b e f = ap (λ x. x || b) e ∙ f

  -- ---- one write

  follows_where_tested : (item : Item) → IsSpelledItem item × ((u : Update) × Member u item.rows)
      → may_follow table vector rows item ≡ true → MayFollow table vector rows item
  follows_where_tested item form h =
      let p = and_parts (list_all (is_above rows) item.rows) (may_write_unit table vector rows item.unit item.rows) h in
      record { some = form.1; form = form.0; greater = all_pass (is_above rows) item.rows p.0; unit = placed_where_tested item.unit item.rows form.0 p.1 }

  tested_where_follows : (item : Item) → MayFollow table vector rows item
      → may_follow table vector rows item ≡ true
  tested_where_follows item f = and_from (list_all (is_above rows) item.rows)
      (may_write_unit table vector rows item.unit item.rows)
      (passes_all (is_above rows) item.rows f.greater) (tested_where_placed item.unit item.rows f.form f.unit)

-- ---- all writes

pub few_where_tested : (rows : List Held) → are_within_limits rows ≡ true → AreWithinLimits rows
few_where_tested rows h = let p = and_parts _ _ h in (leb-true _ _ p.0, leb-true _ _ p.1)

pub tested_where_few : (rows : List Held) → AreWithinLimits rows → are_within_limits rows ≡ true
tested_where_few rows few = and_from _ _ (le-leb _ _ few.0) (le-leb _ _ few.1)

pub following_where_tested : (table : Table) (vector : Cursors) (rows : List Held) (ws : List Written)
    → Each (λ (w : Written). IsSpelledItem w.item × ((u : Update) × Member u w.item.rows)) ws
    → may_follow_in_turn table vector rows ws ≡ true → MayFollowInTurn table vector rows ws
following_where_tested table vector rows [] form h = tt
following_where_tested table vector rows (w ∷ ws) form h =
    let p = and_parts (may_follow table vector rows w.item && are_within_limits (after_write rows w)) (may_follow_in_turn table vector (after_write rows w) ws) h in
    let q = and_parts (may_follow table vector rows w.item) (are_within_limits (after_write rows w)) p.0 in
    (follows_where_tested table vector rows w.item (form w (inl refl)) q.0, few_where_tested (after_write rows w) q.1, following_where_tested table vector (after_write rows w) ws (λ v m. form v (inr m)) p.1)

pub tested_where_following : (table : Table) (vector : Cursors) (rows : List Held) (ws : List Written)
    → MayFollowInTurn table vector rows ws → may_follow_in_turn table vector rows ws ≡ true
tested_where_following table vector rows [] f = refl
tested_where_following table vector rows (w ∷ ws) f = and_from
    (may_follow table vector rows w.item && are_within_limits (after_write rows w))
    (may_follow_in_turn table vector (after_write rows w) ws)
    (and_from (may_follow table vector rows w.item) (are_within_limits (after_write rows w)) (tested_where_follows table vector rows w.item f.0) (tested_where_few (after_write rows w) f.1))
    (tested_where_following table vector (after_write rows w) ws f.2)
