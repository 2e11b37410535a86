-- A collection of a formed state: the change can follow it, and leaves a formed one.
use Rattle.std.proofs.Common.{◌≡◌, ℕ, List, [], ◌∷◌, false, Option, Some, None, refl, sym, ap, ◌∙◌, subst, arith, map, fold, filter_map, Ok, inl}
use Rattle.std.specs.Prelude.{nat_lt}
use Rattle.std.specs.Bool.{then_some}
use Rattle.std.specs.List.{AllByRecursion, cons_option}
use Rattle.std.specs.List.Sorted.{IsStrictlySortedBy}
use Rattle.std.specs.Ordering.{nat_cmp, ordering_then}
use Rattle.std.specs.declared.cmp.Ordering.{Ordering}
use Rattle.std.specs.declared.cmp.Ordering.TheVariants.{Less, Equal, Greater}
use Rattle.adr_values.specs.Order.{object_order}
use Rattle.adr_values.specs.declared.stamp.Oid.{Oid}
use Rattle.adr_values.proofs.ExactCalls.{not_then}
use Rattle.adr_values.specs.Vector.{Cursors, IsVector, at, raised}
use Rattle.adr_values.proofs.Cursors.{FromOne}
use Rattle.adr_values.proofs.Joining.{from_one-raised}
use Rattle.adr_call.specs.declared.refusal.CollectRefusal.TheVariants.{Quarantined as IsQuarantined, UsnLimit}
use Rattle.adr_model.specs.Member.{Member, Each}
use Rattle.adr_model.specs.Update.{Key, RowOf, Update, inv_of, usn_of, key_order, deleted_attr}
use Rattle.adr_model.specs.Reflects.{Covers, CoversBirth}
use Rattle.adr_model.specs.Store.{Held, State, updates_of}
use Rattle.adr_model.specs.Serve.{is_quarantined}
use Rattle.adr_model.specs.Change.{Change}
use Rattle.adr_model.specs.Formed.{AreRising, IsFormed}
use Rattle.adr_model.specs.Write.{usn_limit}
use Rattle.adr_model.specs.Collect.{collected_by, deaths_to_collect, covering, collection, collect_refusal, collect}
use Rattle.adr_model.proofs.Members.{mapped_member}
use Rattle.adr_law_knowledge.proofs.Refusing.{answered}
use Rattle.adr_law_calls.proofs.Rows.{updated}
use Rattle.adr_law_calls.specs.Collectable.{IsCollectable}
use Rattle.adr_law_knowledge.proofs.Fewer.{no_more_cursors}
use Rattle.adr_law_calls.proofs.Collections.{collecting}
use Rattle.adr_law_calls.proofs.Covering.{covering_within, covering_rises}
use Rattle.adr_law_calls.proofs.Removing.{update_stood}
use Rattle.adr_law_calls.proofs.CollectionFollows.{collect_is_collection}
use Rattle.adr_law_calls.proofs.Deaths.{with_death, collected_dies}
use Rattle.adr_law_calls.proofs.CollectionFormed.{collectable, covered, usn_rises, covers as purged_all, collection_formed}
use Rattle.adr_law_calls.specs.Follow.{IsRemovable, HasKnownClasses, CanFollow}
use Rattle.adr_law_calls.proofs.Said.{neither}
use Rattle.adr_law_calls.proofs.Passed.{normal_where_not_quarantined}
use Rattle.adr_law_calls.proofs.Going.{goes_on_alone}

-- ---- the objects that go rise

module _ (f : Held → Option (Oid × Update))
    (dies : (h : Held) (d : Oid × Update) → f h ≡ Some d → h.update.key ≡ RowOf d.0 deleted_attr) where
  abbrev gone : List Held → List Oid
  gone rows = map (λ (d : Oid × Update). d.0) (filter_map f rows)

  of_object : (o p : Oid) → key_order (RowOf o deleted_attr) (RowOf p deleted_attr) ≡ Less
      → object_order o p ≡ Less
  of_object o p less = by (object_order o p) less
    where
      by : (c : Ordering) → ordering_then c (nat_cmp deleted_attr deleted_attr) ≡ Less → c ≡ Less
      by Less e = refl
      by Equal e = absurd (cc)
      by Greater e = absurd (cc)

  all_below : (o : Oid) (k : Key) → k ≡ RowOf o deleted_attr → (rows : List Held)
      → AllByRecursion (λ j. key_order k j ≡ Less) (map (λ (h : Held). h.update.key) rows)
      → AllByRecursion (λ p. object_order o p ≡ Less) (gone rows)
  all_below o k is [] all = tt
  all_below o k is (x ∷ xs) all = by (f x) refl (all_below o k is xs all.1)
    where
      by : (d : Option (Oid × Update)) → f x ≡ d → AllByRecursion (λ p. object_order o p ≡ Less) (gone xs)
          → AllByRecursion (λ p. object_order o p ≡ Less)
          (map (λ (t : Oid × Update). t.0) (cons_option d (filter_map f xs)))
      by None e rest = rest
      by (Some d) e rest = (of_object o d.0 (subst (λ j. key_order (RowOf o deleted_attr) j ≡ Less) (dies x d e) (subst (λ j. key_order j x.update.key ≡ Less) is all.0)), rest)

  pub gone_rise : (rows : List Held) → IsStrictlySortedBy key_order (map (λ (h : Held). h.update.key) rows)
      → IsStrictlySortedBy object_order (gone rows)
  unfolding IsStrictlySortedBy
  gone_rise [] rising = tt
  gone_rise (x ∷ xs) rising = by (f x) refl (gone_rise xs rising.1)
    where
      by : (d : Option (Oid × Update)) → f x ≡ d → IsStrictlySortedBy object_order (gone xs)
          → IsStrictlySortedBy object_order
          (map (λ (t : Oid × Update). t.0) (cons_option d (filter_map f xs)))
      by None e rest = rest
      by (Some d) e rest = (all_below d.0 x.update.key (dies x d e) xs rising.0, rest)

-- ---- what covers them is a vector

further_from_one : (ds : List (Oid × Update)) (v : Cursors) → FromOne v
    → FromOne
    (fold (λ w (d : Oid × Update). raised (raised w d.0.birth.inv d.0.birth.usn) (inv_of d.1) (usn_of d.1)) v ds)
further_from_one [] v one = one
further_from_one (d ∷ ds) v one = further_from_one ds
    (raised (raised v d.0.birth.inv d.0.birth.usn) (inv_of d.1) (usn_of d.1))
    (from_one-raised (raised v d.0.birth.inv d.0.birth.usn) (inv_of d.1) (usn_of d.1) (from_one-raised v d.0.birth.inv d.0.birth.usn one))

covering_from_one : (ds : List (Oid × Update)) → FromOne (covering ds)
covering_from_one ds = further_from_one ds [] tt

module _ (s : State) (now lifetime : ℕ) where
  dies : (h : Held) (d : Oid × Update)
      → with_death s now lifetime h.update (collected_by s.store.vector now lifetime h.update) ≡ Some d
      → h.update.key ≡ RowOf d.0 deleted_attr
  dies h d e = by (collected_by s.store.vector now lifetime h.update) refl e
    where
      by : (k : Option Oid) → collected_by s.store.vector now lifetime h.update ≡ k
          → with_death s now lifetime h.update k ≡ Some d → h.update.key ≡ RowOf d.0 deleted_attr
      by None is e = absurd (cc)
      by (Some o) is e = (collected_dies s now lifetime h.update d.0
          (is ∙ ap Some (let f : (o, h.update) ≡ d = cc in ap (λ (t : Oid × Update). t.0) f))).0

module _ (s : State) (now lifetime : ℕ) (is : IsFormed s) (classes : HasKnownClasses s) where
  open (collecting s now lifetime) use {dead, c, d, rows, os}

  removable : Each (IsRemovable rows d.store.purged) os
  removable o m =
      let t = mapped_member (λ (t : Oid × Update). t.0) dead o m in
      subst (IsRemovable rows d.store.purged) (sym t.2) (of_death t.0 (collectable s now lifetime is t.0 t.1) (purged_all s now lifetime is t.0 t.1))
    where
      of_death : (t : Oid × Update) → IsCollectable rows (at s.store.vector) t
          → CoversBirth (at d.store.purged) t.0 × Covers (at d.store.purged) t.1
          → IsRemovable rows d.store.purged t.0
      of_death t g q = record {
        death = t.1;
        is_held = subst (λ v. Member v (updates_of rows)) g.is_held (updated rows g.held g.stands);
        is_death = g.dies;
        birth_purged = q.0;
        death_purged = q.1;
      }

  -- what is purged is the covering of what was dead, a vector
  covers : IsVector (covering dead)
  covers = record {
    rising = covering_rises dead;
    from_one = covering_from_one dead;
    few = omega (
      arith,
      is.store.vector.few,
      no_more_cursors s.store.vector (covering dead) (covering_rises dead) (covering_from_one dead) is.store.vector.rising
          (λ i some. omega (arith, some, covering_within dead (at s.store.vector) (covered s now lifetime is) i)),
    );
  }

  follows : is_quarantined s.mode ≡ false → CanFollow s c
  follows normal = record {
    goes_on = goes_on_alone s c (normal_where_not_quarantined s.mode normal) (usn_rises s now lifetime is) tt (inl refl) covers tt removable;
    formed = collection_formed s now lifetime is;
    classes = λ u m. classes u (update_stood os rows u m);
  }

pub collected_follows : (s : State) (now lifetime : ℕ) (c : Change) → IsFormed s → HasKnownClasses s
    → collect s now lifetime ≡ Ok c → CanFollow s c
collected_follows s now lifetime c is classes e =
    let change = collection s (deaths_to_collect s now lifetime) in
    let g = answered (collect_refusal s change) change c e in
    let n = neither (then_some (is_quarantined s.mode) IsQuarantined) (then_some (nat_lt usn_limit change.usn) UsnLimit) g.0 in
    subst (CanFollow s) g.1 (follows s now lifetime is classes (not_then (is_quarantined s.mode) IsQuarantined n.0))

-- what is removed rises by the objects' names
pub collected_rise : (s : State) (now lifetime : ℕ) (c : Change) → AreRising s.store.rows
    → collect s now lifetime ≡ Ok c → IsStrictlySortedBy object_order c.removed
collected_rise s now lifetime c rising e = subst (λ (x : Change). IsStrictlySortedBy object_order x.removed)
    (collect_is_collection s now lifetime c e)
    (gone_rise (λ (h : Held). with_death s now lifetime h.update (collected_by s.store.vector now lifetime h.update)) (dies s now lifetime) s.store.rows rising)
