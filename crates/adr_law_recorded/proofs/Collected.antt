-- Quarantines, change-overs to schema 2 and collections can be recorded.
use Rattle.std.proofs.Common.{◌≡◌, ℕ, ◌≤◌, Bool, true, false, cond, List, [], ◌∷◌, fold, map, Ok, refl, sym, subst, inl, inr, ⊎_elim, arith}
use Rattle.std.specs.Prelude.{nat_lt}
use Rattle.std.specs.Bool.{then_some}
use Rattle.std.specs.BTreeMap.{insert_entry}
use Rattle.std.specs.List.{AllByRecursion}
use Rattle.std.specs.List.Sorted.{IsStrictlySortedBy}
use Rattle.std.proofs.lemmas.Bool.{ltb-false}
use Rattle.std.proofs.lemmas.Map.Lookups.{exact_bytes}
use Rattle.adr_values.specs.declared.stamp.LinkStamp.{LinkStamp}
use Rattle.adr_values.specs.declared.stamp.Oid.{Oid}
use Rattle.adr_values.specs.Order.{identifier_order, object_order}
use Rattle.adr_values.specs.contracts.stamp.OidOrd.TheImpl.Laws.{total-law as objects_total}
use Rattle.adr_values.proofs.ExactOrders.{exact_objects}
use Rattle.adr_values.proofs.ExactCalls.{not_then}
use Rattle.adr_values.specs.Vector.{Cursors, at, covers, raised}
use Rattle.adr_call.specs.declared.refusal.CollectRefusal.TheVariants.{Quarantined as IsQuarantined, UsnLimit}
use Rattle.adr_wire.specs.Ranges.{IsCursor, IsId, IsOid, IsStamp, IsUsn}
use Rattle.adr_model.specs.Change.{Change}
use Rattle.adr_model.specs.Collect.{collect, collect_refusal, collection, covering, deaths_to_collect, quarantine}
use Rattle.adr_model.specs.Formed.{IsNamed}
use Rattle.adr_model.specs.Live.{objects_of}
use Rattle.adr_model.specs.Member.{Each, Member}
use Rattle.adr_model.specs.Serve.{is_quarantined}
use Rattle.adr_model.specs.Upgrade.{upgraded, upgrade_refusal, upgrade}
use Rattle.adr_model.specs.Store.{Normal, Quarantined, State, updates_of}
use Rattle.adr_model.specs.Update.{Identifier, Key, RowOf, LinkOf, Said, Holds, IsPresent, Update, inv_of, usn_of, deleted_attr}
use Rattle.adr_model.specs.Write.{usn_limit}
use Rattle.adr_model.proofs.Members.{mapped_member}
use Rattle.adr_law_knowledge.proofs.Counting.{no_longer, rises_from}
use Rattle.adr_law_knowledge.proofs.Refusing.{answered}
use Rattle.adr_law_knowledge.proofs.Standing.{among_objects}
use Rattle.adr_law_calls.proofs.Tables.{entry_from}
use Rattle.adr_law_calls.proofs.Rows.{updated}
use Rattle.adr_law_calls.specs.Collectable.{IsCollectable}
use Rattle.adr_law_calls.proofs.Deaths.{all_collectable}
use Rattle.adr_law_calls.specs.Taken.{AreBare}
use Rattle.adr_law_calls.proofs.Collected.{collected_follows, collected_rise}
use Rattle.adr_law_calls.proofs.Said.{neither}
use Rattle.adr_law_calls.proofs.Still.{quarantine_follows, upgrade_follows}
use Rattle.adr_image.specs.Stored.{IsSpelledRow}
use Rattle.adr_records.specs.Logged.{IsLogged, MayBeRecorded}
use Rattle.adr_law_recorded.specs.InRange.{IsInRange}
use Rattle.adr_law_recorded.specs.Laws.{UpgradeIsRecorded}
use Rattle.adr_law_recorded.proofs.Bodied.{recorded, writes_in_range}

pub quarantine_is_recorded : (s : State) → IsLogged s → s.mode ≡ Normal → MayBeRecorded s (quarantine s)
quarantine_is_recorded s logged normal = recorded s (quarantine s) logged (quarantine_follows s logged.formed logged.classes normal) (λ w m. absurd m)
    (writes_in_range s logged.spelled.schema s.store.usn Quarantined [] logged.spelled.usn (omega arith) (λ u m. absurd m))

-- only the number of the schema is another
upgraded_in_range : (s : State) → IsLogged s → IsInRange (upgraded s)
upgraded_in_range s logged = record {
  usn = logged.spelled.usn;
  schema = refl;
  mark = tt;
  joined = tt;
  times = tt;
  purged = tt;
  removed = λ o m. absurd m;
  few_removed = omega arith;
  few = omega arith;
  rows = λ u m. absurd m;
}

pub upgrade_is_recorded : UpgradeIsRecorded
upgrade_is_recorded s c logged e =
    let is = (answered (upgrade_refusal s) (upgraded s) c e).1 in
    recorded s c logged (upgrade_follows s c logged.formed logged.classes e)
    (subst (λ (x : Change). Each (λ w. AreBare w.item.rows) x.writes) is (λ w m. absurd m))
    (subst IsInRange is (upgraded_in_range s logged))

-- ---- what covers births and deaths in range is in range

raised_in_range : (v : Cursors) (inv : Identifier) (usn : ℕ) → Each IsCursor v → IsId inv → IsUsn usn
    → Each IsCursor (raised v inv usn)
raised_in_range v inv usn each id right e m = by (covers v inv usn) m
  where
    by : (b : Bool) → Member e (cond b v (insert_entry identifier_order v inv usn)) → IsCursor e
    by true n = each e n
    by false n = ⊎_elim (λ same. subst IsCursor (sym same) (id, right)) (λ old. each e old) (entry_from identifier_order exact_bytes v inv usn e n)

abbrev IsRightDeath : Oid × Update → Type 0
IsRightDeath d = IsOid d.0 × IsStamp d.1.stamp.stamp

further_in_range : (ds : List (Oid × Update)) (v : Cursors) → Each IsRightDeath ds → Each IsCursor v
    → Each IsCursor (fold (λ w (d : Oid × Update). raised (raised w d.0.birth.inv d.0.birth.usn) (inv_of d.1) (usn_of d.1)) v ds)
further_in_range [] v right each = each
further_in_range (d ∷ ds) v right each =
    let q = right d (inl refl) in
    further_in_range ds (raised (raised v d.0.birth.inv d.0.birth.usn) (inv_of d.1) (usn_of d.1)) (λ t m. right t (inr m))
    (raised_in_range (raised v d.0.birth.inv d.0.birth.usn) (inv_of d.1) (usn_of d.1) (raised_in_range v d.0.birth.inv d.0.birth.usn each q.0.1.0 q.0.1.1) q.1.1.1.0 q.1.1.1.1)

covering_in_range : (ds : List (Oid × Update)) → Each IsRightDeath ds → Each IsCursor (covering ds)
covering_in_range ds right = further_in_range ds [] right (λ e m. absurd m)

all_in_range : (v : Cursors) → Each IsCursor v → AllByRecursion IsCursor v
all_in_range [] each = tt
all_in_range (c ∷ cs) each = (each c (inl refl), all_in_range cs (λ e m. each e (inr m)))

-- ---- collections

row_right : (o : Oid) (attr : ℕ) (k : Key) (said : Said) (stamp : LinkStamp) → k ≡ RowOf o attr
    → IsSpelledRow k said stamp → IsOid o × IsStamp stamp.stamp
row_right o attr (RowOf p a) (Holds content) stamp e q = let same : p ≡ o = cc in (subst IsOid same q.0, q.3)
row_right o attr (RowOf p a) (IsPresent b) stamp e q = absurd q
row_right o attr (LinkOf l) said stamp e q = absurd (cc)

module _ (s : State) (now lifetime : ℕ) (logged : IsLogged s) where
  abbrev dead : List (Oid × Update)
  dead = deaths_to_collect s now lifetime

  abbrev names : List Oid
  names = map (λ (d : Oid × Update). d.0) dead

  death_right : Each IsRightDeath dead
  death_right d m =
      let g = all_collectable s now lifetime d m in
      let right = logged.spelled.rows g.held g.stands in
      row_right d.0 deleted_attr d.1.key d.1.said d.1.stamp g.dies (subst (λ (u : Update). IsSpelledRow u.key u.said u.stamp) g.is_held right)

  name_right : Each IsOid names
  name_right o m = let t = mapped_member (λ (d : Oid × Update). d.0) dead o m in subst IsOid (sym t.2) (death_right t.0 t.1).0

  -- each of them was born
  name_born : Each (λ o. Member o (objects_of (updates_of s.store.rows))) names
  name_born o m =
      let t = mapped_member (λ (d : Oid × Update). d.0) dead o m in
      subst (λ p. Member p (objects_of (updates_of s.store.rows))) (sym t.2) (of_death t.0 (all_collectable s now lifetime t.0 t.1))
    where
      of_death : (d : Oid × Update) → IsCollectable s.store.rows (at s.store.vector) d
          → Member d.0 (objects_of (updates_of s.store.rows))
      of_death d g =
          let stands = subst (λ (u : Update). Member u (updates_of s.store.rows)) g.is_held (updated s.store.rows g.held g.stands) in
          let named : IsNamed (updates_of s.store.rows) d.0 = logged.formed.store.rows.named d.0 (d.1, deleted_attr, stands, g.dies) in
          among_objects (updates_of s.store.rows) named.of_class.0 d.0 named.of_class.1 named.of_class.2

  in_range : (collection s dead).usn ≤ usn_limit → IsStrictlySortedBy object_order names → IsInRange (collection s dead)
  in_range most rise =
      let long = no_longer object_order objects_total exact_objects names (objects_of (updates_of s.store.rows)) (rises_from object_order names rise) name_born in
      let few = logged.formed.store.limits.objects in
      record {
        usn = omega (arith, most);
        schema = logged.spelled.schema;
        mark = tt;
        joined = tt;
        times = tt;
        purged = all_in_range (covering dead) (covering_in_range dead death_right);
        removed = name_right;
        few_removed = omega (arith, long, few);
        few = omega arith;
        rows = λ u m. absurd m;
      }

pub collection_is_recorded : (s : State) (now lifetime : ℕ) (c : Change) → IsLogged s → collect s now lifetime ≡ Ok c
    → MayBeRecorded s c
collection_is_recorded s now lifetime c logged e =
    let change = collection s (deaths_to_collect s now lifetime) in
    let g = answered (collect_refusal s change) change c e in
    let n = neither (then_some (is_quarantined s.mode) IsQuarantined) (then_some (nat_lt usn_limit change.usn) UsnLimit) g.0 in
    let most = ltb-false usn_limit change.usn (not_then (nat_lt usn_limit change.usn) UsnLimit n.1) in
    let rise = subst (λ (x : Change). IsStrictlySortedBy object_order x.removed) (sym g.1) (collected_rise s now lifetime c logged.formed.store.rising e) in
    recorded s c logged (collected_follows s now lifetime c logged.formed logged.classes e)
    (subst (λ (x : Change). Each (λ w. AreBare w.item.rows) x.writes) g.1 (λ w m. absurd m))
    (subst IsInRange g.1 (in_range s now lifetime logged most rise))
