-- A store's rows and what is in its view have the same standing and live objects, the same winners, and so the same directory.
use Rattle.std.proofs.Common.{◌≡◌, ◌⊎◌, inl, inr, List, Bool, true, false, ◌&&◌, not, Option, Some, None, refl, sym, ap, ◌∙◌, subst, filter}
use Rattle.std.specs.List.{list_any, list_all}
use Rattle.std.specs.declared.cmp.Ordering.TheVariants.{Less}
use Rattle.adr_values.specs.declared.stamp.Oid.{Oid}
use Rattle.adr_values.specs.Order.{object_order}
use Rattle.adr_values.specs.contracts.stamp.OidOrd.TheImpl.Laws.{total-law as objects_total}
use Rattle.adr_values.proofs.ExactOrders.{exact_objects}
use Rattle.adr_model.specs.Member.{Member, Each}
use Rattle.adr_model.specs.Update.{Key, RowOf, Update, class_attr, ends, same_identifier, same_object, is_older, key_order}
use Rattle.adr_model.specs.Reflects.{AtMost, IsDeathOf, Knowledge, HoldsAtLeast, HoldsObject, IsTombstoned, IsPurged, Reflects}
use Rattle.adr_model.specs.Winner.{winner, winners}
use Rattle.adr_model.specs.Live.{standing, yields_to, unyielding, live, is_among, live_rows}
use Rattle.adr_model.specs.Directory.{directory, entries_of}
use Rattle.adr_model.proofs.Keys.{exact_keys, keys_total, objects_tell}
use Rattle.adr_law_knowledge.specs.Known.{IsInView}
use Rattle.adr_model.specs.Sound.{HasOneContent}
use Rattle.adr_law_knowledge.specs.Stands.{Stands}
use Rattle.adr_law_knowledge.proofs.Comparing.{not_older_trans}
use Rattle.adr_model.proofs.Members.{of_filter, in_filter, some_passes, each_passes}
use Rattle.adr_law_knowledge.proofs.Lists.{same_filter, same_any, filter_rises, same_members_one_list, not_both_ways}
use Rattle.adr_law_knowledge.proofs.Knows.{covers_up, end_of_row, death_reflected, standing_is_held}
use Rattle.adr_law_knowledge.proofs.Winners.{Won, is_won, winner_is, of_winners, in_winners, by_key, winners_rise}
use Rattle.adr_law_knowledge.proofs.Standing.{of_standing, in_standing, standing_rises}

module _ (issued : List Update) (k : Knowledge) (view : List Update) (one : HasOneContent issued) (within : AtMost k.purged k.vector) (v : IsInView issued k view) where
  stands_in_view : (o : Oid) → Stands k.rows o → Stands view o
  stands_in_view o s = record { birth = s.birth; born = v.held s.birth s.born; is_birth = s.is_birth; alive = alive }
    where
      alive : Each (λ d. IsDeathOf o d → ⊥) view
      alive d m is = by (death_reflected issued k d o is (v.taken d m))
        where
          by : IsTombstoned k.rows o ⊎ IsPurged issued k o → ⊥
          by (inl t) = s.alive t.0 t.1 t.2
          by (inr g) = g.absent (s.birth, class_attr, s.born, s.is_birth)

  stands_held : (o : Oid) → Stands view o → Stands k.rows o
  stands_held o s = by (v.taken s.birth s.born)
    where
      dead : IsTombstoned k.rows o → ⊥
      dead t = s.alive t.0 (v.held t.0 t.1) t.2

      gone : IsPurged issued k o → ⊥
      gone g = s.alive g.death (v.covered g.death g.is_issued (covers_up k.purged k.vector g.death within g.is_covered)) g.is_death

      by : Reflects issued k s.birth → Stands k.rows o
      by (inl (r, m, w)) = record { birth = r; born = m; is_birth = w.key ∙ s.is_birth; alive = λ d i is. s.alive d (v.held d i) is }
      by (inr (p, m, inl t)) = absurd (dead (subst (λ x. IsTombstoned k.rows x) (end_of_row s.birth o class_attr p s.is_birth m) t.0))
      by (inr (p, m, inr g)) = absurd (gone (subst (λ x. IsPurged issued k x) (end_of_row s.birth o class_attr p s.is_birth m) g))

  pub standing_same : standing k.rows ≡ standing view
  standing_same =
      same_members_one_list object_order (not_both_ways object_order objects_total exact_objects) (standing k.rows) (standing view) (standing_rises k.rows) (standing_rises view)
      (λ o m. in_standing view o (stands_in_view o (of_standing k.rows o m)))
      (λ o m. in_standing k.rows o (stands_held o (of_standing view o m)))

  -- at a key whose ends stand, whatever is in view is superseded by what is held
  held_at_least : (key : Key) → Each (λ o. Stands k.rows o) (ends key) → (u : Update) → Member u view → u.key ≡ key → HoldsAtLeast k.rows u
  held_at_least key stand u m is = standing_is_held issued k u ends_stand (v.taken u m)
    where
      ends_stand : Each (λ o. HoldsObject k.rows o × (IsTombstoned k.rows o → ⊥)) (ends u.key)
      ends_stand o n = let s = stand o (subst (λ x. Member o (ends x)) is n) in ((s.birth, class_attr, s.born, s.is_birth), λ t. s.alive t.0 t.1 t.2)

  pub winner_same : (key : Key) → Each (λ o. Stands k.rows o) (ends key) → winner k.rows key ≡ winner view key
  winner_same key stand = by (winner k.rows key) refl (winner view key) refl
    where
      none_held : winner k.rows key ≡ None → (w : Update) → Member w view → w.key ≡ key → ⊥
      none_held e w m is = let h = held_at_least key stand w m is in is_won k.rows key None e h.0 h.1 (h.2.key ∙ is)

      best : (u : Update) → Won k.rows key (Some u) → Each (λ w. w.key ≡ u.key → is_older u w ≡ false) view
      best u won w m e = let h = held_at_least key stand w m (e ∙ won.1) in
          not_older_trans u h.0 w (won.2 h.0 h.1 (h.2.key ∙ (e ∙ won.1))) h.2.stamp

      in_view : (u : Update) → Won k.rows key (Some u) → winner view key ≡ Some u
      in_view u won = subst (λ x. winner view x ≡ Some u) won.1 (winner_is issued view u one v.within (v.held u won.0) (best u won))

      by : (o : Option Update) → winner k.rows key ≡ o → (p : Option Update) → winner view key ≡ p → winner k.rows key ≡ winner view key
      by (Some u) e p f = e ∙ sym (in_view u (is_won k.rows key (Some u) e))
      by None e None f = e ∙ sym f
      by None e (Some w) f = let t = is_won view key (Some w) f in absurd (none_held e w t.0 t.1)

  birth_won : (o : Oid) → Member o (standing view) → winner k.rows (RowOf o class_attr) ≡ winner view (RowOf o class_attr)
  birth_won o m = winner_same (RowOf o class_attr) (λ p n. subst (λ q. Stands k.rows q) (sym (only o p n)) (stands_held o (of_standing view o m)))
    where
      only : (o p : Oid) → Member p (ends (RowOf o class_attr)) → p ≡ o
      only o p (inl e) = e
      only o p (inr n) = absurd n

  yields_same : (o p : Oid) → Member o (standing view) → Member p (standing view) → yields_to k.rows o p ≡ yields_to view o p
  yields_same o p m n = let e = birth_won o m in let f = birth_won p n in rw (e, f) refl

  pub live_same : live k.rows ≡ live view
  live_same = ap (unyielding k.rows) standing_same ∙ same_filter _ _ (standing view) unyielding_same
    where
      unyielding_same : Each (λ o. not (list_any (λ p. same_identifier o.guid p.guid && yields_to k.rows o p) (standing view)) ≡ not (list_any (λ p. same_identifier o.guid p.guid && yields_to view o p) (standing view))) (standing view)
      unyielding_same o m = ap not (same_any _ _ (standing view) (λ p n. ap (λ b. same_identifier o.guid p.guid && b) (yields_same o p m n)))

  abbrev counts : Update → Bool
  counts u = list_all (is_among (live view)) (ends u.key)

  live_stands : (o : Oid) → is_among (live view) o ≡ true → Stands k.rows o
  live_stands o e = let t = some_passes (λ (p : Oid). same_object p o) (live view) e in
      let among : Member t.0 (standing view) = (of_filter _ (standing view) t.0 t.1).0 in
      stands_held o (of_standing view o (subst (λ q. Member q (standing view)) (objects_tell t.0 o t.2) among))

  ends_stand : (u : Update) → counts u ≡ true → Each (λ o. Stands k.rows o) (ends u.key)
  ends_stand u c o m = live_stands o (each_passes (is_among (live view)) (ends u.key) c o m)

  rows_in_view : Each (λ u. Member u (filter counts (winners view))) (filter counts (winners k.rows))
  rows_in_view u m = let t = of_filter counts (winners k.rows) u m in
      in_filter counts (winners view) u (in_winners view u (sym (winner_same u.key (ends_stand u t.1)) ∙ of_winners k.rows u t.0)) t.1

  rows_held : Each (λ u. Member u (filter counts (winners k.rows))) (filter counts (winners view))
  rows_held u m = let t = of_filter counts (winners view) u m in
      in_filter counts (winners k.rows) u (in_winners k.rows u (winner_same u.key (ends_stand u t.1) ∙ of_winners view u t.0)) t.1

  by_key_one_way : (x y : Update) → by_key x y ≡ Less → by_key y x ≡ Less → ⊥
  by_key_one_way x y = not_both_ways key_order keys_total exact_keys x.key y.key

  pub live_rows_same : live_rows k.rows ≡ live_rows view
  live_rows_same =
      ap (λ os. filter (λ (u : Update). list_all (is_among os) (ends u.key)) (winners k.rows)) live_same
      ∙ same_members_one_list by_key by_key_one_way (filter counts (winners k.rows)) (filter counts (winners view))
      (filter_rises by_key counts (winners k.rows) (winners_rise k.rows)) (filter_rises by_key counts (winners view) (winners_rise view)) rows_in_view rows_held

  pub directory_same : directory k.rows ≡ directory view
  directory_same = ap entries_of live_rows_same
