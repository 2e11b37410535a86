-- What the tests of taking tell of rows.
use Rattle.std.proofs.Common.{◌≡◌, ◌⊎◌, inl, inr, List, [], ◌∷◌, Bool, true, false, cond, Option, Some, None, refl, sym, ap, ◌∙◌, subst, arith}
use Rattle.std.specs.Prelude.{is_some}
use Rattle.std.specs.Option.{option_map_or}
use Rattle.std.proofs.lemmas.Bool.{leb-true, leb-false, both_ways}
use Rattle.adr_values.specs.declared.stamp.Oid.{Oid}
use Rattle.adr_values.specs.Vector.{Cursors, at}
use Rattle.adr_model.specs.Member.{Member, Each}
use Rattle.adr_model.specs.Update.{Key, RowOf, Update, same_key, is_older, deleted_attr}
use Rattle.adr_model.specs.Reflects.{CoversBirth, Supersedes, HoldsAtLeast, HoldsObject, IsTombstoned}
use Rattle.adr_model.specs.Visible.{covers_birth}
use Rattle.adr_model.specs.Store.{Held, updates_of, row_held, is_row_of, holds_object, holds_dead}
use Rattle.adr_model.specs.Take.{is_above}
use Rattle.adr_model.proofs.Members.{one_passes, some_passes}
use Rattle.adr_law_knowledge.proofs.Comparing.{keys_tell, same_where_equal, objects_same, older_one_way}
use Rattle.adr_law_calls.proofs.Rows.{updated, held_as, row_is_of}

-- ---- the row of a key

abbrev pub IsFound : List Held → Key → Option Held → Type 0
IsFound rows key o = ((h : Held) × Member h rows × (h.update.key ≡ key) × (o ≡ Some h)) ⊎ (Each (λ (h : Held). h.update.key ≡ key → ⊥) rows × (o ≡ None))

pub row_found : (rows : List Held) (key : Key) → IsFound rows key (row_held rows key)
row_found [] key = inr ((λ h m. absurd m), refl)
row_found (x ∷ xs) key = by (same_key x.update.key key) refl (row_found xs key)
  where
    by : (b : Bool) → same_key x.update.key key ≡ b → IsFound xs key (row_held xs key) → IsFound (x ∷ xs) key (cond b (Some x) (row_held xs key))
    by true is rest = inl (x, inl refl, keys_tell x.update.key key is, refl)
    by false is (inl (h, m, e, f)) = inl (h, inr m, e, f)
    by false is (inr (none, f)) = inr (other, f)
      where
        other : Each (λ (h : Held). h.update.key ≡ key → ⊥) (x ∷ xs)
        other h (inl e) k = both_ways (same_key x.update.key key) is (same_where_equal x.update.key key (ap (λ (y : Held). y.update.key) (sym e) ∙ k))
        other h (inr m) k = none h m k

-- ---- objects

pub holds_where_tested : (rows : List Held) (o : Oid) → holds_object rows o ≡ true → HoldsObject (updates_of rows) o
holds_where_tested rows o h =
    let t = some_passes (λ (x : Held). is_row_of o x.update.key) rows h in
    let k = row_is_of o t.0.update.key t.2 in
    (t.0.update, k.0, updated rows t.0 t.1, k.1)

pub tested_where_holds : (rows : List Held) (o : Oid) → HoldsObject (updates_of rows) o → holds_object rows o ≡ true
tested_where_holds rows o (u, attr, m, e) =
    let t = held_as rows u m in
    one_passes (λ (x : Held). is_row_of o x.update.key) rows t.0 t.1
    (subst (λ (v : Update). is_row_of o v.key ≡ true) t.2 (subst (λ k. is_row_of o k ≡ true) (sym e) (objects_same o o refl)))

pub lacks_where_untested : (rows : List Held) (o : Oid) → holds_object rows o ≡ false → HoldsObject (updates_of rows) o → ⊥
lacks_where_untested rows o h is = both_ways (holds_object rows o) h (tested_where_holds rows o is)

pub dead_where_tested : (rows : List Held) (o : Oid) → holds_dead rows o ≡ true → IsTombstoned (updates_of rows) o
dead_where_tested rows o h = by (row_found rows (RowOf o deleted_attr))
  where
    by : IsFound rows (RowOf o deleted_attr) (row_held rows (RowOf o deleted_attr)) → IsTombstoned (updates_of rows) o
    by (inl (x, m, e, f)) = (x.update, updated rows x m, e)
    by (inr (none, f)) = absurd (both_ways (holds_dead rows o) (ap is_some f) h)

pub tested_where_dead : (rows : List Held) (o : Oid) → IsTombstoned (updates_of rows) o → holds_dead rows o ≡ true
tested_where_dead rows o (u, m, is) = by (row_found rows (RowOf o deleted_attr))
  where
    by : IsFound rows (RowOf o deleted_attr) (row_held rows (RowOf o deleted_attr)) → holds_dead rows o ≡ true
    by (inl (x, n, e, f)) = ap is_some f
    by (inr (none, f)) = let t = held_as rows u m in absurd (none t.0 t.1 (ap (λ (v : Update). v.key) (sym t.2) ∙ is))

pub alive_where_untested : (rows : List Held) (o : Oid) → holds_dead rows o ≡ false → IsTombstoned (updates_of rows) o → ⊥
alive_where_untested rows o h is = both_ways (holds_dead rows o) h (tested_where_dead rows o is)

pub covers_where_tested : (v : Cursors) (o : Oid) → covers_birth v o ≡ true → CoversBirth (at v) o
covers_where_tested v o h = leb-true o.birth.usn (at v o.birth.inv) h

pub misses_where_untested : (v : Cursors) (o : Oid) → covers_birth v o ≡ false → CoversBirth (at v) o → ⊥
misses_where_untested v o h c = let less = leb-false o.birth.usn (at v o.birth.inv) h in absurd (omega (arith, less, c))

-- ---- rows above

pub not_above : (rows : List Held) (u : Update) → is_above rows u ≡ false → HoldsAtLeast (updates_of rows) u
not_above rows u h = by (row_found rows u.key)
  where
    by : IsFound rows u.key (row_held rows u.key) → HoldsAtLeast (updates_of rows) u
    by (inl (x, m, e, f)) = (x.update, updated rows x m, record { key = e; stamp = sym (ap (λ (p : Option Held). option_map_or (λ y. is_older y.update u) p true) f) ∙ h })
    by (inr (none, f)) = absurd (both_ways (is_above rows u) h (ap (λ (p : Option Held). option_map_or (λ y. is_older y.update u) p true) f))

-- a row above is above each row of its key, of which there is one
pub above_each : (rows : List Held) (u : Update) → Each (λ x. Each (λ y. x.update.key ≡ y.update.key → x ≡ y) rows) rows → is_above rows u ≡ true → Each (λ v. v.key ≡ u.key → is_older v u ≡ true) (updates_of rows)
above_each rows u one h v m k = by (row_found rows u.key) (held_as rows v m)
  where
    by : IsFound rows u.key (row_held rows u.key) → (y : Held) × Member y rows × (v ≡ y.update) → is_older v u ≡ true
    by (inl (x, n, e, f)) (y, i, s) =
        let same : x ≡ y = one x n y i (e ∙ (sym k ∙ ap (λ (w : Update). w.key) s)) in
        subst (λ (w : Update). is_older w u ≡ true) (ap (λ (z : Held). z.update) same ∙ sym s) (sym (ap (λ (p : Option Held). option_map_or (λ z. is_older z.update u) p true) f) ∙ h)
    by (inr (none, f)) (y, i, s) = absurd (none y i (ap (λ (w : Update). w.key) (sym s) ∙ k))

pub above_supersedes : (rows : List Held) (u : Update) → Each (λ x. Each (λ y. x.update.key ≡ y.update.key → x ≡ y) rows) rows → is_above rows u ≡ true → Each (λ v. v.key ≡ u.key → Supersedes u v) (updates_of rows)
above_supersedes rows u one h v m k = record { key = sym k; stamp = older_one_way v u (above_each rows u one h v m k) }

pub at_least_is_not_above : (rows : List Held) (u : Update) → Each (λ x. Each (λ y. x.update.key ≡ y.update.key → x ≡ y) rows) rows → HoldsAtLeast (updates_of rows) u → is_above rows u ≡ false
at_least_is_not_above rows u one (v, m, s) = by (is_above rows u) refl
  where
    by : (b : Bool) → is_above rows u ≡ b → b ≡ false
    by false is = refl
    by true is = absurd (both_ways (is_older v u) s.stamp (above_each rows u one is v m s.key))
