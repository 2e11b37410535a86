-- The deaths that are collected, among rows.
use Rattle.std.proofs.Common.{◌≡◌, refl, sym, ap, ◌∙◌, ℕ, ◌+◌, List, [], ◌∷◌, ◌++◌, Bool, cond, ◌&&◌, Option, Some, None, filter, fold, map, append-nil, append_assoc}
use Rattle.std.specs.Prelude.{is_some, nat_le}
use Rattle.std.specs.Bool.{then_some}
use Rattle.std.specs.List.{cons_option, filter_map}
use Rattle.adr_values.specs.declared.stamp.Oid.{Oid}
use Rattle.adr_values.specs.Vector.{Cursors, raised}
use Rattle.adr_model.specs.Update.{Update, inv_of, usn_of}
use Rattle.adr_model.specs.Store.{Held}
use Rattle.adr_model.specs.Change.{killed_by}
use Rattle.adr_model.specs.Collect.{collected_by}
use Rattle.adr_model.specs.Visible.{covers_birth, covers_update}
use Rattle.adr_collect.specs.Covering.{covering_with}

abbrev pub with_death : Update → Option Oid → Option (Oid × Update)
with_death u None = None
with_death u (Some o) = Some (o, u)

-- the deaths among rows
abbrev pub deaths_among : Cursors → ℕ → ℕ → List Held → List (Oid × Update)
deaths_among vector now lifetime rows = filter_map (λ (h : Held). with_death h.update (collected_by vector now lifetime h.update)) rows

-- the object of a death, if it may go
abbrev dead_of : Cursors → ℕ → ℕ → Update → Option Oid → Option Oid
dead_of vector now lifetime u None = None
dead_of vector now lifetime u (Some o) = then_some (covers_birth vector o && covers_update vector u && nat_le (u.stamp.stamp.time + lifetime) now) o

-- only deaths go
pub deaths_alone : (vector : Cursors) (now lifetime : ℕ) (rows : List Held) → deaths_among vector now lifetime (filter (λ h. is_some (killed_by h.update.key)) rows) ≡ deaths_among vector now lifetime rows
deaths_alone vector now lifetime [] = refl
deaths_alone vector now lifetime (h ∷ hs) = by (killed_by h.update.key) refl (deaths_alone vector now lifetime hs)
  where
    dies : Held → Bool
    dies x = is_some (killed_by x.update.key)

    gone : Held → Option (Oid × Update)
    gone x = with_death x.update (collected_by vector now lifetime x.update)

    none : killed_by h.update.key ≡ None → gone h ≡ None
    none is = ap (λ k. with_death h.update (dead_of vector now lifetime h.update k)) is

    by : (k : Option Oid) → killed_by h.update.key ≡ k → deaths_among vector now lifetime (filter dies hs) ≡ deaths_among vector now lifetime hs
        → deaths_among vector now lifetime (cond (is_some k) (h ∷ filter dies hs) (filter dies hs)) ≡ cons_option (gone h) (deaths_among vector now lifetime hs)
    by None is rest = rest ∙ sym (ap (λ o. cons_option o (deaths_among vector now lifetime hs)) (none is))
    by (Some o) is rest = ap (cons_option (gone h)) rest

-- the object of one death more, before those that are left
module _ (u : Update) where
  pub objects_more : (o : Option Oid) (os : List Oid) (left : List (Oid × Update))
      → (os ++ cons_option o []) ++ map (λ (d : Oid × Update). d.0) left ≡ os ++ map (λ (d : Oid × Update). d.0) (cons_option (with_death u o) left)
  objects_more None os left = ap (λ xs. xs ++ map (λ (d : Oid × Update). d.0) left) (append-nil os)
  objects_more (Some o) os left = append_assoc os (o ∷ []) (map (λ (d : Oid × Update). d.0) left)

  pub covering_more : (o : Option Oid) (v : Cursors) (left : List (Oid × Update))
      → fold (λ (v : Cursors) (d : Oid × Update). raised (raised v d.0.birth.inv d.0.birth.usn) (inv_of d.1) (usn_of d.1)) (covering_with v u o) left
      ≡ fold (λ (v : Cursors) (d : Oid × Update). raised (raised v d.0.birth.inv d.0.birth.usn) (inv_of d.1) (usn_of d.1)) v (cons_option (with_death u o) left)
  covering_more None v left = refl
  covering_more (Some o) v left = refl
