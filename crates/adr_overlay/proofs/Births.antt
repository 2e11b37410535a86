-- How many objects and links there are after a row was put.
use Rattle.std.proofs.Common.{◌≡◌, ◌+◌, List, [], ◌∷◌, Bool, true, false, cond, not, ◌&&◌, refl, sym, ap, ◌∙◌, subst, length, Option, Some, None, is_some, is_none, arith, eqb, eqb-true}
use Rattle.std.specs.List.{cons_option}
use Rattle.adr_values.specs.declared.stamp.Oid.{Oid}
use Rattle.adr_model.specs.Update.{Key, RowOf, LinkOf, class_attr, same_object}
use Rattle.adr_model.specs.Live.{born, objects_of}
use Rattle.adr_model.specs.Store.{Held, row_held, updates_of, with_row}
use Rattle.adr_model.specs.Write.{is_link_row, links_in}
use Rattle.adr_model.specs.Change.{goes_with, killed_by, stripped, put}
use Rattle.adr_model.specs.Formed.{AreRising}
use Rattle.adr_table.proofs.Births.{births, objects_born}
use Rattle.adr_law_knowledge.proofs.RisingHeld.{put_rises}
use Rattle.adr_overlay.specs.Overlay.{is_birth_row, links_lost, one}
use Rattle.adr_overlay.proofs.Tally.{tally, is_tally, tally_same, tally_filter, tally_split, tally_with_row}

births_counted : (rows : List Held) → length (births rows) ≡ tally is_birth_row rows
births_counted [] = refl
births_counted (x ∷ xs) = by (born x.update.key) (births_counted xs)
  where
    by : (o : Option Oid) → length (births xs) ≡ tally is_birth_row xs → length (cons_option o (births xs)) ≡ one (is_some o) + tally is_birth_row xs
    by None later = omega (arith, later)
    by (Some p) later = omega (arith, later)

pub objects_counted : (rows : List Held) → AreRising rows → length (objects_of (updates_of rows)) ≡ tally is_birth_row rows
objects_counted rows r = ap length (objects_born rows r) ∙ births_counted rows

-- ---- what a death leaves

birth_stays : (d : Oid) (k : Key) → is_birth_row k && not (goes_with d k) ≡ is_birth_row k
birth_stays d (RowOf o attr) = by (eqb attr class_attr) refl
  where
    stays : (t : Bool) → not (cond t false false) ≡ true
    stays true = refl
    stays false = refl

    by : (b : Bool) → eqb attr class_attr ≡ b → is_some (cond b (Some o) None) && not (goes_with d (RowOf o attr)) ≡ is_some (cond b (Some o) None)
    by true e = subst (λ a. not (goes_with d (RowOf o a)) ≡ true) (sym (eqb-true attr class_attr e)) (stays (same_object o d))
    by false e = refl
birth_stays d (LinkOf l) = refl

pub objects_after : (rows : List Held) (h : Held) → AreRising rows
    → length (objects_of (updates_of (put rows h))) ≡ length (objects_of (updates_of rows)) + one (is_birth_row h.update.key && is_none (row_held rows h.update.key))
objects_after rows h r = omega (arith, objects_counted (put rows h) (put_rises rows h r), objects_counted rows r, by (killed_by h.update.key), tally_with_row is_birth_row rows h r)
  where
    by : (o : Option Oid) → tally is_birth_row (stripped o (with_row rows h)) ≡ tally is_birth_row (with_row rows h)
    by None = refl
    by (Some d) = tally_filter is_birth_row (λ k. not (goes_with d k)) (with_row rows h) ∙ tally_same (λ k. is_birth_row k && not (goes_with d k)) is_birth_row (with_row rows h) (birth_stays d)

abbrev pub is_link_at : Oid → Key → Bool
is_link_at d k = is_link_row k && goes_with d k

no_link : (k : Key) (d : Oid) → killed_by k ≡ Some d → is_link_row k ≡ false
no_link (RowOf o attr) d e = refl
no_link (LinkOf l) d e = cc

pub links_after : (rows : List Held) (h : Held) → AreRising rows
    → links_in (put rows h) + links_lost (killed_by h.update.key) rows ≡ links_in rows + one (is_link_row h.update.key && is_none (row_held rows h.update.key))
links_after rows h r = omega (arith, is_tally is_link_row (put rows h), is_tally is_link_row rows, by (killed_by h.update.key) refl, tally_with_row is_link_row rows h r)
  where
    by : (o : Option Oid) → killed_by h.update.key ≡ o → tally is_link_row (stripped o (with_row rows h)) + links_lost o rows ≡ tally is_link_row (with_row rows h)
    by None e = omega arith
    by (Some d) e = omega (arith, is_tally (is_link_at d) rows, tally_filter is_link_row (λ k. not (goes_with d k)) (with_row rows h), tally_split is_link_row (goes_with d) (with_row rows h), tally_with_row (is_link_at d) rows h r, nothing)
      where
        nothing : one (is_link_at d h.update.key && is_none (row_held rows h.update.key)) ≡ 0
        nothing = ap (λ b. one ((b && goes_with d h.update.key) && is_none (row_held rows h.update.key))) (no_link h.update.key d e)
