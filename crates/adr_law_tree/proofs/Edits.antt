-- What a change makes of the rows of a GUID.
use Rattle.std.proofs.Common.{◌≡◌, Bool, true, false, cond, not, ◌||◌, List, [], ◌∷◌, Option, Some, None, refl, sym, ap, ◌∙◌, filter, fold, ◌==◌}
use Rattle.std.specs.Prelude.{if◌then◌else◌, nat_lt}
use Rattle.std.specs.List.{list_any}
use Rattle.adr_values.specs.declared.stamp.Oid.{Oid}
use Rattle.adr_model.specs.Update.{Identifier, Key, RowOf, LinkOf, same_identifier, deleted_attr}
use Rattle.adr_model.specs.Live.{live_rows}
use Rattle.adr_model.specs.Place.{nodes_of, node_at}
use Rattle.adr_model.specs.Store.{Held, updates_of, with_row, is_row_of}
use Rattle.adr_model.specs.Change.{goes_with, killed_by, stripped, put, without_object, rows_after}
use Rattle.adr_model.specs.Formed.{AreRising}
use Rattle.adr_model.specs.Write.{is_of_guid}
use Rattle.adr_law_knowledge.proofs.Filters.{all_stay}
use Rattle.adr_law_knowledge.proofs.PassingRows.{passing_written, other_written, passing_stripped, passing_without, updates_filtered, apart_from_mine, mine_stay}
use Rattle.adr_law_knowledge.proofs.RisingHeld.{put_rises, rows_after_rise}
use Rattle.adr_law_tree.specs.Edits.{held_of_guid, tree_of, ChangeLaw, UntouchedLaw}
use Rattle.adr_law_tree.proofs.Local.{local_law}
use Rattle.adr_law_tree.proofs.RisingRows.{rising_updates}

module _ (g : Identifier) where
  abbrev of : Held → Bool
  of h = is_of_guid g h.update.key

  -- a row of another GUID, or of a link, takes none of these
  stays : (o : Oid) → same_identifier o.guid g ≡ false → (k : Key) → is_of_guid g k ≡ true → not (goes_with o k) ≡ true
  stays o other (RowOf p a) mine = ap (λ b. not (if b then nat_lt deleted_attr a else false)) (apart_from_mine g o p other mine)
  stays o other (LinkOf l) mine = cc

  killed_other : (k : Key) → is_of_guid g k ≡ false → (o : Oid) → killed_by k ≡ Some o → same_identifier o.guid g ≡ false
  killed_other (LinkOf l) other o e = cc
  killed_other (RowOf p a) other o e = by (a == deleted_attr) e
    where
      by : (b : Bool) → (if b then Some p else None) ≡ Some o → same_identifier o.guid g ≡ false
      by true e = let f : p ≡ o = cc in ap (λ (q : Oid). same_identifier q.guid g) (sym f) ∙ other
      by false e = cc

  strips_none : (k : Key) → is_of_guid g k ≡ false → (rows : List Held) → stripped (killed_by k) (filter of rows) ≡ filter of rows
  strips_none k other rows = by (killed_by k) refl
    where
      by : (o : Option Oid) → killed_by k ≡ o → stripped o (filter of rows) ≡ filter of rows
      by None e = refl
      by (Some o) e = all_stay (λ h. not (goes_with o h.update.key)) of (λ h mine. stays o (killed_other k other o e) h.update.key mine) rows

  put_mine : (rows : List Held) (h : Held) → AreRising rows → of h ≡ true → filter of (put rows h) ≡ put (filter of rows) h
  put_mine rows h r mine =
      passing_stripped (is_of_guid g) (killed_by h.update.key) (with_row rows h) ∙ ap (stripped (killed_by h.update.key)) (passing_written (is_of_guid g) h mine rows r)

  put_other : (rows : List Held) (h : Held) → of h ≡ false → filter of (put rows h) ≡ filter of rows
  put_other rows h other =
      passing_stripped (is_of_guid g) (killed_by h.update.key) (with_row rows h)
      ∙ ap (stripped (killed_by h.update.key)) (other_written (is_of_guid g) h other rows) ∙ strips_none h.update.key other rows

  puts_of : (writes rows : List Held) → AreRising rows → filter of (fold put rows writes) ≡ fold put (filter of rows) (filter of writes)
  puts_of [] rows r = refl
  puts_of (h ∷ hs) rows r = by (of h) refl (puts_of hs (put rows h) (put_rises rows h r))
    where
      by : (b : Bool) → of h ≡ b → filter of (fold put (put rows h) hs) ≡ fold put (filter of (put rows h)) (filter of hs)
          → filter of (fold put (put rows h) hs) ≡ fold put (filter of rows) (cond b (h ∷ filter of hs) (filter of hs))
      by true mine rest = rest ∙ ap (λ (xs : List Held). fold put xs (filter of hs)) (put_mine rows h r mine)
      by false other rest = rest ∙ ap (λ (xs : List Held). fold put xs (filter of hs)) (put_other rows h other)

  removals_of : (removed : List Oid) (rows : List Held) → filter of (fold without_object rows removed) ≡ fold without_object (filter of rows) removed
  removals_of [] rows = refl
  removals_of (o ∷ os) rows = removals_of os (without_object rows o) ∙ ap (λ (xs : List Held). fold without_object xs os) (passing_without (is_of_guid g) o rows)

  rows_after_of : (removed : List Oid) (writes rows : List Held) → AreRising rows → filter of (rows_after removed writes rows) ≡ rows_after removed (filter of writes) (filter of rows)
  rows_after_of removed writes rows r = removals_of removed (fold put rows writes) ∙ ap (λ (xs : List Held). fold without_object xs removed) (puts_of writes rows r)

  -- the node of the GUID is that of its held rows
  node_of_held : (rows : List Held) → AreRising rows → node_at (tree_of rows) g ≡ node_at (tree_of (filter of rows)) g
  node_of_held rows r = sym (local_law (updates_of rows) (rising_updates rows r) g) ∙ ap (λ us. node_at (nodes_of (live_rows us)) g) (sym (updates_filtered (is_of_guid g) rows))

  none_mine : (writes : List Held) → list_any of writes ≡ false → filter of writes ≡ []
  none_mine [] e = refl
  none_mine (h ∷ hs) e = by (of h) e (none_mine hs)
    where
      by : (b : Bool) → (b || list_any of hs) ≡ false → (list_any of hs ≡ false → filter of hs ≡ []) → cond b (h ∷ filter of hs) (filter of hs) ≡ []
      by true e rest = cc
      by false e rest = rest e

  none_removed : (removed : List Oid) → list_any (λ (o : Oid). same_identifier o.guid g) removed ≡ false → (rows : List Held) → fold without_object (filter of rows) removed ≡ filter of rows
  none_removed [] e rows = refl
  none_removed (o ∷ os) e rows = by (same_identifier o.guid g) refl e (λ f. none_removed os f rows)
    where
      by : (b : Bool) → same_identifier o.guid g ≡ b → (b || list_any (λ (o : Oid). same_identifier o.guid g) os) ≡ false
          → (list_any (λ (o : Oid). same_identifier o.guid g) os ≡ false → fold without_object (filter of rows) os ≡ filter of rows) → fold without_object (without_object (filter of rows) o) os ≡ filter of rows
      by true is e rest = cc
      by false is e rest = ap (λ (xs : List Held). fold without_object xs os) (all_stay (λ h. not (is_row_of o h.update.key)) of (λ h mine. mine_stay g o is h.update.key mine) rows) ∙ rest e

pub change_law : ChangeLaw
change_law removed writes rows r g = node_of_held g (rows_after removed writes rows) (rows_after_rise removed writes rows r) ∙ ap (λ (hs : List Held). node_at (tree_of hs) g) (rows_after_of g removed writes rows r)

pub untouched_law : UntouchedLaw
untouched_law removed writes rows r g no_write no_removal =
    change_law removed writes rows r g
    ∙ ap (λ (hs : List Held). node_at (tree_of (rows_after removed hs (held_of_guid g rows))) g) (none_mine g writes no_write)
    ∙ ap (λ (hs : List Held). node_at (tree_of hs) g) (none_removed g removed no_removal rows)
    ∙ sym (node_of_held g rows r)
