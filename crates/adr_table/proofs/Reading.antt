-- The rows of a run, read from its first place on.
use Rattle.std.proofs.Common.{◌≡◌, refl, sym, ap, ◌∙◌, List, [], ◌∷◌, ◌++◌, append_assoc, Bool, true, false, Option, Some, None, filter_map}
use Rattle.std.specs.Prelude.{is_some, slice_get}
use Rattle.std.specs.List.{cons_option}
use Rattle.std.specs.BTreeMap.Range.{IsLeBy}
use Rattle.std.specs.Ordering.{is_gt}
use Rattle.std.specs.declared.cmp.Ordering.TheVariants.{Less}
use Rattle.adr_model.specs.Store.{Held}
use Rattle.adr_shelves.specs.declared.place.Place.{Place}
use Rattle.adr_shelves.specs.Place.{IsStart, place_order, is_in_run}
use Rattle.adr_table.specs.Slots.{seen, AreAtHome, rows_in_run}
use Rattle.adr_shelves.proofs.Entries.{Entries, AreSorted}
use Rattle.adr_table.proofs.Runs.{run_behind, run_between}
use Rattle.adr_table.proofs.Spans.{behind, from_start, tested, begun, Walk}

module _ (s : Place) where
  -- no place before the start is of the run
  before : IsStart s → (q : Place) → behind s q ≡ false → is_in_run s q ≡ false
  before bare q out = by (is_in_run s q) refl
    where
      by : (b : Bool) → is_in_run s q ≡ b → b ≡ false
      by true is = let no : true ≡ false = sym (tested (place_order s q) (run_behind s bare q is)) ∙ out in cc
      by false is = refl

  later : (p : Place) → is_in_run s p ≡ false → IsLeBy place_order s p → (q : Place) → place_order p q ≡ Less → is_in_run s q ≡ false
  later p out above q less = by (is_in_run s q) refl
    where
      by : (b : Bool) → is_in_run s q ≡ b → b ≡ false
      by true is = let no : true ≡ false = sym (run_between s p q above (ap is_gt less) is) ∙ out in cc
      by false is = refl

  pub run_begun : IsStart s → (P : List Held → Type 0) (es left : Entries) → left ≡ from_start s es → AreAtHome es → AreSorted es → P (rows_in_run s (seen es)) → Walk (is_in_run s) P left
  run_begun bare = begun s (is_in_run s) later (before bare)

-- the rows so far and others are all
abbrev pub AreRead : List Held → List Held → List Held → Type 0
AreRead all so_far rows = so_far ++ rows ≡ all

seen_first : (o : Option Held) (rows : List Held) → cons_option o [] ++ rows ≡ cons_option o rows
seen_first None rows = refl
seen_first (Some h) rows = refl

-- the row of a slot is added to those so far
pub added : (all so_far new : List Held) (row slot : Option Held) (rows : List Held) → new ≡ so_far ++ cons_option row [] → row ≡ slot → AreRead all so_far (cons_option slot rows) → AreRead all new rows
added all so_far new row slot rows is own read =
    ap (λ xs. xs ++ rows) is ∙ append_assoc so_far (cons_option row []) rows ∙ ap (λ xs. so_far ++ xs) (seen_first row rows ∙ ap (λ o. cons_option o rows) own) ∙ read

-- that of a hint is so too
pub added_next : {H : Type 0} (row_of : H → Option Held) (all so_far new : List Held) (row : Option Held) (h : H) (hs left : List H) → left ≡ h ∷ hs → new ≡ so_far ++ cons_option row [] → row ≡ row_of h
    → AreRead all so_far (filter_map row_of left) → AreRead all new (filter_map row_of hs)
added_next row_of all so_far new row h hs left left_is is own read =
    ap (λ xs. xs ++ filter_map row_of hs) is ∙ append_assoc so_far (cons_option row []) (filter_map row_of hs)
    ∙ ap (λ xs. so_far ++ xs) (first row ∙ ap (λ o. cons_option o (filter_map row_of hs)) own ∙ sym (ap (filter_map row_of) left_is)) ∙ read
  where
    first : (o : Option Held) → cons_option o [] ++ filter_map row_of hs ≡ cons_option o (filter_map row_of hs)
    first None = refl
    first (Some h) = refl

-- the first row of a slot that isn't empty
pub first_seen : (o : Option Held) (rows : List Held) → is_some o ≡ true → true ≡ is_some (slice_get (cons_option o rows) 0)
first_seen None rows is = cc
first_seen (Some h) rows is = refl
