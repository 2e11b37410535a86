-- The slots of one unit give the rows of the unit.
use Rattle.std.proofs.Common.{◌≡◌, refl, sym, ap, ◌∙◌, ℕ, List, [], ◌∷◌, Bool, true, false, cond, Option, filter, filter_map}
use Rattle.std.specs.List.{cons_option}
use Rattle.adr_model.specs.Store.{Held}
use Rattle.adr_shelves.specs.declared.place.Place.{Place}
use Rattle.adr_shelves.specs.Place.{is_of_unit}
use Rattle.adr_shelves.specs.Shelves.{shelf_entries}
use Rattle.adr_table.specs.Slots.{seen, AreAtHome}
use Rattle.adr_table.specs.Locals.{rows_of_seat}
use Rattle.adr_shelves.proofs.Entries.{Entries}
use Rattle.adr_table.proofs.Spans.{inside, outside}

-- the rows in the slots of a unit
abbrev pub rows_on : List (ℕ × Option Held) → List Held
rows_on slots = filter_map (λ (s : ℕ × Option Held). s.1) slots

on_shelf : (seat : Place) (slots : List (ℕ × Option Held)) → seen (shelf_entries seat slots) ≡ rows_on slots
on_shelf seat [] = refl
on_shelf seat (s ∷ ss) = ap (cons_option s.1) (on_shelf seat ss)

-- each row is of the unit at whose place it stands
of_unit : (seat : Place) (es : Entries) → AreAtHome es → seen (filter (λ e. is_of_unit seat e.0) es) ≡ rows_of_seat seat (seen es)
of_unit seat [] home = refl
of_unit seat (e ∷ es) home = by (is_of_unit seat e.0) refl (of_unit seat es home.1)
  where
    own : Entries
    own = filter (λ e. is_of_unit seat e.0) es

    by : (b : Bool) → is_of_unit seat e.0 ≡ b → seen own ≡ rows_of_seat seat (seen es) → seen (cond b (e ∷ own) own) ≡ rows_of_seat seat (seen (e ∷ es))
    by true is rest = ap (cons_option e.1) rest ∙ sym (inside (is_of_unit seat) e (seen es) home.0 is)
    by false is rest = rest ∙ sym (outside (is_of_unit seat) e (seen es) home.0 is)

pub rows_of_shelf : (seat : Place) (slots : List (ℕ × Option Held)) (es : Entries) → shelf_entries seat slots ≡ filter (λ e. is_of_unit seat e.0) es → AreAtHome es
    → rows_on slots ≡ rows_of_seat seat (seen es)
rows_of_shelf seat slots es are home = sym (on_shelf seat slots) ∙ ap seen are ∙ of_unit seat es home
