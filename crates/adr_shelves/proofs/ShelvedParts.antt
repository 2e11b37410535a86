-- The slots of a unit among those of all shelves.
use Rattle.std.proofs.Common.{◌≡◌, ℕ, [], ◌∷◌, ◌++◌, Bool, true, false, cond, Option, Some, None, refl, sym, ap, ◌∙◌, append-nil}
use Rattle.std.specs.Prelude.{filter}
use Rattle.std.specs.Map.{lookup}
use Rattle.std.specs.BTreeMap.{is_at}
use Rattle.std.proofs.lemmas.List.Elements.{filter-append}
use Rattle.adr_model.specs.Store.{Held}
use Rattle.adr_update.proofs.Slots.{later_none as no_later}
use Rattle.adr_shelves.specs.declared.place.Place.{Place}
use Rattle.adr_shelves.specs.Place.{is_of_unit, place_in, place_order}
use Rattle.adr_shelves.specs.Shelves.{AreAllShelves, AreShelves, IsShelf, entries_of, shelf_entries}
use Rattle.adr_model.proofs.Keys.{equal_order}
use Rattle.adr_shelves.proofs.Places.{exact_places, places_total}
use Rattle.adr_shelves.proofs.Entries.{Entries}
use Rattle.adr_shelves.proofs.Shelved.{IsOwn, Kept, Shelved, own_first, seat_in, shelf_rest, shelves_rest}

-- the slots whose places pass
abbrev pub passing : (Place → Bool) → Entries → Entries
passing test es = filter (λ (e : Place × Option Held). test e.0) es

-- all slots of a shelf pass, or none does
pub shelf_passing : (test : Place → Bool) (t : Bool) (s : Place) (slots : Kept) → IsShelf s slots → ((a : ℕ) → IsOwn s a → test (place_in s a) ≡ t)
    → passing test (shelf_entries s slots) ≡ cond t (shelf_entries s slots) []
shelf_passing test true s [] shelf alike = refl
shelf_passing test false s [] shelf alike = refl
shelf_passing test t s (e ∷ slots) shelf alike =
    by t (test (place_in s e.0)) (alike e.0 (own_first s e slots shelf)) (shelf_passing test t s slots (shelf_rest s e slots shelf) alike)
  where
    first : Place × Option Held
    first = (place_in s e.0, e.1)

    by : (t b : Bool) → b ≡ t → passing test (shelf_entries s slots) ≡ cond t (shelf_entries s slots) []
        → cond b (first ∷ passing test (shelf_entries s slots)) (passing test (shelf_entries s slots)) ≡ cond t (first ∷ shelf_entries s slots) []
    by true true is later = ap (λ (xs : Entries). first ∷ xs) later
    by true false is later = cc
    by false true is later = cc
    by false false is later = later

-- the places of a shelf are all of a unit, or none is
pub of_shelf : (seat s : Place) (slots : Kept) → IsShelf s slots → (b : Bool) → is_at (place_order seat) s ≡ b → (a : ℕ) → IsOwn s a → is_of_unit seat (place_in s a) ≡ b
of_shelf seat s slots shelf b is a own = ap (is_at (place_order seat)) (seat_in s shelf.seated a own) ∙ is

-- where there is no shelf at a seat, no slot is of its unit
pub none_passing : (us : Shelved) → AreAllShelves us → (seat : Place) → lookup (is_at (place_order seat)) us ≡ None → passing (is_of_unit seat) (entries_of us) ≡ []
none_passing [] each seat none = refl
none_passing (u ∷ us) each seat none = by (is_at (place_order seat) u.0) refl none (none_passing us each.1 seat)
  where
    by : (b : Bool) → is_at (place_order seat) u.0 ≡ b → cond b (Some u.1) (lookup (is_at (place_order seat)) us) ≡ None
        → (lookup (is_at (place_order seat)) us ≡ None → passing (is_of_unit seat) (entries_of us) ≡ [])
        → passing (is_of_unit seat) (shelf_entries u.0 u.1 ++ entries_of us) ≡ []
    by true at n later = cc
    by false apart n later =
        filter-append (λ (e : Place × Option Held). is_of_unit seat e.0) (shelf_entries u.0 u.1) (entries_of us)
        ∙ ap (λ (xs : Entries). xs ++ passing (is_of_unit seat) (entries_of us)) (shelf_passing (is_of_unit seat) false u.0 u.1 each.0 (of_shelf seat u.0 u.1 each.0 false apart))
        ∙ later n

-- those of a unit are those of its shelf
pub unit_passing : (us : Shelved) → AreShelves us → (seat : Place) (slots : Kept) → lookup (is_at (place_order seat)) us ≡ Some slots
    → passing (is_of_unit seat) (entries_of us) ≡ shelf_entries seat slots
unit_passing [] are seat slots there = cc
unit_passing (u ∷ us) are seat slots there = by (is_at (place_order seat) u.0) refl there (unit_passing us (shelves_rest u us are) seat slots)
  where
    parts : passing (is_of_unit seat) (shelf_entries u.0 u.1 ++ entries_of us) ≡ passing (is_of_unit seat) (shelf_entries u.0 u.1) ++ passing (is_of_unit seat) (entries_of us)
    parts = filter-append (λ (e : Place × Option Held). is_of_unit seat e.0) (shelf_entries u.0 u.1) (entries_of us)

    by : (b : Bool) → is_at (place_order seat) u.0 ≡ b → cond b (Some u.1) (lookup (is_at (place_order seat)) us) ≡ Some slots
        → (lookup (is_at (place_order seat)) us ≡ Some slots → passing (is_of_unit seat) (entries_of us) ≡ shelf_entries seat slots)
        → passing (is_of_unit seat) (shelf_entries u.0 u.1 ++ entries_of us) ≡ shelf_entries seat slots
    by true at found later =
        let same : u.1 ≡ slots = cc in
        let own : seat ≡ u.0 = exact_places seat u.0 (equal_order (place_order seat u.0) at) in
        parts
        ∙ ap (λ (xs : Entries). xs ++ passing (is_of_unit seat) (entries_of us)) (shelf_passing (is_of_unit seat) true u.0 u.1 are.each.0 (of_shelf seat u.0 u.1 are.each.0 true at))
        ∙ ap (λ (xs : Entries). shelf_entries u.0 u.1 ++ xs) (none_passing us are.each.1 seat (no_later place_order places_total seat u us are.ordered at))
        ∙ append-nil (shelf_entries u.0 u.1)
        ∙ ap (λ s. shelf_entries s u.1) (sym own)
        ∙ ap (shelf_entries seat) same
    by false apart found later =
        parts
        ∙ ap (λ (xs : Entries). xs ++ passing (is_of_unit seat) (entries_of us)) (shelf_passing (is_of_unit seat) false u.0 u.1 are.each.0 (of_shelf seat u.0 u.1 are.each.0 false apart))
        ∙ later found
