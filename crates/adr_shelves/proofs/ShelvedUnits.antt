-- What becomes of shelves where the empty slots of a unit are taken out.
use Rattle.std.proofs.Common.{◌≡◌, ℕ, List, [], ◌∷◌, ◌++◌, Bool, true, false, cond, not, ◌||◌, Option, Some, None, refl, sym, ap, ◌∙◌, subst}
use Rattle.std.specs.Prelude.{filter, is_some}
use Rattle.std.specs.List.{AllByRecursion}
use Rattle.std.specs.List.Sorted.{IsStrictlySortedBy}
use Rattle.std.specs.Map.{keys_of, lookup, set_value}
use Rattle.std.specs.Ordering.{nat_cmp}
use Rattle.std.specs.declared.cmp.Ordering.{Ordering}
use Rattle.std.specs.declared.cmp.Ordering.TheVariants.{Less}
use Rattle.std.specs.BTreeMap.{is_at}
use Rattle.std.proofs.lemmas.List.Elements.{filter-append}
use Rattle.std.proofs.lemmas.Map.{keys-set_value}
use Rattle.adr_model.specs.Store.{Held}
use Rattle.adr_update.proofs.Slots.{later_none as no_later}
use Rattle.adr_shelves.specs.declared.place.Place.{Place}
use Rattle.adr_shelves.specs.Place.{is_of_unit, place_in, place_order}
use Rattle.adr_shelves.specs.Shelves.{AreAllShelves, AreShelves, IsShelf, entries_of, shelf_entries, freed}
use Rattle.adr_shelves.proofs.Places.{places_total}
use Rattle.adr_shelves.proofs.Entries.{Entries}
use Rattle.adr_shelves.proofs.Shelved.{IsOwn, Kept, Shelved, own_first, shelf_rest, shelves_rest}
use Rattle.adr_shelves.proofs.ShelvedParts.{of_shelf}

-- the slots of a shelf that have rows
abbrev pub full_slots : Kept → Kept
full_slots slots = filter (λ s. is_some s.1) slots

freed_here : (test : Place → Bool) (s : Place) (slots : Kept) → IsShelf s slots → ((a : ℕ) → IsOwn s a → test (place_in s a) ≡ true)
    → freed test (shelf_entries s slots) ≡ shelf_entries s (full_slots slots)
freed_here test s [] shelf passes = refl
freed_here test s (e ∷ slots) shelf passes =
    by (is_some e.1) (test (place_in s e.0)) (passes e.0 (own_first s e slots shelf)) (freed_here test s slots (shelf_rest s e slots shelf) passes)
  where
    by : (b t : Bool) → t ≡ true → freed test (shelf_entries s slots) ≡ shelf_entries s (full_slots slots)
        → cond (b || not t) ((place_in s e.0, e.1) ∷ freed test (shelf_entries s slots)) (freed test (shelf_entries s slots)) ≡ shelf_entries s (cond b (e ∷ full_slots slots) (full_slots slots))
    by true t is later = ap (λ (xs : Entries). (place_in s e.0, e.1) ∷ xs) later
    by false true is later = later
    by false false is later = cc

kept_there : (test : Place → Bool) (s : Place) (slots : Kept) → IsShelf s slots → ((a : ℕ) → IsOwn s a → test (place_in s a) ≡ false)
    → freed test (shelf_entries s slots) ≡ shelf_entries s slots
kept_there test s [] shelf fails = refl
kept_there test s (e ∷ slots) shelf fails =
    by (is_some e.1) (test (place_in s e.0)) (fails e.0 (own_first s e slots shelf)) (kept_there test s slots (shelf_rest s e slots shelf) fails)
  where
    by : (b t : Bool) → t ≡ false → freed test (shelf_entries s slots) ≡ shelf_entries s slots
        → cond (b || not t) ((place_in s e.0, e.1) ∷ freed test (shelf_entries s slots)) (freed test (shelf_entries s slots)) ≡ (place_in s e.0, e.1) ∷ shelf_entries s slots
    by true t is later = ap (λ (xs : Entries). (place_in s e.0, e.1) ∷ xs) later
    by false true is later = cc
    by false false is later = ap (λ (xs : Entries). (place_in s e.0, e.1) ∷ xs) later

freed_both : (test : Place → Bool) (xs ys : Entries) → freed test (xs ++ ys) ≡ freed test xs ++ freed test ys
freed_both test xs ys = filter-append (λ (e : Place × Option Held). is_some e.1 || not (test e.0)) xs ys

none_of_unit : (us : Shelved) → AreAllShelves us → (seat : Place) → lookup (is_at (place_order seat)) us ≡ None → freed (is_of_unit seat) (entries_of us) ≡ entries_of us
none_of_unit [] each seat none = refl
none_of_unit (u ∷ us) each seat none = by (is_at (place_order seat) u.0) refl none (none_of_unit us each.1 seat)
  where
    by : (b : Bool) → is_at (place_order seat) u.0 ≡ b → cond b (Some u.1) (lookup (is_at (place_order seat)) us) ≡ None
        → (lookup (is_at (place_order seat)) us ≡ None → freed (is_of_unit seat) (entries_of us) ≡ entries_of us)
        → freed (is_of_unit seat) (shelf_entries u.0 u.1 ++ entries_of us) ≡ shelf_entries u.0 u.1 ++ entries_of us
    by true at n later = cc
    by false apart n later =
        freed_both (is_of_unit seat) (shelf_entries u.0 u.1) (entries_of us)
        ∙ ap (λ (xs : Entries). xs ++ freed (is_of_unit seat) (entries_of us)) (kept_there (is_of_unit seat) u.0 u.1 each.0 (of_shelf seat u.0 u.1 each.0 false apart))
        ∙ ap (λ (xs : Entries). shelf_entries u.0 u.1 ++ xs) (later n)

unit_freed : (us : Shelved) → AreShelves us → (seat : Place) (slots : Kept) → lookup (is_at (place_order seat)) us ≡ Some slots
    → entries_of (set_value (is_at (place_order seat)) us (full_slots slots)) ≡ freed (is_of_unit seat) (entries_of us)
unit_freed [] are seat slots there = cc
unit_freed (u ∷ us) are seat slots there = by (is_at (place_order seat) u.0) refl there (unit_freed us (shelves_rest u us are) seat slots)
  where
    by : (b : Bool) → is_at (place_order seat) u.0 ≡ b → cond b (Some u.1) (lookup (is_at (place_order seat)) us) ≡ Some slots
        → (lookup (is_at (place_order seat)) us ≡ Some slots → entries_of (set_value (is_at (place_order seat)) us (full_slots slots)) ≡ freed (is_of_unit seat) (entries_of us))
        → entries_of (cond b ((u.0, full_slots slots) ∷ us) (u ∷ set_value (is_at (place_order seat)) us (full_slots slots))) ≡ freed (is_of_unit seat) (shelf_entries u.0 u.1 ++ entries_of us)
    by true at found later =
        let same : u.1 ≡ slots = cc in
        let rest : freed (is_of_unit seat) (entries_of us) ≡ entries_of us = none_of_unit us are.each.1 seat (no_later place_order places_total seat u us are.ordered at) in
        ap (λ (ss : Kept). shelf_entries u.0 (full_slots ss) ++ entries_of us) (sym same)
        ∙ sym (freed_both (is_of_unit seat) (shelf_entries u.0 u.1) (entries_of us)
        ∙ ap (λ (xs : Entries). xs ++ freed (is_of_unit seat) (entries_of us)) (freed_here (is_of_unit seat) u.0 u.1 are.each.0 (of_shelf seat u.0 u.1 are.each.0 true at))
        ∙ ap (λ (xs : Entries). shelf_entries u.0 (full_slots u.1) ++ xs) rest)
    by false apart found later =
        ap (λ (xs : Entries). shelf_entries u.0 u.1 ++ xs) (later found)
        ∙ sym (freed_both (is_of_unit seat) (shelf_entries u.0 u.1) (entries_of us)
        ∙ ap (λ (xs : Entries). xs ++ freed (is_of_unit seat) (entries_of us)) (kept_there (is_of_unit seat) u.0 u.1 are.each.0 (of_shelf seat u.0 u.1 are.each.0 false apart)))

-- a shelf without some of its slots is one
all_filtered : {K V : Type 0} (test : K × V → Bool) (P : K → Type 0) (es : List (K × V)) → AllByRecursion P (keys_of es) → AllByRecursion P (keys_of (filter test es))
all_filtered test P [] all = tt
all_filtered test P (e ∷ es) all = by (test e) (all_filtered test P es all.1)
  where
    by : (b : Bool) → AllByRecursion P (keys_of (filter test es)) → AllByRecursion P (keys_of (cond b (e ∷ filter test es) (filter test es)))
    by true rest = (all.0, rest)
    by false rest = rest

rising_filtered : {K V : Type 0} (order : K → K → Ordering) (test : K × V → Bool) (es : List (K × V)) → IsStrictlySortedBy order (keys_of es) → IsStrictlySortedBy order (keys_of (filter test es))
unfolding IsStrictlySortedBy
rising_filtered order test [] rising = tt
rising_filtered order test (e ∷ es) rising = by (test e) (rising_filtered order test es rising.1)
  where
    by : (b : Bool) → IsStrictlySortedBy order (keys_of (filter test es)) → IsStrictlySortedBy order (keys_of (cond b (e ∷ filter test es) (filter test es)))
    by true rest = (all_filtered test (λ k. order e.0 k ≡ Less) es rising.0, rest)
    by false rest = rest

shelf_filtered : (s : Place) (slots : Kept) → IsShelf s slots → IsShelf s (full_slots slots)
shelf_filtered s slots shelf = record {
  seated = shelf.seated;
  rising = rising_filtered nat_cmp (λ (e : ℕ × Option Held). is_some e.1) slots shelf.rising;
  own = λ l. all_filtered (λ (e : ℕ × Option Held). is_some e.1) (λ a. a ≡ s.attr) slots (shelf.own l);
}

each_unit_freed : (us : Shelved) → AreAllShelves us → (seat : Place) (slots : Kept) → lookup (is_at (place_order seat)) us ≡ Some slots → AreAllShelves (set_value (is_at (place_order seat)) us (full_slots slots))
each_unit_freed [] each seat slots there = cc
each_unit_freed (u ∷ us) each seat slots there = by (is_at (place_order seat) u.0) there (each_unit_freed us each.1 seat slots)
  where
    by : (b : Bool) → cond b (Some u.1) (lookup (is_at (place_order seat)) us) ≡ Some slots
        → (lookup (is_at (place_order seat)) us ≡ Some slots → AreAllShelves (set_value (is_at (place_order seat)) us (full_slots slots)))
        → AreAllShelves (cond b ((u.0, full_slots slots) ∷ us) (u ∷ set_value (is_at (place_order seat)) us (full_slots slots)))
    by true found later = let same : u.1 ≡ slots = cc in (subst (λ (ss : Kept). IsShelf u.0 (full_slots ss)) same (shelf_filtered u.0 u.1 each.0), each.1)
    by false found later = (each.0, later found)

shelves_freed : (us : Shelved) → AreShelves us → (seat : Place) (slots : Kept) → lookup (is_at (place_order seat)) us ≡ Some slots → AreShelves (set_value (is_at (place_order seat)) us (full_slots slots))
shelves_freed us are seat slots there = record {
  ordered = subst (IsStrictlySortedBy place_order) (sym (keys-set_value (is_at (place_order seat)) us (full_slots slots))) are.ordered;
  each = each_unit_freed us are.each seat slots there;
}

-- what is written at a seat that has a shelf is found there
pub found_again : (us : Shelved) (seat : Place) (slots kept : Kept) → lookup (is_at (place_order seat)) us ≡ Some slots → lookup (is_at (place_order seat)) (set_value (is_at (place_order seat)) us kept) ≡ Some kept
found_again [] seat slots kept there = cc
found_again (u ∷ us) seat slots kept there = by (is_at (place_order seat) u.0) refl there (found_again us seat slots kept)
  where
    by : (b : Bool) → is_at (place_order seat) u.0 ≡ b → cond b (Some u.1) (lookup (is_at (place_order seat)) us) ≡ Some slots
        → (lookup (is_at (place_order seat)) us ≡ Some slots → lookup (is_at (place_order seat)) (set_value (is_at (place_order seat)) us kept) ≡ Some kept)
        → lookup (is_at (place_order seat)) (cond b ((u.0, kept) ∷ us) (u ∷ set_value (is_at (place_order seat)) us kept)) ≡ Some kept
    by true at found later = ap (λ b. cond b (Some kept) (lookup (is_at (place_order seat)) us)) at
    by false apart found later = ap (λ b. cond b (Some u.1) (lookup (is_at (place_order seat)) (set_value (is_at (place_order seat)) us kept))) apart ∙ later found

-- the empty slots of the unit at a seat are taken out, and where its shelf is said to be empty, it is there without slots
pub record IsUnitFreed (us new : Shelved) (seat : Place) (is_empty : Bool) : Type 0 where
  pub are : AreShelves new
  pub left : entries_of new ≡ freed (is_of_unit seat) (entries_of us)
  pub bare : is_empty ≡ true → lookup (is_at (place_order seat)) new ≡ Some []

pub new_unit_freed : (us new : Shelved) → AreShelves us → (seat : Place) (slots kept : Kept) → lookup (is_at (place_order seat)) us ≡ Some slots
    → kept ≡ full_slots slots → new ≡ set_value (is_at (place_order seat)) us kept → (is_empty : Bool) → (is_empty ≡ true → kept ≡ []) → IsUnitFreed us new seat is_empty
new_unit_freed us new are seat slots kept there full is is_empty told =
    let same : new ≡ set_value (is_at (place_order seat)) us (full_slots slots) = is ∙ ap (set_value (is_at (place_order seat)) us) full in
    record {
      are = subst AreShelves (sym same) (shelves_freed us are seat slots there);
      left = ap entries_of same ∙ unit_freed us are seat slots there;
      bare = λ b. ap (lookup (is_at (place_order seat))) is ∙ found_again us seat slots kept there ∙ ap Some (told b);
    }

pub none_unit_freed : (us new : Shelved) → AreShelves us → (seat : Place) → lookup (is_at (place_order seat)) us ≡ None → new ≡ us → (is_empty : Bool) → is_empty ≡ false → IsUnitFreed us new seat is_empty
none_unit_freed us new are seat none is is_empty told = record {
  are = subst AreShelves (sym is) are;
  left = ap entries_of is ∙ sym (none_of_unit us are.each seat none);
  bare = λ b. let wrong : false ≡ true = sym told ∙ b in cc;
}
