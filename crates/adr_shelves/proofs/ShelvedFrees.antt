-- What becomes of the slots of shelves where one is emptied or taken out.
use Rattle.std.proofs.Common.{◌≡◌, ℕ, List, [], ◌∷◌, ◌++◌, Bool, true, false, cond, Option, Some, None, refl, sym, ap, ◌∙◌, subst}
use Rattle.std.specs.Prelude.{is_some}
use Rattle.std.specs.Option.{option_and_then}
use Rattle.std.specs.List.{AllByRecursion}
use Rattle.std.specs.List.Sorted.{IsStrictlySortedBy}
use Rattle.std.specs.Map.{keys_of, lookup, remove_entry, set_value}
use Rattle.std.specs.Ordering.{is_eq, nat_cmp}
use Rattle.std.specs.declared.cmp.Ordering.{Ordering}
use Rattle.std.specs.declared.cmp.Ordering.TheVariants.{Less}
use Rattle.std.specs.BTreeMap.{is_at}
use Rattle.std.proofs.lemmas.Cmp.{nat_cmp_total, tied_itself}
use Rattle.std.proofs.lemmas.Map.{keys-set_value}
use Rattle.std.proofs.lemmas.Map.Lookups.{exact_unsigned}
use Rattle.adr_model.proofs.Keys.{equal_order}
use Rattle.adr_model.specs.Store.{Held}
use Rattle.adr_update.proofs.Slots.{later_none}
use Rattle.adr_shelves.specs.declared.place.Place.{Place}
use Rattle.adr_shelves.specs.Place.{is_proper, place_in, place_order, seat_at}
use Rattle.adr_shelves.specs.Shelves.{AreShelves, AreAllShelves, IsShelf, entries_of, shelf_entries, flat}
use Rattle.adr_shelves.proofs.Places.{exact_places, places_total}
use Rattle.adr_shelves.proofs.Entries.{Entries, none_emptied}
use Rattle.adr_shelves.proofs.Shelved.{Kept, Shelved, home, looked, own_first, place_elsewhere, shelf_rest, shelves_rest}

-- ---- what is found

pub shelf_at : (us : Shelved) → AreAllShelves us → (seat : Place) → (slots : Kept) → lookup (is_at (place_order seat)) us ≡ Some slots → IsShelf seat slots
shelf_at [] are seat slots there = cc
shelf_at (u ∷ us) are seat slots there = by (is_at (place_order seat) u.0) refl there (shelf_at us are.1 seat slots)
  where
    by : (b : Bool) → is_at (place_order seat) u.0 ≡ b → cond b (Some u.1) (lookup (is_at (place_order seat)) us) ≡ Some slots
        → (lookup (is_at (place_order seat)) us ≡ Some slots → IsShelf seat slots) → IsShelf seat slots
    by true at found later =
        let same : u.1 ≡ slots = cc in
        subst (λ s. IsShelf s slots) (sym (exact_places seat u.0 (equal_order (place_order seat u.0) at))) (subst (IsShelf u.0) same are.0)
    by false at found later = later found

-- the look-up at the seat of a place, as it was told of what was found
pub at_seat : (us : Shelved) (p seat : Place) (o : Option Kept) → seat ≡ seat_at p → o ≡ lookup (is_at (place_order seat)) us → lookup (is_at (place_order (seat_at p))) us ≡ o
at_seat us p seat o is found = ap (λ s. lookup (is_at (place_order s)) us) (sym is) ∙ sym found

pub found_in : (us : Shelved) → AreShelves us → (p : Place) → is_proper p ≡ true → (slots : Kept) → lookup (is_at (place_order (seat_at p))) us ≡ Some slots
    → lookup (is_at (place_order p)) (entries_of us) ≡ lookup (is_at (nat_cmp p.attr)) slots
found_in us are p proper slots there = looked us are p proper ∙ ap (option_and_then (λ slots. lookup (is_at (nat_cmp p.attr)) slots)) there

pub found_none : (us : Shelved) → AreShelves us → (p : Place) → is_proper p ≡ true → lookup (is_at (place_order (seat_at p))) us ≡ None
    → lookup (is_at (place_order p)) (entries_of us) ≡ None
found_none us are p proper none = looked us are p proper ∙ ap (option_and_then (λ slots. lookup (is_at (nat_cmp p.attr)) slots)) none

-- ---- the slots of a shelf

-- in the shelf at its seat, the slot of a place is that of its attribute
own_slot : (p : Place) → is_proper p ≡ true → (seat : Place) → seat ≡ seat_at p → (a : ℕ) → is_at (place_order p) (place_in seat a) ≡ is_at (nat_cmp p.attr) a
own_slot p proper seat at a = by (is_at (place_order p) (place_in seat a)) refl (is_at (nat_cmp p.attr) a) refl
  where
    by : (b : Bool) → is_at (place_order p) (place_in seat a) ≡ b → (d : Bool) → is_at (nat_cmp p.attr) a ≡ d → b ≡ d
    by true x true y = refl
    by true x false y =
        let same : p ≡ place_in seat a = exact_places p (place_in seat a) (equal_order (place_order p (place_in seat a)) x) in
        let here : p.attr ≡ a = ap (λ (q : Place). q.attr) same in
        let wrong : false ≡ true = sym y ∙ ap (is_at (nat_cmp p.attr)) (sym here) ∙ ap is_eq (tied_itself nat_cmp_total p.attr) in cc
    by false x true y =
        let here : p.attr ≡ a = exact_unsigned p.attr a (equal_order (nat_cmp p.attr a) y) in
        let at_home : place_in seat a ≡ p = ap (place_in seat) (sym here) ∙ ap (λ s. place_in s p.attr) at ∙ home p proper in
        let wrong : false ≡ true = sym x ∙ ap (is_at (place_order p)) at_home ∙ ap is_eq (tied_itself places_total p) in cc
    by false x false y = refl

-- and no other shelf has one
none_in : (p : Place) → is_proper p ≡ true → (seat : Place) → is_at (place_order (seat_at p)) seat ≡ false → (slots : Kept) → IsShelf seat slots
    → lookup (is_at (place_order p)) (shelf_entries seat slots) ≡ None
none_in p proper seat apart [] shelf = refl
none_in p proper seat apart (s ∷ ss) shelf =
    ap (λ b. cond b (Some s.1) (lookup (is_at (place_order p)) (shelf_entries seat ss))) (place_elsewhere p proper seat shelf.seated s.0 (own_first seat s ss shelf) apart)
    ∙ none_in p proper seat apart ss (shelf_rest seat s ss shelf)

-- ---- a slot changes in its shelf

-- what changes the first slot of a key, in a shelf and in all slots alike, and leaves slots without that key
module _ (change : (Place → Bool) → Entries → Entries) (change_own : (ℕ → Bool) → Kept → Kept)
    (in_shelf : (test : Place → Bool) (own : ℕ → Bool) (seat : Place) (slots : Kept) → ((a : ℕ) → test (place_in seat a) ≡ own a)
    → change test (shelf_entries seat slots) ≡ shelf_entries seat (change_own own slots))
    (in_first : (p : Place) (xs ys : Entries) → lookup (is_at (place_order p)) ys ≡ None → change (is_at (place_order p)) (xs ++ ys) ≡ change (is_at (place_order p)) xs ++ ys)
    (in_second : (p : Place) (xs ys : Entries) → lookup (is_at (place_order p)) xs ≡ None → change (is_at (place_order p)) (xs ++ ys) ≡ xs ++ change (is_at (place_order p)) ys)
  where
    changed : (us : Shelved) → AreShelves us → (p : Place) → is_proper p ≡ true → (slots : Kept) → lookup (is_at (place_order (seat_at p))) us ≡ Some slots
        → entries_of (set_value (is_at (place_order (seat_at p))) us (change_own (is_at (nat_cmp p.attr)) slots)) ≡ change (is_at (place_order p)) (entries_of us)
    changed [] are p proper slots there = cc
    changed (u ∷ us) are p proper slots there = by (is_at (place_order (seat_at p)) u.0) refl there (changed us (shelves_rest u us are) p proper slots)
      where
        by : (b : Bool) → is_at (place_order (seat_at p)) u.0 ≡ b → cond b (Some u.1) (lookup (is_at (place_order (seat_at p))) us) ≡ Some slots
            → (lookup (is_at (place_order (seat_at p))) us ≡ Some slots
            → entries_of (set_value (is_at (place_order (seat_at p))) us (change_own (is_at (nat_cmp p.attr)) slots)) ≡ change (is_at (place_order p)) (entries_of us))
            → entries_of (cond b ((u.0, change_own (is_at (nat_cmp p.attr)) slots) ∷ us) (u ∷ set_value (is_at (place_order (seat_at p))) us (change_own (is_at (nat_cmp p.attr)) slots)))
            ≡ change (is_at (place_order p)) (shelf_entries u.0 u.1 ++ entries_of us)
        by true at found later =
            let same : u.1 ≡ slots = cc in
            let none = found_none us (shelves_rest u us are) p proper (later_none place_order places_total (seat_at p) u us are.ordered at) in
            let own = own_slot p proper u.0 (sym (exact_places (seat_at p) u.0 (equal_order (place_order (seat_at p) u.0) at))) in
            ap (λ (ss : Kept). shelf_entries u.0 (change_own (is_at (nat_cmp p.attr)) ss) ++ entries_of us) (sym same)
            ∙ ap (λ (xs : Entries). xs ++ entries_of us) (sym (in_shelf (is_at (place_order p)) (is_at (nat_cmp p.attr)) u.0 u.1 own))
            ∙ sym (in_first p (shelf_entries u.0 u.1) (entries_of us) none)
        by false apart found later =
            ap (λ (xs : Entries). shelf_entries u.0 u.1 ++ xs) (later found)
            ∙ sym (in_second p (shelf_entries u.0 u.1) (entries_of us) (none_in p proper u.0 apart u.1 are.each.0))

each_set : (us : Shelved) → AreAllShelves us → (seat : Place) (kept : Kept) → IsShelf seat kept → AreAllShelves (set_value (is_at (place_order seat)) us kept)
each_set [] are seat kept shelf = tt
each_set (u ∷ us) are seat kept shelf = by (is_at (place_order seat) u.0) refl (each_set us are.1 seat kept shelf)
  where
    by : (b : Bool) → is_at (place_order seat) u.0 ≡ b → AreAllShelves (set_value (is_at (place_order seat)) us kept)
        → AreAllShelves (cond b ((u.0, kept) ∷ us) (u ∷ set_value (is_at (place_order seat)) us kept))
    by true at later = (subst (λ s. IsShelf s kept) (exact_places seat u.0 (equal_order (place_order seat u.0) at)) shelf, are.1)
    by false at later = (are.0, later)

pub shelves_set : (us : Shelved) → AreShelves us → (seat : Place) (kept : Kept) → IsShelf seat kept → AreShelves (set_value (is_at (place_order seat)) us kept)
shelves_set us are seat kept shelf = record {
  ordered = subst (IsStrictlySortedBy place_order) (sym (keys-set_value (is_at (place_order seat)) us kept)) are.ordered;
  each = each_set us are.each seat kept shelf;
}

-- ---- a slot is emptied

emptied_in : (test : Place → Bool) (own : ℕ → Bool) (seat : Place) (slots : Kept) → ((a : ℕ) → test (place_in seat a) ≡ own a)
    → set_value test (shelf_entries seat slots) None ≡ shelf_entries seat (set_value own slots None)
emptied_in test own seat [] alike = refl
emptied_in test own seat (s ∷ ss) alike = by (test (place_in seat s.0)) (own s.0) (alike s.0) (emptied_in test own seat ss alike)
  where
    by : (b d : Bool) → b ≡ d → set_value test (shelf_entries seat ss) None ≡ shelf_entries seat (set_value own ss None)
        → cond b ((place_in seat s.0, None) ∷ shelf_entries seat ss) ((place_in seat s.0, s.1) ∷ set_value test (shelf_entries seat ss) None)
        ≡ shelf_entries seat (cond d ((s.0, None) ∷ ss) (s ∷ set_value own ss None))
    by true true e later = refl
    by true false e later = cc
    by false true e later = cc
    by false false e later = ap (λ (xs : Entries). (place_in seat s.0, s.1) ∷ xs) later

emptied_first : (p : Place) (xs ys : Entries) → lookup (is_at (place_order p)) ys ≡ None → set_value (is_at (place_order p)) (xs ++ ys) None ≡ set_value (is_at (place_order p)) xs None ++ ys
emptied_first p [] ys none = none_emptied ys p none
emptied_first p (x ∷ xs) ys none = by (is_at (place_order p) x.0) (emptied_first p xs ys none)
  where
    by : (b : Bool) → set_value (is_at (place_order p)) (xs ++ ys) None ≡ set_value (is_at (place_order p)) xs None ++ ys
        → cond b ((x.0, None) ∷ xs ++ ys) (x ∷ set_value (is_at (place_order p)) (xs ++ ys) None) ≡ cond b ((x.0, None) ∷ xs) (x ∷ set_value (is_at (place_order p)) xs None) ++ ys
    by true later = refl
    by false later = ap (λ (es : Entries). x ∷ es) later

emptied_second : (p : Place) (xs ys : Entries) → lookup (is_at (place_order p)) xs ≡ None → set_value (is_at (place_order p)) (xs ++ ys) None ≡ xs ++ set_value (is_at (place_order p)) ys None
emptied_second p [] ys none = refl
emptied_second p (x ∷ xs) ys none = by (is_at (place_order p) x.0) none (emptied_second p xs ys)
  where
    by : (b : Bool) → cond b (Some x.1) (lookup (is_at (place_order p)) xs) ≡ None
        → (lookup (is_at (place_order p)) xs ≡ None → set_value (is_at (place_order p)) (xs ++ ys) None ≡ xs ++ set_value (is_at (place_order p)) ys None)
        → cond b ((x.0, None) ∷ xs ++ ys) (x ∷ set_value (is_at (place_order p)) (xs ++ ys) None) ≡ x ∷ xs ++ set_value (is_at (place_order p)) ys None
    by true n later = cc
    by false n later = ap (λ (es : Entries). x ∷ es) (later n)

cleared : (us : Shelved) → AreShelves us → (p : Place) → is_proper p ≡ true → (slots : Kept) → lookup (is_at (place_order (seat_at p))) us ≡ Some slots
    → entries_of (set_value (is_at (place_order (seat_at p))) us (set_value (is_at (nat_cmp p.attr)) slots None)) ≡ set_value (is_at (place_order p)) (entries_of us) None
cleared = changed (λ test es. set_value test es None) (λ test slots. set_value test slots None) emptied_in emptied_first emptied_second

shelves_cleared : (us : Shelved) → AreShelves us → (p : Place) → is_proper p ≡ true → (slots : Kept) → lookup (is_at (place_order (seat_at p))) us ≡ Some slots
    → AreShelves (set_value (is_at (place_order (seat_at p))) us (set_value (is_at (nat_cmp p.attr)) slots None))
shelves_cleared us are p proper slots there =
    let shelf = shelf_at us are.each (seat_at p) slots there in
    let same = sym (keys-set_value (is_at (nat_cmp p.attr)) slots None) in
    shelves_set us are (seat_at p) (set_value (is_at (nat_cmp p.attr)) slots None) (record {
      seated = shelf.seated;
      rising = subst (IsStrictlySortedBy nat_cmp) same shelf.rising;
      own = λ l. subst (AllByRecursion (λ a. a ≡ (seat_at p).attr)) same (shelf.own l);
    })

-- the slot of a place is emptied, if there is one
pub record IsCleared (us new : Shelved) (p : Place) (full : Bool) : Type 0 where
  pub are : AreShelves new
  pub was : full ≡ is_some (flat (lookup (is_at (place_order p)) (entries_of us)))
  pub entries : entries_of new ≡ set_value (is_at (place_order p)) (entries_of us) None

pub new_cleared : (us new : Shelved) → AreShelves us → (p seat : Place) → is_proper p ≡ true → seat ≡ seat_at p → (slots kept : Kept) → lookup (is_at (place_order (seat_at p))) us ≡ Some slots
    → kept ≡ set_value (is_at (nat_cmp p.attr)) slots None → new ≡ set_value (is_at (place_order seat)) us kept
    → (full : Bool) → full ≡ is_some (flat (lookup (is_at (nat_cmp p.attr)) slots)) → IsCleared us new p full
new_cleared us new are p seat proper at slots kept there set is full told =
    let here : new ≡ set_value (is_at (place_order (seat_at p))) us (set_value (is_at (nat_cmp p.attr)) slots None) =
    is ∙ ap (λ s. set_value (is_at (place_order s)) us kept) at ∙ ap (set_value (is_at (place_order (seat_at p))) us) set
    in
    record {
      are = subst AreShelves (sym here) (shelves_cleared us are p proper slots there);
      was = told ∙ sym (ap (λ o. is_some (flat o)) (found_in us are p proper slots there));
      entries = ap entries_of here ∙ cleared us are p proper slots there;
    }

pub none_cleared : (us new : Shelved) → AreShelves us → (p : Place) → is_proper p ≡ true → lookup (is_at (place_order (seat_at p))) us ≡ None → new ≡ us
    → (full : Bool) → full ≡ false → IsCleared us new p full
none_cleared us new are p proper none is full told =
    let nowhere = found_none us are p proper none in
    record {
      are = subst AreShelves (sym is) are;
      was = told ∙ sym (ap (λ o. is_some (flat o)) nowhere);
      entries = ap entries_of is ∙ sym (none_emptied (entries_of us) p nowhere);
    }

-- ---- a slot is taken out

freed_in : (test : Place → Bool) (own : ℕ → Bool) (seat : Place) (slots : Kept) → ((a : ℕ) → test (place_in seat a) ≡ own a)
    → remove_entry test (shelf_entries seat slots) ≡ shelf_entries seat (remove_entry own slots)
freed_in test own seat [] alike = refl
freed_in test own seat (s ∷ ss) alike = by (test (place_in seat s.0)) (own s.0) (alike s.0) (freed_in test own seat ss alike)
  where
    by : (b d : Bool) → b ≡ d → remove_entry test (shelf_entries seat ss) ≡ shelf_entries seat (remove_entry own ss)
        → cond b (shelf_entries seat ss) ((place_in seat s.0, s.1) ∷ remove_entry test (shelf_entries seat ss)) ≡ shelf_entries seat (cond d ss (s ∷ remove_entry own ss))
    by true true e later = refl
    by true false e later = cc
    by false true e later = cc
    by false false e later = ap (λ (xs : Entries). (place_in seat s.0, s.1) ∷ xs) later

none_freed : (es : Entries) (p : Place) → lookup (is_at (place_order p)) es ≡ None → remove_entry (is_at (place_order p)) es ≡ es
none_freed [] p none = refl
none_freed (e ∷ es) p none = by (is_at (place_order p) e.0) none (none_freed es p)
  where
    by : (b : Bool) → cond b (Some e.1) (lookup (is_at (place_order p)) es) ≡ None → (lookup (is_at (place_order p)) es ≡ None → remove_entry (is_at (place_order p)) es ≡ es)
        → cond b es (e ∷ remove_entry (is_at (place_order p)) es) ≡ e ∷ es
    by true n later = cc
    by false n later = ap (λ (xs : Entries). e ∷ xs) (later n)

freed_first : (p : Place) (xs ys : Entries) → lookup (is_at (place_order p)) ys ≡ None → remove_entry (is_at (place_order p)) (xs ++ ys) ≡ remove_entry (is_at (place_order p)) xs ++ ys
freed_first p [] ys none = none_freed ys p none
freed_first p (x ∷ xs) ys none = by (is_at (place_order p) x.0) (freed_first p xs ys none)
  where
    by : (b : Bool) → remove_entry (is_at (place_order p)) (xs ++ ys) ≡ remove_entry (is_at (place_order p)) xs ++ ys
        → cond b (xs ++ ys) (x ∷ remove_entry (is_at (place_order p)) (xs ++ ys)) ≡ cond b xs (x ∷ remove_entry (is_at (place_order p)) xs) ++ ys
    by true later = refl
    by false later = ap (λ (es : Entries). x ∷ es) later

freed_second : (p : Place) (xs ys : Entries) → lookup (is_at (place_order p)) xs ≡ None → remove_entry (is_at (place_order p)) (xs ++ ys) ≡ xs ++ remove_entry (is_at (place_order p)) ys
freed_second p [] ys none = refl
freed_second p (x ∷ xs) ys none = by (is_at (place_order p) x.0) none (freed_second p xs ys)
  where
    by : (b : Bool) → cond b (Some x.1) (lookup (is_at (place_order p)) xs) ≡ None
        → (lookup (is_at (place_order p)) xs ≡ None → remove_entry (is_at (place_order p)) (xs ++ ys) ≡ xs ++ remove_entry (is_at (place_order p)) ys)
        → cond b (xs ++ ys) (x ∷ remove_entry (is_at (place_order p)) (xs ++ ys)) ≡ x ∷ xs ++ remove_entry (is_at (place_order p)) ys
    by true n later = cc
    by false n later = ap (λ (es : Entries). x ∷ es) (later n)

freed : (us : Shelved) → AreShelves us → (p : Place) → is_proper p ≡ true → (slots : Kept) → lookup (is_at (place_order (seat_at p))) us ≡ Some slots
    → entries_of (set_value (is_at (place_order (seat_at p))) us (remove_entry (is_at (nat_cmp p.attr)) slots)) ≡ remove_entry (is_at (place_order p)) (entries_of us)
freed = changed (λ test es. remove_entry test es) (λ test slots. remove_entry test slots) freed_in freed_first freed_second

all_without : {K V : Type 0} (test : K → Bool) (P : K → Type 0) (es : List (K × V)) → AllByRecursion P (keys_of es) → AllByRecursion P (keys_of (remove_entry test es))
all_without test P [] all = tt
all_without test P (e ∷ es) all = by (test e.0) (all_without test P es all.1)
  where
    by : (b : Bool) → AllByRecursion P (keys_of (remove_entry test es)) → AllByRecursion P (keys_of (cond b es (e ∷ remove_entry test es)))
    by true rest = all.1
    by false rest = (all.0, rest)

rising_without : {K V : Type 0} (order : K → K → Ordering) (test : K → Bool) (es : List (K × V)) → IsStrictlySortedBy order (keys_of es) → IsStrictlySortedBy order (keys_of (remove_entry test es))
unfolding IsStrictlySortedBy
rising_without order test [] rising = tt
rising_without order test (e ∷ es) rising = by (test e.0) (rising_without order test es rising.1)
  where
    by : (b : Bool) → IsStrictlySortedBy order (keys_of (remove_entry test es)) → IsStrictlySortedBy order (keys_of (cond b es (e ∷ remove_entry test es)))
    by true rest = rising.1
    by false rest = (all_without test (λ k. order e.0 k ≡ Less) es rising.0, rest)

shelves_freed : (us : Shelved) → AreShelves us → (p : Place) → is_proper p ≡ true → (slots : Kept) → lookup (is_at (place_order (seat_at p))) us ≡ Some slots
    → AreShelves (set_value (is_at (place_order (seat_at p))) us (remove_entry (is_at (nat_cmp p.attr)) slots))
shelves_freed us are p proper slots there =
    let shelf = shelf_at us are.each (seat_at p) slots there in
    shelves_set us are (seat_at p) (remove_entry (is_at (nat_cmp p.attr)) slots) (record {
      seated = shelf.seated;
      rising = rising_without nat_cmp (is_at (nat_cmp p.attr)) slots shelf.rising;
      own = λ l. all_without (is_at (nat_cmp p.attr)) (λ a. a ≡ (seat_at p).attr) slots (shelf.own l);
    })

-- what is written back as it was
set_again : (us : Shelved) (seat : Place) (slots : Kept) → lookup (is_at (place_order seat)) us ≡ Some slots → set_value (is_at (place_order seat)) us slots ≡ us
set_again [] seat slots there = cc
set_again (u ∷ us) seat slots there = by (is_at (place_order seat) u.0) there (set_again us seat slots)
  where
    by : (b : Bool) → cond b (Some u.1) (lookup (is_at (place_order seat)) us) ≡ Some slots → (lookup (is_at (place_order seat)) us ≡ Some slots → set_value (is_at (place_order seat)) us slots ≡ us)
        → cond b ((u.0, slots) ∷ us) (u ∷ set_value (is_at (place_order seat)) us slots) ≡ u ∷ us
    by true found later = let same : u.1 ≡ slots = cc in ap (λ (ss : Kept). (u.0, ss) ∷ us) (sym same)
    by false found later = ap (λ (vs : Shelved). u ∷ vs) (later found)

-- a slot is taken out if it is empty, and else all stays
pub record IsFreed (us new : Shelved) (p : Place) : Type 0 where
  pub are : AreShelves new
  pub freed : lookup (is_at (place_order p)) (entries_of us) ≡ Some None → entries_of new ≡ remove_entry (is_at (place_order p)) (entries_of us)
  pub same : (lookup (is_at (place_order p)) (entries_of us) ≡ Some None → ⊥) → entries_of new ≡ entries_of us

pub new_freed : (us new : Shelved) → AreShelves us → (p seat : Place) → is_proper p ≡ true → seat ≡ seat_at p → (slots kept : Kept) → lookup (is_at (place_order (seat_at p))) us ≡ Some slots
    → (lookup (is_at (nat_cmp p.attr)) slots ≡ Some None → kept ≡ remove_entry (is_at (nat_cmp p.attr)) slots)
    → ((lookup (is_at (nat_cmp p.attr)) slots ≡ Some None → ⊥) → kept ≡ slots)
    → new ≡ set_value (is_at (place_order seat)) us kept → IsFreed us new p
new_freed us new are p seat proper at slots kept there taken stays is = by (lookup (is_at (nat_cmp p.attr)) slots) refl
  where
    found : lookup (is_at (place_order p)) (entries_of us) ≡ lookup (is_at (nat_cmp p.attr)) slots
    found = found_in us are p proper slots there

    with_kept : (k : Kept) → kept ≡ k → new ≡ set_value (is_at (place_order (seat_at p))) us k
    with_kept k e = is ∙ ap (λ s. set_value (is_at (place_order s)) us kept) at ∙ ap (set_value (is_at (place_order (seat_at p))) us) e

    all : (lookup (is_at (nat_cmp p.attr)) slots ≡ Some None → ⊥) → IsFreed us new p
    all full =
        let same : new ≡ us = with_kept slots (stays full) ∙ set_again us (seat_at p) slots there in
        record { are = subst AreShelves (sym same) are; freed = λ e. absurd (full (sym found ∙ e)); same = λ e. ap entries_of same }

    by : (o : Option (Option Held)) → lookup (is_at (nat_cmp p.attr)) slots ≡ o → IsFreed us new p
    by None e = all (λ f. let wrong : None ≡ Some None = sym e ∙ f in cc)
    by (Some (Some h)) e = all (λ f. let wrong : Some (Some h) ≡ Some None = sym e ∙ f in cc)
    by (Some None) e =
        let gone : new ≡ set_value (is_at (place_order (seat_at p))) us (remove_entry (is_at (nat_cmp p.attr)) slots) = with_kept (remove_entry (is_at (nat_cmp p.attr)) slots) (taken e) in
        record {
          are = subst AreShelves (sym gone) (shelves_freed us are p proper slots there);
          freed = λ f. ap entries_of gone ∙ freed us are p proper slots there;
          same = λ f. absurd (f (found ∙ e));
        }

-- and where there is no shelf, all stays
pub none_freed_in : (us new : Shelved) → AreShelves us → (p : Place) → is_proper p ≡ true → lookup (is_at (place_order (seat_at p))) us ≡ None
    → new ≡ us → IsFreed us new p
none_freed_in us new are p proper none is = record {
  are = subst AreShelves (sym is) are;
  freed = λ e. let wrong : Some None ≡ None = sym e ∙ found_none us are p proper none in cc;
  same = λ e. ap entries_of is;
}

-- ---- a shelf without slots is taken out

pub bare_gone : (us : Shelved) (seat : Place) → lookup (is_at (place_order seat)) us ≡ Some [] → entries_of (remove_entry (is_at (place_order seat)) us) ≡ entries_of us
bare_gone [] seat bare = cc
bare_gone (u ∷ us) seat bare = by (is_at (place_order seat) u.0) bare (bare_gone us seat)
  where
    by : (b : Bool) → cond b (Some u.1) (lookup (is_at (place_order seat)) us) ≡ Some []
        → (lookup (is_at (place_order seat)) us ≡ Some [] → entries_of (remove_entry (is_at (place_order seat)) us) ≡ entries_of us)
        → entries_of (cond b us (u ∷ remove_entry (is_at (place_order seat)) us)) ≡ shelf_entries u.0 u.1 ++ entries_of us
    by true found later = let none : u.1 ≡ [] = cc in ap (λ (ss : Kept). shelf_entries u.0 ss ++ entries_of us) (sym none)
    by false found later = ap (λ (xs : Entries). shelf_entries u.0 u.1 ++ xs) (later found)

each_without : (us : Shelved) → AreAllShelves us → (seat : Place) → AreAllShelves (remove_entry (is_at (place_order seat)) us)
each_without [] are seat = tt
each_without (u ∷ us) are seat = by (is_at (place_order seat) u.0) (each_without us are.1 seat)
  where
    by : (b : Bool) → AreAllShelves (remove_entry (is_at (place_order seat)) us) → AreAllShelves (cond b us (u ∷ remove_entry (is_at (place_order seat)) us))
    by true rest = are.1
    by false rest = (are.0, rest)

pub shelves_without : (us : Shelved) → AreShelves us → (seat : Place) → AreShelves (remove_entry (is_at (place_order seat)) us)
shelves_without us are seat = record {
  ordered = rising_without place_order (is_at (place_order seat)) us are.ordered;
  each = each_without us are.each seat;
}
