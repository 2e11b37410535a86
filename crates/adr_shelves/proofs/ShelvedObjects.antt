-- What becomes of the slots of shelves where the rows of an object are put, one after the other, or in the place of all it had.
use Rattle.std.proofs.Common.{◌≡◌, ℕ, ◌+◌, ◌<◌, length, get_or, take, fold, List, [], ◌∷◌, ◌++◌, Bool, true, false, cond, not, Option, Some, None, refl, sym, ap, ◌∙◌, subst}
use Rattle.std.specs.List.{list_all}
use Rattle.std.specs.List.Sorted.{IsStrictlySortedBy}
use Rattle.std.specs.Map.{keys_of, lookup}
use Rattle.std.specs.Option.{unwrap_or}
use Rattle.std.specs.Ordering.{is_eq, match_ordering, nat_cmp}
use Rattle.std.specs.Cmp.{IsTotalOrder}
use Rattle.std.specs.declared.cmp.Ordering.{Ordering}
use Rattle.std.specs.declared.cmp.Ordering.TheVariants.{Less, Equal, Greater}
use Rattle.std.specs.BTreeMap.{insert_entry, is_at}
use Rattle.std.proofs.lemmas.Cmp.{nat_cmp_total, tied_itself}
use Rattle.std.proofs.lemmas.List.Elements.{filter-append}
use Rattle.std.proofs.lemmas.List.Sums.{fold_more}
use Rattle.adr_values.specs.declared.stamp.Oid.{Oid}
use Rattle.adr_values.proofs.Comparing.{both_true}
use Rattle.adr_model.specs.Store.{Held, is_row_of}
use Rattle.adr_model.specs.Update.{Key, RowOf, LinkOf, Update}
use Rattle.adr_model.proofs.Keys.{objects_tell}
use Rattle.adr_update.proofs.Slots.{later_none, none_below as none_under}
use Rattle.adr_shelves.specs.declared.place.Place.{Place}
use Rattle.adr_shelves.specs.Place.{is_of_unit, is_proper, place_of, place_order, rows_start, seat_at}
use Rattle.adr_shelves.specs.Shelf.{with_own}
use Rattle.adr_shelves.specs.Shelves.{AreAllShelves, AreShelves, IsShelf, entries_of, held_at, shelf_entries, with_update, without_unit}
use Rattle.adr_shelves.proofs.Places.{exact_places, places_total, proper_place}
use Rattle.adr_shelves.proofs.Entries.{Entries}
use Rattle.adr_shelves.proofs.Shelved.{Kept, Shelved, shelves_rest}
use Rattle.adr_shelves.proofs.ShelvedFrees.{found_in}
use Rattle.adr_shelves.proofs.ShelvedParts.{of_shelf, shelf_passing}
use Rattle.adr_shelves.proofs.ShelvedWrites.{HaveNow, bare_shelf, lookup_put, put_at, shelves_at, sorted_put}

-- ---- put again at a key, it is the last that stays

module _ {K X : Type 0} (order : K → K → Ordering) (total : IsTotalOrder order) (k : K) (v : X) where
  put_over : (w : X) (es : List (K × X)) → insert_entry order (insert_entry order es k v) k w ≡ insert_entry order es k w
  put_over w [] = ap (λ o. match_ordering o ((k, w) ∷ (k, v) ∷ []) ((k, w) ∷ []) ((k, v) ∷ (k, w) ∷ [])) (tied_itself total k)
  put_over w (e ∷ es) = by (order k e.0) refl (put_over w es)
    where
      by : (o : Ordering) → order k e.0 ≡ o → insert_entry order (insert_entry order es k v) k w ≡ insert_entry order es k w
          → insert_entry order (match_ordering o ((k, v) ∷ e ∷ es) ((e.0, v) ∷ es) (e ∷ insert_entry order es k v)) k w
          ≡ match_ordering o ((k, w) ∷ e ∷ es) ((e.0, w) ∷ es) (e ∷ insert_entry order es k w)
      by Less at later =
          ap (λ o. match_ordering o ((k, w) ∷ (k, v) ∷ e ∷ es) ((k, w) ∷ e ∷ es) ((k, v) ∷ insert_entry order (e ∷ es) k w)) (tied_itself total k)
      by Equal at later = ap (λ o. match_ordering o ((k, w) ∷ (e.0, v) ∷ es) ((e.0, w) ∷ es) ((e.0, v) ∷ insert_entry order es k w)) at
      by Greater at later =
          ap (λ o. match_ordering o ((k, w) ∷ e ∷ insert_entry order es k v) ((e.0, w) ∷ insert_entry order es k v) (e ∷ insert_entry order (insert_entry order es k v) k w)) at
          ∙ ap (λ xs. e ∷ xs) later

-- ---- the slots of a unit go

unit_parts : (seat : Place) (xs ys : Entries) → without_unit seat (xs ++ ys) ≡ without_unit seat xs ++ without_unit seat ys
unit_parts seat xs ys = filter-append (λ (e : Place × Option Held). not (is_of_unit seat e.0)) xs ys

-- those of a shelf go if it is the unit's, and else they stay
shelf_goes : (seat s : Place) (slots : Kept) → IsShelf s slots → is_at (place_order seat) s ≡ true → without_unit seat (shelf_entries s slots) ≡ []
shelf_goes seat s slots shelf at = shelf_passing (λ q. not (is_of_unit seat q)) false s slots shelf (λ a own. ap not (of_shelf seat s slots shelf true at a own))

shelf_stays : (seat s : Place) (slots : Kept) → IsShelf s slots → is_at (place_order seat) s ≡ false → without_unit seat (shelf_entries s slots) ≡ shelf_entries s slots
shelf_stays seat s slots shelf apart = shelf_passing (λ q. not (is_of_unit seat q)) true s slots shelf (λ a own. ap not (of_shelf seat s slots shelf false apart a own))

-- where there is no shelf at a seat, all slots stay
all_stay : (us : Shelved) → AreAllShelves us → (seat : Place) → lookup (is_at (place_order seat)) us ≡ None → without_unit seat (entries_of us) ≡ entries_of us
all_stay [] each seat none = refl
all_stay (u ∷ us) each seat none = by (is_at (place_order seat) u.0) refl none (all_stay us each.1 seat)
  where
    by : (b : Bool) → is_at (place_order seat) u.0 ≡ b → cond b (Some u.1) (lookup (is_at (place_order seat)) us) ≡ None
        → (lookup (is_at (place_order seat)) us ≡ None → without_unit seat (entries_of us) ≡ entries_of us)
        → without_unit seat (shelf_entries u.0 u.1 ++ entries_of us) ≡ shelf_entries u.0 u.1 ++ entries_of us
    by true at n later = cc
    by false apart n later =
        unit_parts seat (shelf_entries u.0 u.1) (entries_of us)
        ∙ ap (λ (xs : Entries). xs ++ without_unit seat (entries_of us)) (shelf_stays seat u.0 u.1 each.0 apart)
        ∙ ap (λ (xs : Entries). shelf_entries u.0 u.1 ++ xs) (later n)

-- a shelf without slots in the place of that at a seat leaves those of the other units
bare_put : (us : Shelved) → AreShelves us → (seat : Place) → entries_of (insert_entry place_order us seat []) ≡ without_unit seat (entries_of us)
bare_put [] are seat = refl
bare_put (u ∷ us) are seat = by (place_order seat u.0) refl (bare_put us (shelves_rest u us are) seat)
  where
    by : (o : Ordering) → place_order seat u.0 ≡ o → entries_of (insert_entry place_order us seat []) ≡ without_unit seat (entries_of us)
        → entries_of (match_ordering o ((seat, []) ∷ u ∷ us) ((u.0, []) ∷ us) (u ∷ insert_entry place_order us seat [])) ≡ without_unit seat (shelf_entries u.0 u.1 ++ entries_of us)
    by Less at later = sym (all_stay (u ∷ us) are.each seat (none_under place_order places_total seat u us are.ordered at))
    by Equal at later =
        sym (unit_parts seat (shelf_entries u.0 u.1) (entries_of us)
        ∙ ap (λ (xs : Entries). xs ++ without_unit seat (entries_of us)) (shelf_goes seat u.0 u.1 are.each.0 (ap is_eq at))
        ∙ all_stay us are.each.1 seat (later_none place_order places_total seat u us are.ordered (ap is_eq at)))
    by Greater at later =
        ap (λ (xs : Entries). shelf_entries u.0 u.1 ++ xs) later
        ∙ sym (unit_parts seat (shelf_entries u.0 u.1) (entries_of us)
        ∙ ap (λ (xs : Entries). xs ++ without_unit seat (entries_of us)) (shelf_stays seat u.0 u.1 are.each.0 (ap is_eq at)))

-- ---- the rows of an object are put, one after the other

-- slots with what is said of the one at a key in its place
abbrev put_by : {K : Type 0} → (K → K → Ordering) → List (K × Option Held) → K → (Option (Option Held) → Option Held) → List (K × Option Held)
put_by order es k what = insert_entry order es k (what (lookup (is_at (order k)) es))

-- one more slot in the shelf at a seat is one more among all slots
one_more : (us : Shelved) → AreShelves us → (p : Place) → is_proper p ≡ true → (slots : Kept) → IsShelf (seat_at p) slots → (what : Option (Option Held) → Option Held)
    → entries_of (insert_entry place_order us (seat_at p) (put_by nat_cmp slots p.attr what)) ≡ put_by place_order (entries_of (insert_entry place_order us (seat_at p) slots)) p what
one_more us are p proper slots shelf what =
    let put : Shelved = insert_entry place_order us (seat_at p) slots in
    let puts : AreShelves put = shelves_at us are (seat_at p) slots shelf in
    let v : Option Held = what (lookup (is_at (nat_cmp p.attr)) slots) in
    let there : lookup (is_at (place_order (seat_at p))) put ≡ Some slots =
    lookup_put place_order places_total exact_places (seat_at p) slots (seat_at p) us
    ∙ ap (λ o. cond (is_eq o) (Some slots) (lookup (is_at (place_order (seat_at p))) us)) (tied_itself places_total (seat_at p))
    in
    sym (ap (λ (vs : Shelved). entries_of vs) (put_over place_order places_total (seat_at p) slots (insert_entry nat_cmp slots p.attr v) us))
    ∙ sym (ap (λ (o : Option Kept). entries_of (insert_entry place_order put (seat_at p) (insert_entry nat_cmp (unwrap_or o []) p.attr v))) there)
    ∙ put_at put puts.ordered puts.each p proper v
    ∙ sym (ap (λ o. insert_entry place_order (entries_of put) p (what o)) (found_in put puts p proper slots there))

-- the rows of an object stand at its seat
pub row_seat : (o : Oid) (k : Key) → is_row_of o k ≡ true → seat_at (place_of k) ≡ rows_start o
row_seat o (RowOf p a) own = ap rows_start (objects_tell p o own)
row_seat o (LinkOf l) own = cc

-- of each, the key of its row, and what is put for it, by what is there
module _ {A : Type 0} (key : A → Key) (what : A → Option (Option Held) → Option Held) where
  abbrev own_put : Kept → A → Kept
  own_put slots x = put_by nat_cmp slots (place_of (key x)).attr (what x)

  abbrev put : Entries → A → Entries
  put es x = put_by place_order es (place_of (key x)) (what x)

  rise_on : (xs : List A) (slots : Kept) → IsStrictlySortedBy nat_cmp (keys_of slots) → IsStrictlySortedBy nat_cmp (keys_of (fold own_put slots xs))
  rise_on [] slots rising = rising
  rise_on (x ∷ xs) slots rising =
      let attr = (place_of (key x)).attr in
      rise_on xs (own_put slots x) (sorted_put nat_cmp attr (what x (lookup (is_at (nat_cmp attr)) slots)) nat_cmp_total slots rising)

  pub rows_rise : (xs : List A) → IsStrictlySortedBy nat_cmp (keys_of (fold own_put [] xs))
  unfolding IsStrictlySortedBy
  rows_rise xs = rise_on xs [] tt

  -- a shelf of an object stays one
  rows_shelf : (o : Oid) (xs : List A) (slots : Kept) → IsShelf (rows_start o) slots → IsShelf (rows_start o) (fold own_put slots xs)
  rows_shelf o xs slots shelf = record { seated = refl; rising = rise_on xs slots shelf.rising; own = λ link. let wrong : false ≡ true = link in cc }

  rows_put : (us : Shelved) → AreShelves us → (o : Oid) (xs : List A) → list_all (λ x. is_row_of o (key x)) xs ≡ true → (slots : Kept) → IsShelf (rows_start o) slots
      → entries_of (insert_entry place_order us (rows_start o) (fold own_put slots xs)) ≡ fold put (entries_of (insert_entry place_order us (rows_start o) slots)) xs
  rows_put us are o [] own slots shelf = refl
  rows_put us are o (x ∷ xs) own slots shelf =
      let both = both_true (is_row_of o (key x)) (list_all (λ x. is_row_of o (key x)) xs) own in
      let here : seat_at (place_of (key x)) ≡ rows_start o = row_seat o (key x) both.0 in
      rows_put us are o xs both.1 (own_put slots x) (rows_shelf o (x ∷ []) slots shelf)
      ∙ ap (λ (es : Entries). fold put es xs)
      (subst (λ (s : Place). entries_of (insert_entry place_order us s (own_put slots x)) ≡ put (entries_of (insert_entry place_order us s slots)) x)
      here
      (one_more us are (place_of (key x)) (proper_place (key x)) slots (subst (λ (s : Place). IsShelf s slots) (sym here) shelf) (what x)))

  -- the shelf of an object, with these put, among the others
  pub rows_have : (us : Shelved) → AreShelves us → (o : Oid) (xs : List A) → list_all (λ x. is_row_of o (key x)) xs ≡ true → (slots : Kept) → IsShelf (rows_start o) slots
      → (new : Shelved) → new ≡ insert_entry place_order us (rows_start o) (fold own_put slots xs) → (es : Entries) → entries_of (insert_entry place_order us (rows_start o) slots) ≡ es
      → HaveNow new (fold put es xs)
  rows_have us are o xs own slots shelf new is es before = record {
    are = subst AreShelves (sym is) (shelves_at us are (rows_start o) (fold own_put slots xs) (rows_shelf o xs slots shelf));
    entries = ap entries_of is ∙ rows_put us are o xs own slots shelf ∙ ap (λ (es : Entries). fold put es xs) before;
  }

-- one more is put after those so far
pub put_more : {A : Type 0} (put : Kept → A → Kept) (xs : List A) (i : ℕ) (x : A) → i < length xs → x ≡ get_or xs i x → (slots new : Kept) → slots ≡ fold put [] (take i xs)
    → new ≡ put slots x → new ≡ fold put [] (take (i + 1) xs)
put_more put xs i x in_range at slots new so_far is =
    is ∙ ap (λ (s : Kept). put s x) so_far ∙ ap (put (fold put [] (take i xs))) at ∙ sym (fold_more put [] xs i x in_range)

-- the shelf of an object is put, with copies of its rows in the place of all that it had
pub new_replaced : (us new : Shelved) → AreShelves us → (now : Entries) → entries_of us ≡ now → (o : Oid) (local : ℕ) (rows : List Update) → list_all (λ u. is_row_of o u.key) rows ≡ true
    → (seat : Place) → seat ≡ rows_start o → (slots : Kept) → slots ≡ fold (with_own local) [] rows → new ≡ insert_entry place_order us seat slots
    → HaveNow new (fold (with_update local) (without_unit (rows_start o) now) rows)
new_replaced us new are now view o local rows own seat at slots copied is =
    rows_have (λ u. u.key) (λ u w. Some (held_at local u)) us are o rows own [] (bare_shelf (rows_start o) refl)
    new (is ∙ ap (λ s. insert_entry place_order us s slots) at ∙ ap (insert_entry place_order us (rows_start o)) copied)
    (without_unit (rows_start o) now) (bare_put us are (rows_start o) ∙ ap (without_unit (rows_start o)) view)
