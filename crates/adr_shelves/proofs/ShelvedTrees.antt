-- Shelves of objects and those of links, each in a tree of their own, are one list.
use Rattle.std.proofs.Common.{◌≡◌, ℕ, List, [], ◌∷◌, ◌++◌, Bool, true, false, cond, ◌&&◌, ◌||◌, Option, Some, None, refl, sym, ap, ◌∙◌, subst, suc, length, ◌+◌, ◌≤◌, arith, append_assoc}
use Rattle.std.specs.Prelude.{OnErr, OnOk, is_some, ◌==◌}
use Rattle.std.specs.declared.result.Result.{Result}
use Rattle.std.specs.List.{AllByRecursion}
use Rattle.std.specs.List.Sorted.{IsStrictlySortedBy}
use Rattle.std.specs.Map.{keys_of, lookup, remove_entry, set_value}
use Rattle.std.specs.Option.{is_none, option_cmp}
use Rattle.std.specs.Ordering.{is_eq, is_le, match_ordering, ordering_then}
use Rattle.std.specs.declared.cmp.Ordering.{Ordering}
use Rattle.std.specs.declared.cmp.Ordering.TheVariants.{Less, Equal, Greater}
use Rattle.std.specs.declared.ops.Bound.TheVariants.{Included, Unbounded}
use Rattle.std.specs.BTreeMap.{BTreeMap, insert_entry, is_at}
use Rattle.std.specs.BTreeMap.Range.{entries_between, range_contains}
use Rattle.std.proofs.lemmas.Bool.Decides.{nat_tests}
use Rattle.std.proofs.lemmas.List.Elements.{filter-append}
use Rattle.adr_values.specs.Order.{birth_order, identifier_order}
use Rattle.adr_shelves.specs.declared.place.LinkSeat.{LinkSeat}
use Rattle.adr_shelves.specs.declared.place.ObjectSeat.{ObjectSeat}
use Rattle.adr_shelves.specs.declared.place.Place.{Place}
use Rattle.adr_shelves.specs.Place.{is_of_class, is_of_link, is_proper, is_seat, link_place, link_seat, link_seat_order, object_place, object_seat, object_seat_order, place_in, place_order, seat_at}
use Rattle.adr_shelves.specs.Shelves.{AreAllShelves, AreShelves, all_shelves, entries_of, one_more_if, placed, shelf_entries, tally}
use Rattle.adr_shelves.proofs.Entries.{Entries}
use Rattle.adr_model.proofs.Keys.{equal_order}
use Rattle.adr_shelves.proofs.Places.{exact_places}
use Rattle.adr_shelves.proofs.Shelved.{Kept, Shelved, class_once, link_once, none_counted, one_each}

-- ---- shelves behind a place, or before it

abbrev AreOnOneSide : Ordering → Place → Shelved → Type 0
AreOnOneSide o p us = AllByRecursion (λ q. place_order p q ≡ o) (keys_of us)

module _ (p : Place) where
  none_behind : (us : Shelved) → AreOnOneSide Less p us → lookup (is_at (place_order p)) us ≡ None
  none_behind [] less = refl
  none_behind (u ∷ us) less = ap (λ o. cond (is_eq o) (Some u.1) (lookup (is_at (place_order p)) us)) less.0 ∙ none_behind us less.1

  set_behind : (v : Kept) (us : Shelved) → AreOnOneSide Less p us → set_value (is_at (place_order p)) us v ≡ us
  set_behind v [] less = refl
  set_behind v (u ∷ us) less =
      ap (λ o. cond (is_eq o) ((u.0, v) ∷ us) (u ∷ set_value (is_at (place_order p)) us v)) less.0 ∙ ap (λ (vs : Shelved). u ∷ vs) (set_behind v us less.1)

  put_behind : (v : Kept) (us : Shelved) → AreOnOneSide Less p us → insert_entry place_order us p v ≡ (p, v) ∷ us
  put_behind v [] less = refl
  put_behind v (u ∷ us) less = ap (λ o. match_ordering o ((p, v) ∷ u ∷ us) ((u.0, v) ∷ us) (u ∷ insert_entry place_order us p v)) less.0

  gone_behind : (us : Shelved) → AreOnOneSide Less p us → remove_entry (is_at (place_order p)) us ≡ us
  gone_behind [] less = refl
  gone_behind (u ∷ us) less =
      ap (λ o. cond (is_eq o) us (u ∷ remove_entry (is_at (place_order p)) us)) less.0 ∙ ap (λ (vs : Shelved). u ∷ vs) (gone_behind us less.1)

  module _ (ys : Shelved) where
    found_second : (xs : Shelved) → AreOnOneSide Greater p xs → lookup (is_at (place_order p)) (xs ++ ys) ≡ lookup (is_at (place_order p)) ys
    found_second [] more = refl
    found_second (x ∷ xs) more = ap (λ o. cond (is_eq o) (Some x.1) (lookup (is_at (place_order p)) (xs ++ ys))) more.0 ∙ found_second xs more.1

    set_second : (v : Kept) (xs : Shelved) → AreOnOneSide Greater p xs → set_value (is_at (place_order p)) (xs ++ ys) v ≡ xs ++ set_value (is_at (place_order p)) ys v
    set_second v [] more = refl
    set_second v (x ∷ xs) more =
        ap (λ o. cond (is_eq o) ((x.0, v) ∷ (xs ++ ys)) (x ∷ set_value (is_at (place_order p)) (xs ++ ys) v)) more.0 ∙ ap (λ (vs : Shelved). x ∷ vs) (set_second v xs more.1)

    put_second : (v : Kept) (xs : Shelved) → AreOnOneSide Greater p xs → insert_entry place_order (xs ++ ys) p v ≡ xs ++ insert_entry place_order ys p v
    put_second v [] more = refl
    put_second v (x ∷ xs) more =
        ap (λ o. match_ordering o ((p, v) ∷ x ∷ (xs ++ ys)) ((x.0, v) ∷ (xs ++ ys)) (x ∷ insert_entry place_order (xs ++ ys) p v)) more.0
        ∙ ap (λ (vs : Shelved). x ∷ vs) (put_second v xs more.1)

    gone_second : (xs : Shelved) → AreOnOneSide Greater p xs → remove_entry (is_at (place_order p)) (xs ++ ys) ≡ xs ++ remove_entry (is_at (place_order p)) ys
    gone_second [] more = refl
    gone_second (x ∷ xs) more =
        ap (λ o. cond (is_eq o) (xs ++ ys) (x ∷ remove_entry (is_at (place_order p)) (xs ++ ys))) more.0 ∙ ap (λ (vs : Shelved). x ∷ vs) (gone_second xs more.1)

-- ---- a tree of seats among the shelves

module _ {S : Type 0} (place : S → Place) (order : S → S → Ordering) (same : (s t : S) → place_order (place s) (place t) ≡ order s t) (s : S) where
  module _ (rest : Shelved) (less : AreOnOneSide Less (place s) rest) where
    found_first : (us : List (S × Kept)) → lookup (is_at (place_order (place s))) (placed place us ++ rest) ≡ lookup (is_at (order s)) us
    found_first [] = none_behind (place s) rest less
    found_first (u ∷ us) =
        ap (λ o. cond (is_eq o) (Some u.1) (lookup (is_at (place_order (place s))) (placed place us ++ rest))) (same s u.0)
        ∙ ap (λ w. cond (is_eq (order s u.0)) (Some u.1) w) (found_first us)

    set_first : (v : Kept) (us : List (S × Kept)) → set_value (is_at (place_order (place s))) (placed place us ++ rest) v ≡ placed place (set_value (is_at (order s)) us v) ++ rest
    set_first v [] = set_behind (place s) v rest less
    set_first v (u ∷ us) =
        ap (λ o. cond (is_eq o) ((place u.0, v) ∷ (placed place us ++ rest)) ((place u.0, u.1) ∷ set_value (is_at (place_order (place s))) (placed place us ++ rest) v)) (same s u.0)
        ∙ by (is_eq (order s u.0)) (set_first v us)
      where
        by : (b : Bool) → set_value (is_at (place_order (place s))) (placed place us ++ rest) v ≡ placed place (set_value (is_at (order s)) us v) ++ rest
            → cond b ((place u.0, v) ∷ (placed place us ++ rest)) ((place u.0, u.1) ∷ set_value (is_at (place_order (place s))) (placed place us ++ rest) v)
            ≡ placed place (cond b ((u.0, v) ∷ us) (u ∷ set_value (is_at (order s)) us v)) ++ rest
        by true later = refl
        by false later = ap (λ (vs : Shelved). (place u.0, u.1) ∷ vs) later

    put_first : (v : Kept) (us : List (S × Kept)) → insert_entry place_order (placed place us ++ rest) (place s) v ≡ placed place (insert_entry order us s v) ++ rest
    put_first v [] = put_behind (place s) v rest less
    put_first v (u ∷ us) =
        ap (λ o. match_ordering o ((place s, v) ∷ (place u.0, u.1) ∷ (placed place us ++ rest)) ((place u.0, v) ∷ (placed place us ++ rest)) ((place u.0, u.1) ∷ insert_entry place_order (placed place us ++ rest) (place s) v)) (same s u.0)
        ∙ by (order s u.0) (put_first v us)
      where
        by : (o : Ordering) → insert_entry place_order (placed place us ++ rest) (place s) v ≡ placed place (insert_entry order us s v) ++ rest
            → match_ordering o ((place s, v) ∷ (place u.0, u.1) ∷ (placed place us ++ rest)) ((place u.0, v) ∷ (placed place us ++ rest)) ((place u.0, u.1) ∷ insert_entry place_order (placed place us ++ rest) (place s) v)
            ≡ placed place (match_ordering o ((s, v) ∷ u ∷ us) ((u.0, v) ∷ us) (u ∷ insert_entry order us s v)) ++ rest
        by Less later = refl
        by Equal later = refl
        by Greater later = ap (λ (vs : Shelved). (place u.0, u.1) ∷ vs) later

    gone_first : (us : List (S × Kept)) → remove_entry (is_at (place_order (place s))) (placed place us ++ rest) ≡ placed place (remove_entry (is_at (order s)) us) ++ rest
    gone_first [] = gone_behind (place s) rest less
    gone_first (u ∷ us) =
        ap (λ o. cond (is_eq o) (placed place us ++ rest) ((place u.0, u.1) ∷ remove_entry (is_at (place_order (place s))) (placed place us ++ rest))) (same s u.0)
        ∙ by (is_eq (order s u.0)) (gone_first us)
      where
        by : (b : Bool) → remove_entry (is_at (place_order (place s))) (placed place us ++ rest) ≡ placed place (remove_entry (is_at (order s)) us) ++ rest
            → cond b (placed place us ++ rest) ((place u.0, u.1) ∷ remove_entry (is_at (place_order (place s))) (placed place us ++ rest))
            ≡ placed place (cond b us (u ∷ remove_entry (is_at (order s)) us)) ++ rest
        by true later = refl
        by false later = ap (λ (vs : Shelved). (place u.0, u.1) ∷ vs) later

  -- those from the seat on
  ranged : (us : List (S × Kept)) → entries_between place_order (Included (place s)) Unbounded (placed place us) ≡ placed place (entries_between order (Included s) Unbounded us)
  ranged [] = refl
  ranged (u ∷ us) =
      ap (λ o. cond (is_le o && true) ((place u.0, u.1) ∷ entries_between place_order (Included (place s)) Unbounded (placed place us)) (entries_between place_order (Included (place s)) Unbounded (placed place us))) (same s u.0)
      ∙ by (is_le (order s u.0) && true) (ranged us)
    where
      by : (b : Bool) → entries_between place_order (Included (place s)) Unbounded (placed place us) ≡ placed place (entries_between order (Included s) Unbounded us)
          → cond b ((place u.0, u.1) ∷ entries_between place_order (Included (place s)) Unbounded (placed place us)) (entries_between place_order (Included (place s)) Unbounded (placed place us))
          ≡ placed place (cond b (u ∷ entries_between order (Included s) Unbounded us) (entries_between order (Included s) Unbounded us))
      by true later = ap (λ (vs : Shelved). (place u.0, u.1) ∷ vs) later
      by false later = later

-- ---- the two trees

then_equal : (o : Ordering) → ordering_then o Equal ≡ o
then_equal Less = refl
then_equal Equal = refl
then_equal Greater = refl

pub same_objects : (s t : ObjectSeat) → place_order (object_place s) (object_place t) ≡ object_seat_order s t
same_objects s t = ap (ordering_then (identifier_order s.guid t.guid)) (then_equal (option_cmp birth_order s.birth t.birth))

same_links : (s t : LinkSeat) → place_order (link_place s) (link_place t) ≡ link_seat_order s t
same_links s t = refl

links_behind : (s : ObjectSeat) (ls : List (LinkSeat × Kept)) → AreOnOneSide Less (object_place s) (placed link_place ls)
links_behind s [] = tt
links_behind s (l ∷ ls) = (refl, links_behind s ls)

objects_before : (s : LinkSeat) (os : List (ObjectSeat × Kept)) → AreOnOneSide Greater (link_place s) (placed object_place os)
objects_before s [] = tt
objects_before s (o ∷ os) = (refl, objects_before s os)

nothing_behind : (us : Shelved) → us ++ [] ≡ us
nothing_behind [] = refl
nothing_behind (u ∷ us) = ap (λ (vs : Shelved). u ∷ vs) (nothing_behind us)

module _ (os : List (ObjectSeat × Kept)) (ls : List (LinkSeat × Kept)) where
  module _ (s : ObjectSeat) where
    pub object_found : lookup (is_at (place_order (object_place s))) (all_shelves os ls) ≡ lookup (is_at (object_seat_order s)) os
    object_found = found_first object_place object_seat_order same_objects s (placed link_place ls) (links_behind s ls) os

    pub object_set : (v : Kept) → all_shelves (set_value (is_at (object_seat_order s)) os v) ls ≡ set_value (is_at (place_order (object_place s))) (all_shelves os ls) v
    object_set v = sym (set_first object_place object_seat_order same_objects s (placed link_place ls) (links_behind s ls) v os)

    pub object_put : (v : Kept) → all_shelves (insert_entry object_seat_order os s v) ls ≡ insert_entry place_order (all_shelves os ls) (object_place s) v
    object_put v = sym (put_first object_place object_seat_order same_objects s (placed link_place ls) (links_behind s ls) v os)

    pub object_gone : all_shelves (remove_entry (is_at (object_seat_order s)) os) ls ≡ remove_entry (is_at (place_order (object_place s))) (all_shelves os ls)
    object_gone = sym (gone_first object_place object_seat_order same_objects s (placed link_place ls) (links_behind s ls) os)

  module _ (s : LinkSeat) where
    alone : placed link_place ls ≡ placed link_place ls ++ []
    alone = sym (nothing_behind (placed link_place ls))

    pub link_found : lookup (is_at (place_order (link_place s))) (all_shelves os ls) ≡ lookup (is_at (link_seat_order s)) ls
    link_found =
        found_second (link_place s) (placed link_place ls) (placed object_place os) (objects_before s os)
        ∙ ap (lookup (is_at (place_order (link_place s)))) alone
        ∙ found_first link_place link_seat_order same_links s [] tt ls

    pub link_set : (v : Kept) → all_shelves os (set_value (is_at (link_seat_order s)) ls v) ≡ set_value (is_at (place_order (link_place s))) (all_shelves os ls) v
    link_set v =
        sym (set_second (link_place s) (placed link_place ls) v (placed object_place os) (objects_before s os)
        ∙ ap (λ (us : Shelved). placed object_place os ++ us) (ap (λ us. set_value (is_at (place_order (link_place s))) us v) alone
        ∙ set_first link_place link_seat_order same_links s [] tt v ls ∙ nothing_behind (placed link_place (set_value (is_at (link_seat_order s)) ls v))))

    pub link_put : (v : Kept) → all_shelves os (insert_entry link_seat_order ls s v) ≡ insert_entry place_order (all_shelves os ls) (link_place s) v
    link_put v =
        sym (put_second (link_place s) (placed link_place ls) v (placed object_place os) (objects_before s os)
        ∙ ap (λ (us : Shelved). placed object_place os ++ us) (ap (λ us. insert_entry place_order us (link_place s) v) alone
        ∙ put_first link_place link_seat_order same_links s [] tt v ls ∙ nothing_behind (placed link_place (insert_entry link_seat_order ls s v))))

    pub link_gone : all_shelves os (remove_entry (is_at (link_seat_order s)) ls) ≡ remove_entry (is_at (place_order (link_place s))) (all_shelves os ls)
    link_gone =
        sym (gone_second (link_place s) (placed link_place ls) (placed object_place os) (objects_before s os)
        ∙ ap (λ (us : Shelved). placed object_place os ++ us) (ap (remove_entry (is_at (place_order (link_place s)))) alone
        ∙ gone_first link_place link_seat_order same_links s [] tt ls ∙ nothing_behind (placed link_place (remove_entry (is_at (link_seat_order s)) ls))))

-- ---- seats of places

pub object_seated : (p : Place) → p.is_link ≡ false → object_place (object_seat p) ≡ seat_at p
object_seated p is =
    sym (ap (λ b. let q : Place = record { is_link = b; guid = p.guid; birth = p.birth; attr = cond b p.attr 0; other = cond b p.other None } in q) is)

pub link_seated : (p : Place) → p.is_link ≡ true → link_place (link_seat p) ≡ seat_at p
link_seated p is =
    sym (ap (λ b. let q : Place = record { is_link = b; guid = p.guid; birth = p.birth; attr = cond b p.attr 0; other = cond b p.other None } in q) is)

-- a link's place is its seat
pub link_at : (p : Place) → p.is_link ≡ true → link_place (link_seat p) ≡ p
link_at p is = ap (λ b. let q : Place = record { is_link = b; guid = p.guid; birth = p.birth; attr = p.attr; other = p.other } in q) (sym is)

-- a row may stand at a link's place
pub link_proper : (p : Place) → p.is_link ≡ true → is_proper p ≡ true
link_proper p is = ap (λ b. b || is_none p.other) is

-- ---- the same of an equal tree

module _ (m n : BTreeMap ObjectSeat Kept) (ls : List (LinkSeat × Kept)) (e : n ≡ m) where
  pub objects_along : AreShelves (all_shelves m.entries ls) → AreShelves (all_shelves n.entries ls)
  objects_along are = subst (λ (k : BTreeMap ObjectSeat Kept). AreShelves (all_shelves k.entries ls)) (sym e) are

  pub object_view_along : (es : Entries) → entries_of (all_shelves m.entries ls) ≡ es → entries_of (all_shelves n.entries ls) ≡ es
  object_view_along es h = ap (λ (k : BTreeMap ObjectSeat Kept). entries_of (all_shelves k.entries ls)) e ∙ h

  pub object_entries_along : {T E : Type 0} (r : Result T E) (es : Entries) → OnOk r (entries_of (all_shelves m.entries ls) ≡ es) → OnOk r (entries_of (all_shelves n.entries ls) ≡ es)
  object_entries_along r es h = subst (λ (k : BTreeMap ObjectSeat Kept). OnOk r (entries_of (all_shelves k.entries ls) ≡ es)) (sym e) h

  pub object_same_along : {T E : Type 0} (r : Result T E) (es : Entries) → OnErr r (entries_of (all_shelves m.entries ls) ≡ es) → OnErr r (entries_of (all_shelves n.entries ls) ≡ es)
  object_same_along r es h = subst (λ (k : BTreeMap ObjectSeat Kept). OnErr r (entries_of (all_shelves k.entries ls) ≡ es)) (sym e) h

module _ (m n : BTreeMap LinkSeat Kept) (os : List (ObjectSeat × Kept)) (e : n ≡ m) where
  pub links_along : AreShelves (all_shelves os m.entries) → AreShelves (all_shelves os n.entries)
  links_along are = subst (λ (k : BTreeMap LinkSeat Kept). AreShelves (all_shelves os k.entries)) (sym e) are

  pub link_entries_along : {T E : Type 0} (r : Result T E) (es : Entries) → OnOk r (entries_of (all_shelves os m.entries) ≡ es) → OnOk r (entries_of (all_shelves os n.entries) ≡ es)
  link_entries_along r es h = subst (λ (k : BTreeMap LinkSeat Kept). OnOk r (entries_of (all_shelves os k.entries) ≡ es)) (sym e) h

  pub link_same_along : {T E : Type 0} (r : Result T E) (es : Entries) → OnErr r (entries_of (all_shelves os m.entries) ≡ es) → OnErr r (entries_of (all_shelves os n.entries) ≡ es)
  link_same_along r es h = subst (λ (k : BTreeMap LinkSeat Kept). OnErr r (entries_of (all_shelves os k.entries) ≡ es)) (sym e) h

-- ---- what no shelf stands at

pub object_at : (p : Place) → p.is_link ≡ false → is_seat p ≡ true → object_place (object_seat p) ≡ p
object_at p is seat =
    let own : ((p.attr == 0) && is_none p.other) ≡ true = ap (λ b. b || ((p.attr == 0) && is_none p.other)) (sym is) ∙ seat in
    let parts = both (p.attr == 0) (is_none p.other) own in
    let low : p.attr ≡ 0 = zero_is p.attr parts.0 in
    let bare : p.other ≡ None = none_is p.other parts.1 in
    ap (λ b. let q : Place = record { is_link = b; guid = p.guid; birth = p.birth; attr = 0; other = None } in q) (sym is)
    ∙ ap (λ a. let q : Place = record { is_link = p.is_link; guid = p.guid; birth = p.birth; attr = a; other = None } in q) (sym low)
    ∙ ap (λ o. let q : Place = record { is_link = p.is_link; guid = p.guid; birth = p.birth; attr = p.attr; other = o } in q) (sym bare)
  where
    both : (a b : Bool) → (a && b) ≡ true → (a ≡ true) × (b ≡ true)
    both true b e = (refl, e)
    both false b e = cc

    zero_is : (n : ℕ) → (n == 0) ≡ true → n ≡ 0
    zero_is n e = grind (arith, nat_tests)

    none_is : {A : Type 0} (o : Option A) → is_none o ≡ true → o ≡ None
    none_is None e = refl
    none_is (Some x) e = cc

seat_is : (s : Place) → seat_at s ≡ s → s.is_link ≡ false → is_seat s ≡ true
seat_is s seated is = ap is_seat (sym seated) ∙ ap (λ b. b || ((cond b s.attr 0 == 0) && is_none (cond b s.other None))) is

pub no_seat : (us : Shelved) → AreAllShelves us → (p : Place) → p.is_link ≡ false → is_seat p ≡ false → lookup (is_at (place_order p)) us ≡ None
no_seat [] each p is out = refl
no_seat (u ∷ us) each p is out = by (is_at (place_order p) u.0) refl (no_seat us each.1 p is out)
  where
    by : (b : Bool) → is_at (place_order p) u.0 ≡ b → lookup (is_at (place_order p)) us ≡ None → cond b (Some u.1) (lookup (is_at (place_order p)) us) ≡ None
    by true at later =
        let same : p ≡ u.0 = exact_places p u.0 (equal_order (place_order p u.0) at) in
        let wrong : false ≡ true = sym out ∙ ap is_seat same ∙ seat_is u.0 each.0.seated (sym (ap (λ (q : Place). q.is_link) same) ∙ is) in cc
    by false apart later = later

-- ---- how many shelves there are

length_placed : {S : Type 0} (place : S → Place) (us : List (S × Kept)) → length (placed place us) ≡ length us
length_placed place [] = refl
length_placed place (u ∷ us) = ap suc (length_placed place us)

objects_fail : (os : List (ObjectSeat × Kept)) → AllByRecursion (λ s. (a : ℕ) → is_of_link (place_in s a) ≡ false) (keys_of (placed object_place os))
objects_fail [] = tt
objects_fail (o ∷ os) = ((λ a. refl), objects_fail os)

links_fail : (ls : List (LinkSeat × Kept)) → AllByRecursion (λ s. (a : ℕ) → is_of_class (place_in s a) ≡ false) (keys_of (placed link_place ls))
links_fail [] = tt
links_fail (l ∷ ls) = ((λ a. refl), links_fail ls)

each_second : (us vs : Shelved) → AreAllShelves (us ++ vs) → AreAllShelves vs
each_second [] vs each = each
each_second (u ∷ us) vs each = each_second us vs each.1

each_first : (us vs : Shelved) → AreAllShelves (us ++ vs) → AreAllShelves us
each_first [] vs each = tt
each_first (u ∷ us) vs each = (each.0, each_first us vs each.1)

entries_both : (us vs : Shelved) → entries_of (us ++ vs) ≡ entries_of us ++ entries_of vs
entries_both [] vs = refl
entries_both (u ∷ us) vs = ap (λ (es : Entries). shelf_entries u.0 u.1 ++ es) (entries_both us vs) ∙ sym (append_assoc (shelf_entries u.0 u.1) (entries_of us) (entries_of vs))

tally_both : (test : Place → Bool) (xs ys : Entries) → tally test (xs ++ ys) ≡ tally test xs + tally test ys
tally_both test [] ys = omega arith
tally_both test (x ∷ xs) ys = by (is_some x.1 && test x.0) (tally_both test xs ys)
  where
    by : (b : Bool) → tally test (xs ++ ys) ≡ tally test xs + tally test ys → one_more_if b (tally test (xs ++ ys)) ≡ one_more_if b (tally test xs) + tally test ys
    by true later = omega (arith, later)
    by false later = later

pub classes_below : (os : List (ObjectSeat × Kept)) (ls : List (LinkSeat × Kept)) → AreShelves (all_shelves os ls) → tally is_of_class (entries_of (all_shelves os ls)) ≤ length os
classes_below os ls are =
    let none : tally is_of_class (entries_of (placed link_place ls ++ [])) ≡ 0 = none_counted is_of_class (placed link_place ls) [] (links_fail ls) in
    omega (
      arith,
      ap (tally is_of_class) (entries_both (placed object_place os) (placed link_place ls)),
      tally_both is_of_class (entries_of (placed object_place os)) (entries_of (placed link_place ls)),
      ap (λ us. tally is_of_class (entries_of us)) (nothing_behind (placed link_place ls)),
      none,
      one_each is_of_class class_once (placed object_place os) (each_first (placed object_place os) (placed link_place ls) are.each),
      length_placed object_place os,
    )

pub links_below : (os : List (ObjectSeat × Kept)) (ls : List (LinkSeat × Kept)) → AreShelves (all_shelves os ls) → tally is_of_link (entries_of (all_shelves os ls)) ≤ length ls
links_below os ls are =
    omega (
      arith,
      none_counted is_of_link (placed object_place os) (placed link_place ls) (objects_fail os),
      one_each is_of_link link_once (placed link_place ls) (each_second (placed object_place os) (placed link_place ls) are.each),
      length_placed link_place ls,
    )

-- ---- shelves from a seat on

objects_ranged : (s : LinkSeat) (os : List (ObjectSeat × Kept)) → entries_between place_order (Included (link_place s)) Unbounded (placed object_place os) ≡ []
objects_ranged s [] = refl
objects_ranged s (o ∷ os) = objects_ranged s os

links_ranged : (s : ObjectSeat) (ls : List (LinkSeat × Kept)) → entries_between place_order (Included (object_place s)) Unbounded (placed link_place ls) ≡ placed link_place ls
links_ranged s [] = refl
links_ranged s (l ∷ ls) = ap (λ (us : Shelved). (link_place l.0, l.1) ∷ us) (links_ranged s ls)

module _ (os : List (ObjectSeat × Kept)) (ls : List (LinkSeat × Kept)) where
  pub object_ranged : (s : ObjectSeat) → all_shelves (entries_between object_seat_order (Included s) Unbounded os) ls ≡ entries_between place_order (Included (object_place s)) Unbounded (all_shelves os ls)
  object_ranged s =
      sym (filter-append (λ (u : Place × Kept). range_contains place_order (Included (object_place s)) Unbounded u.0) (placed object_place os) (placed link_place ls)
      ∙ ap (λ (us : Shelved). us ++ entries_between place_order (Included (object_place s)) Unbounded (placed link_place ls)) (ranged object_place object_seat_order same_objects s os)
      ∙ ap (λ (us : Shelved). placed object_place (entries_between object_seat_order (Included s) Unbounded os) ++ us) (links_ranged s ls))

  pub link_ranged : (s : LinkSeat) → placed link_place (entries_between link_seat_order (Included s) Unbounded ls) ≡ entries_between place_order (Included (link_place s)) Unbounded (all_shelves os ls)
  link_ranged s =
      sym (filter-append (λ (u : Place × Kept). range_contains place_order (Included (link_place s)) Unbounded u.0) (placed object_place os) (placed link_place ls)
      ∙ ap (λ (us : Shelved). us ++ entries_between place_order (Included (link_place s)) Unbounded (placed link_place ls)) (objects_ranged s os)
      ∙ ranged link_place link_seat_order same_links s ls)

pub none_yet : (os : List (ObjectSeat × Kept)) (ls : List (LinkSeat × Kept)) → os ≡ [] → ls ≡ [] → AreShelves (all_shelves os ls)
unfolding IsStrictlySortedBy
none_yet os ls no_object no_link =
    let nothing : AreShelves [] = record { ordered = tt; each = tt } in
    subst AreShelves (sym (ap (λ us. all_shelves us ls) no_object ∙ ap (placed link_place) no_link)) nothing

pub link_own : (b : Bool) (p : Place) → p.is_link ≡ true → b ≡ (b && is_proper p)
link_own b p is = by b (is_proper p) (link_proper p is)
  where
    by : (b d : Bool) → d ≡ true → b ≡ (b && d)
    by true d e = sym e
    by false d e = refl

pub links_elsewhere : (s : ObjectSeat) (ls : List (LinkSeat × Kept)) → AllByRecursion (λ q. is_eq (place_order q (object_place s)) ≡ false) (keys_of (placed link_place ls))
links_elsewhere s [] = tt
links_elsewhere s (l ∷ ls) = (refl, links_elsewhere s ls)
