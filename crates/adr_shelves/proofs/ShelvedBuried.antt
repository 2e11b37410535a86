-- What becomes of shelves where a row of an object is put and the object's values are emptied at once.
use Rattle.std.proofs.Common.{◌≡◌, ℕ, List, [], ◌∷◌, Bool, true, false, cond, Option, Some, None, refl, sym, ap, ◌∙◌, subst}
use Rattle.std.specs.Prelude.{IsSome, is_some, nat_le}
use Rattle.std.specs.List.Sorted.{IsStrictlySortedBy}
use Rattle.std.specs.Map.{keys_of, lookup, set_value}
use Rattle.std.specs.Option.{unwrap_or}
use Rattle.std.specs.Ordering.{nat_cmp}
use Rattle.std.specs.BTreeMap.{insert_entry, is_at}
use Rattle.std.specs.declared.result.Result.{Result}
use Rattle.std.specs.declared.result.Result.TheVariants.{Ok}
use Rattle.adr_values.specs.declared.stamp.Oid.{Oid}
use Rattle.adr_model.specs.Store.{Held, is_row_of}
use Rattle.adr_shelves.specs.declared.place.Place.{Place}
use Rattle.adr_shelves.specs.Place.{is_in_run, place_of, place_order, rows_start, seat_at, values_start}
use Rattle.adr_shelves.specs.Shelves.{AreShelves, emptied, entries_of, with_held}
use Rattle.adr_shelves.proofs.Places.{places_total, proper_place}
use Rattle.adr_shelves.proofs.Entries.{Entries}
use Rattle.adr_shelves.proofs.Shelved.{Kept, Shelved}
use Rattle.adr_shelves.proofs.ShelvedEmptied.{AreEmptied, new_emptied}
use Rattle.adr_shelves.proofs.ShelvedFilled.{set_put}
use Rattle.adr_shelves.proofs.ShelvedFrees.{found_in, found_none, shelf_at}
use Rattle.adr_shelves.proofs.ShelvedObjects.{row_seat}
use Rattle.adr_shelves.proofs.ShelvedUnits.{found_again}
use Rattle.adr_shelves.proofs.ShelvedWrites.{entries_then, kept_at, shelves_then}

-- ---- what is written twice

module _ {K X : Type 0} (test : K → Bool) (w : X) where
  set_twice : (v : X) (es : List (K × X)) → set_value test (set_value test es w) v ≡ set_value test es v
  set_twice v [] = refl
  set_twice v (e ∷ es) = by (test e.0) refl (set_twice v es)
    where
      by : (b : Bool) → test e.0 ≡ b → set_value test (set_value test es w) v ≡ set_value test es v
          → set_value test (cond b ((e.0, w) ∷ es) (e ∷ set_value test es w)) v ≡ cond b ((e.0, v) ∷ es) (e ∷ set_value test es v)
      by true at later = ap (λ c. cond c ((e.0, v) ∷ es) ((e.0, w) ∷ set_value test es v)) at
      by false at later = ap (λ c. cond c ((e.0, v) ∷ set_value test es w) (e ∷ set_value test (set_value test es w) v)) at ∙ ap (λ xs. e ∷ xs) later

-- ---- the shelves after it

-- the row is put, and then the slots of the object's values are emptied
pub record AreBuried (now : Entries) (new : Shelved) (o : Oid) (h : Held) : Type 0 where
  pub are : AreShelves new
  pub entries : entries_of new ≡ emptied (is_in_run (values_start o)) (with_held now h)

module _ (us : Shelved) (are : AreShelves us) (now : Entries) (view : entries_of us ≡ now) (o : Oid) (h : Held) (own : is_row_of o h.update.key ≡ true)
    (there_now : IsSome (lookup (is_at (place_order (place_of h.update.key))) now)) (seat : Place) (at : seat ≡ rows_start o) where
  there : IsSome (lookup (is_at (place_order (place_of h.update.key))) (entries_of us))
  there = subst (λ (es : Entries). IsSome (lookup (is_at (place_order (place_of h.update.key))) es)) (sym view) there_now

  looked_at : (found : Option Kept) → found ≡ lookup (is_at (place_order seat)) us → lookup (is_at (place_order (rows_start o))) us ≡ found
  looked_at found is = ap (λ s. lookup (is_at (place_order s)) us) (sym at) ∙ sym is

  own_seat : (found : Option Kept) → lookup (is_at (place_order (rows_start o))) us ≡ found → lookup (is_at (place_order (seat_at (place_of h.update.key)))) us ≡ found
  own_seat found is = ap (λ s. lookup (is_at (place_order s)) us) (row_seat o h.update.key own) ∙ is

  module _ (slots : Kept) (found : Some slots ≡ lookup (is_at (place_order seat)) us) where
    here : lookup (is_at (place_order (rows_start o))) us ≡ Some slots
    here = looked_at (Some slots) found

    pub slots_rise : IsStrictlySortedBy nat_cmp (keys_of slots)
    slots_rise = (shelf_at us are.each (rows_start o) slots here).rising

    pub has_own : (a : ℕ) → a ≡ (place_of h.update.key).attr → IsSome (lookup (is_at (nat_cmp a)) slots)
    has_own a is =
        ap (λ b. is_some (lookup (is_at (nat_cmp b)) slots)) is
        ∙ sym (ap is_some (found_in us are (place_of h.update.key) (proper_place h.update.key) slots (own_seat (Some slots) here)))
        ∙ there

    pub new_buried : (new : Shelved) (a : ℕ) → a ≡ (place_of h.update.key).attr → (put : Kept) → put ≡ insert_entry nat_cmp slots a (Some h)
        → (kept : Kept) → kept ≡ emptied (nat_le 4) put → new ≡ set_value (is_at (place_order seat)) us kept → AreBuried now new o h
    new_buried new a is put written kept set turned =
        let mid : Shelved = set_value (is_at (place_order (rows_start o))) us put in
        let as_put : mid ≡ insert_entry place_order us (rows_start o) put = set_put place_order places_total (rows_start o) put slots us are.ordered here in
        let same : slots ≡ kept_at us (rows_start o) = sym (ap (λ (w : Option Kept). unwrap_or w []) here) in
        let ok : put ≡ insert_entry nat_cmp slots (place_of h.update.key).attr (Some h) = written ∙ ap (λ b. insert_entry nat_cmp slots b (Some h)) is in
        let done : Result Bool Bool = Ok true in
        let put_there : entries_of mid ≡ with_held now h =
        entries_then us are now view (place_of h.update.key) (proper_place h.update.key) (rows_start o) (sym (row_seat o h.update.key own)) slots same (Some h) put mid as_put done ok
        in
        let mid_are : AreShelves mid =
        shelves_then us are now view (place_of h.update.key) (proper_place h.update.key) (rows_start o) (sym (row_seat o h.update.key own)) slots same (Some h) put mid as_put done ok tt
        in
        let then_emptied : AreEmptied mid new o =
        new_emptied mid new mid_are o (rows_start o) refl put kept (sym (found_again us (rows_start o) slots put here)) set
        (turned ∙ ap (λ s. set_value (is_at (place_order s)) us kept) at ∙ sym (set_twice (is_at (place_order (rows_start o))) put kept us))
        in
        record { are = then_emptied.are; entries = then_emptied.entries ∙ ap (emptied (is_in_run (values_start o))) put_there }

  -- a row that has a slot has a shelf
  pub none_buried : (new : Shelved) → None ≡ lookup (is_at (place_order seat)) us → AreBuried now new o h
  none_buried new none =
      let nowhere = found_none us are (place_of h.update.key) (proper_place h.update.key) (own_seat None (looked_at None none)) in
      let wrong : false ≡ true = sym (ap is_some nowhere) ∙ there in cc
