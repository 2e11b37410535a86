-- Places of units are in the order of units, and tell them.
use Rattle.std.proofs.Common.{◌≡◌, refl, ap, ◌∙◌, List, [], ◌∷◌, true, cond, Some}
use Rattle.std.specs.BTreeMap.{is_at}
use Rattle.std.specs.Ordering.{nat_cmp, is_eq, ordering_then}
use Rattle.std.specs.declared.cmp.Ordering.{Ordering}
use Rattle.std.specs.declared.cmp.Ordering.TheVariants.{Less, Equal, Greater}
use Rattle.std.proofs.lemmas.Cmp.{eq_by_cmp_equiv, tied_itself}
use Rattle.adr_values.specs.declared.stamp.Unit.{Unit as Named}
use Rattle.adr_values.specs.declared.stamp.Unit.TheVariants.{Object, Link}
use Rattle.adr_values.specs.Order.{birth_order, identifier_order, object_order, unit_order}
use Rattle.adr_values.proofs.Units.{units_total, exact_units}
use Rattle.adr_model.proofs.Keys.{equal_order}
use Rattle.adr_model.specs.Update.{Key, RowOf, LinkOf, same_unit, unit_of}
use Rattle.adr_model.specs.Store.{Held}
use Rattle.adr_update.specs.Sought.{rows_of_unit}
use Rattle.adr_shelves.specs.declared.place.Place.{Place}
use Rattle.adr_shelves.specs.Place.{place_of, place_order, seat_at}
use Rattle.adr_table.specs.Locals.{unit_place, unit_at, is_of_seat, rows_of_seat}
use Rattle.adr_shelves.proofs.Places.{exact_places, then_then}

-- ---- the order of units

then_equal : (o : Ordering) → ordering_then o Equal ≡ o
then_equal Less = refl
then_equal Equal = refl
then_equal Greater = refl

pub unit_order_is : (u v : Named) → place_order (unit_place u) (unit_place v) ≡ unit_order u v
unit_order_is (Object a) (Object b) = ap (ordering_then (identifier_order a.guid b.guid)) (then_equal (birth_order a.birth b.birth))
unit_order_is (Object a) (Link b) = refl
unit_order_is (Link a) (Object b) = refl
unit_order_is (Link a) (Link b) =
    then_then (identifier_order a.from.guid b.from.guid) (birth_order a.from.birth b.from.birth) (ordering_then (nat_cmp a.attr b.attr) (object_order a.to b.to))

pub seat_is : (k : Key) → seat_at (place_of k) ≡ unit_place (unit_of k)
seat_is (RowOf o a) = refl
seat_is (LinkOf l) = refl

pub unit_is : (u : Named) → unit_at (unit_place u) ≡ Some u
unit_is (Object o) = refl
unit_is (Link l) = refl

pub same_unit_is : (u v : Named) → is_at (place_order (unit_place u)) (unit_place v) ≡ same_unit v u
same_unit_is u v = ap is_eq (unit_order_is u v) ∙ (eq_by_cmp_equiv units_total).symm u v

pub of_unit : (u : Named) (h : Held) → is_of_seat (unit_place u) h ≡ same_unit (unit_of h.update.key) u
of_unit u h = ap (is_at (place_order (unit_place u))) (seat_is h.update.key) ∙ same_unit_is u (unit_of h.update.key)

pub rows_of : (u : Named) (rows : List Held) → rows_of_seat (unit_place u) rows ≡ rows_of_unit rows u
rows_of u [] = refl
rows_of u (h ∷ hs) =
    ap (λ b. cond b (h ∷ rows_of_seat (unit_place u) hs) (rows_of_seat (unit_place u) hs)) (of_unit u h)
    ∙ ap (λ rows. cond (same_unit (unit_of h.update.key) u) (h ∷ rows) rows) (rows_of u hs)

pub same_itself : (u : Named) → same_unit u u ≡ true
same_itself u = ap is_eq (tied_itself units_total u)

pub units_tell : (u v : Named) → same_unit u v ≡ true → u ≡ v
units_tell u v same = exact_units u v (equal_order (unit_order u v) same)

-- the unit at a place of a row is the row's
pub seat_tells : (p : Place) (h : Held) → is_of_seat p h ≡ true → p ≡ unit_place (unit_of h.update.key)
seat_tells p h at = exact_places p (seat_at (place_of h.update.key)) (equal_order (place_order p (seat_at (place_of h.update.key))) at) ∙ seat_is h.update.key
