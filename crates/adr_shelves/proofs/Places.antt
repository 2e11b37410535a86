-- Places are in the order of keys, and told apart by it.
use Rattle.std.proofs.Common.{◌≡◌, refl, sym, ap, ◌∙◌, ℕ, Bool, true, false, Option, Some, None}
use Rattle.std.specs.Option.{option_cmp}
use Rattle.std.specs.Ordering.{nat_cmp, bool_cmp, ordering_then}
use Rattle.std.specs.declared.cmp.Ordering.{Ordering}
use Rattle.std.specs.declared.cmp.Ordering.TheVariants.{Less, Equal, Greater}
use Rattle.std.specs.Cmp.{IsTotalOrder}
use Rattle.std.proofs.lemmas.Map.Lookups.{CmpEqualImpliesEq, exact_pairs, exact_unsigned, exact_bytes}
use Rattle.adr_values.specs.declared.stamp.Oid.{Oid}
use Rattle.adr_values.specs.declared.stamp.Birth.{Birth}
use Rattle.adr_values.specs.Order.{identifier_order, birth_order, object_order}
use Rattle.adr_values.proofs.ExactOrders.{exact_births, exact_objects}
use Rattle.std.specs.BTreeMap.{is_at}
use Rattle.adr_model.proofs.Keys.{equal_order, exact_keys}
use Rattle.adr_model.specs.Update.{Identifier, Key, RowOf, LinkOf, key_order}
use Rattle.adr_shelves.specs.declared.place.Place.{Place}
use Rattle.adr_shelves.specs.Place.{is_proper, place_of, place_order}
use Rattle.adr_shelves.specs.contracts.place.PlaceOrd.TheImpl.Laws.{total-law}

pub places_total : IsTotalOrder place_order
places_total = total-law

pub exact_flags : CmpEqualImpliesEq bool_cmp
exact_flags true true h = refl
exact_flags true false h = cc
exact_flags false true h = cc
exact_flags false false h = refl

pub exact_options : {K : Type 0} {R : K → K → Ordering} → CmpEqualImpliesEq R → CmpEqualImpliesEq (option_cmp R)
exact_options exact None None h = refl
exact_options exact None (Some y) h = cc
exact_options exact (Some x) None h = cc
exact_options exact (Some x) (Some y) h = ap Some (exact x y h)

pub exact_places : CmpEqualImpliesEq place_order
exact_places a b h =
    ap (λ (p : Bool × (Identifier × (Option Birth × (ℕ × Option Oid)))).
    let q : Place = record { is_link = p.0; guid = p.1.0; birth = p.1.1.0; attr = p.1.1.1.0; other = p.1.1.1.1 } in q)
    (exact_pairs _ _ exact_flags
    (exact_pairs _ _ exact_bytes
    (exact_pairs _ _ (exact_options exact_births) (exact_pairs _ _ exact_unsigned (exact_options exact_objects))))
    (a.is_link, (a.guid, (a.birth, (a.attr, a.other)))) (b.is_link, (b.guid, (b.birth, (b.attr, b.other)))) h)

then_equal : (o : Ordering) → ordering_then o Equal ≡ o
then_equal Less = refl
then_equal Equal = refl
then_equal Greater = refl

pub then_then : (o p r : Ordering) → ordering_then o (ordering_then p r) ≡ ordering_then (ordering_then o p) r
then_then Less p r = refl
then_then Equal p r = refl
then_then Greater p r = refl

pub order_is : (j k : Key) → place_order (place_of j) (place_of k) ≡ key_order j k
order_is (RowOf o a) (RowOf p b) =
    ap (λ x. ordering_then (identifier_order o.guid p.guid) (ordering_then (birth_order o.birth p.birth) x)) (then_equal (nat_cmp a b))
    ∙ then_then (identifier_order o.guid p.guid) (birth_order o.birth p.birth) (nat_cmp a b)
order_is (RowOf o a) (LinkOf l) = refl
order_is (LinkOf k) (RowOf p b) = refl
order_is (LinkOf k) (LinkOf l) =
    then_then (identifier_order k.from.guid l.from.guid) (birth_order k.from.birth l.from.birth)
    (ordering_then (nat_cmp k.attr l.attr) (object_order k.to l.to))

-- places of one key are of one key
pub same_place : (j k : Key) → is_at (place_order (place_of j)) (place_of k) ≡ true → j ≡ k
same_place j k at = exact_keys j k (sym (order_is j k) ∙ equal_order (place_order (place_of j) (place_of k)) at)

-- a row may stand at the place of each key
pub proper_place : (k : Key) → is_proper (place_of k) ≡ true
proper_place (RowOf o a) = refl
proper_place (LinkOf l) = refl
