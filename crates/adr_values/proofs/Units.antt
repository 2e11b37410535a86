-- Units are totally ordered, objects before link rows, and told apart by their order.
use Rattle.std.proofs.Common.{◌≡◌, refl, ap}
use Rattle.std.specs.Cmp.{IsTotalOrder}
use Rattle.std.specs.Ordering.{ordering_reverse}
use Rattle.std.specs.declared.cmp.Ordering.TheVariants.{Less, Equal}
use Rattle.adr_values.specs.declared.stamp.Unit.{Unit as Named}
use Rattle.adr_values.specs.declared.stamp.Unit.TheVariants.{Object, Link}
use Rattle.adr_values.specs.Order.{unit_order}
use Rattle.std.proofs.lemmas.Map.Lookups.{CmpEqualImpliesEq}
use Rattle.adr_values.proofs.ExactOrders.{exact_objects, exact_links}
use Rattle.adr_values.specs.contracts.stamp.OidOrd.TheImpl.Laws.{total-law as objects_total}
use Rattle.adr_values.specs.contracts.stamp.LinkKeyOrd.TheImpl.Laws.{total-law as links_total}

either_way : (x y : Named) → unit_order x y ≡ ordering_reverse (unit_order y x)
either_way (Object a) (Object b) = objects_total.antisymm a b
either_way (Object a) (Link b) = refl
either_way (Link a) (Object b) = refl
either_way (Link a) (Link b) = links_total.antisymm a b

onward : (x y z : Named) → unit_order x y ≡ Less → unit_order y z ≡ Less → unit_order x z ≡ Less
onward (Object a) (Object b) (Object c) p q = objects_total.trans a b c p q
onward (Object a) (Object b) (Link c) p q = refl
onward (Object a) (Link b) (Object c) p q = cc
onward (Object a) (Link b) (Link c) p q = refl
onward (Link a) (Object b) z p q = cc
onward (Link a) (Link b) (Object c) p q = cc
onward (Link a) (Link b) (Link c) p q = links_total.trans a b c p q

alike : (x y z : Named) → unit_order x y ≡ Equal → unit_order x z ≡ unit_order y z
alike (Object a) (Object b) (Object c) p = objects_total.congr a b c p
alike (Object a) (Object b) (Link c) p = refl
alike (Object a) (Link b) z p = cc
alike (Link a) (Object b) z p = cc
alike (Link a) (Link b) (Object c) p = refl
alike (Link a) (Link b) (Link c) p = links_total.congr a b c p

pub units_total : IsTotalOrder unit_order
units_total = record { antisymm = either_way; trans = onward; congr = alike }

pub exact_units : CmpEqualImpliesEq unit_order
exact_units (Object a) (Object b) h = ap (λ x. Object x) (exact_objects a b h)
exact_units (Object a) (Link b) h = absurd (cc)
exact_units (Link a) (Object b) h = absurd (cc)
exact_units (Link a) (Link b) h = ap (λ x. Link x) (exact_links a b h)
