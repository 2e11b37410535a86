-- Names of objects are told apart by their order.
use Rattle.std.proofs.Common.{◌≡◌, true, ap}
use Rattle.std.specs.Ordering.{is_eq}
use Rattle.std.proofs.lemmas.Cmp.{tied_itself}
use Rattle.adr_values.specs.declared.stamp.Oid.{Oid}
use Rattle.adr_values.specs.declared.stamp.Unit.TheVariants.{Object}
use Rattle.adr_values.specs.Order.{object_order}
use Rattle.adr_values.proofs.ExactOrders.{exact_objects}
use Rattle.adr_values.proofs.Units.{units_total}
use Rattle.adr_model.specs.Update.{same_object}
use Rattle.adr_model.proofs.Keys.{equal_order}

pub object_is : (a b : Oid) → same_object a b ≡ true → a ≡ b
object_is a b e = exact_objects a b (equal_order (object_order a b) e)

pub object_itself : (a : Oid) → same_object a a ≡ true
object_itself a = ap is_eq (tied_itself units_total (Object a))
