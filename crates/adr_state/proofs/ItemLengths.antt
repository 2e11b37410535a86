-- The length of an item by its kind of unit.
use Rattle.std.proofs.Common.{◌≡◌, ◌+◌, List, fold, refl}
use Rattle.adr_values.specs.declared.stamp.Oid.{Oid}
use Rattle.adr_values.specs.declared.stamp.Unit.{Unit as Named}
use Rattle.adr_values.specs.declared.stamp.Unit.TheVariants.{Object, Link}
use Rattle.adr_model.specs.Update.{Update}
use Rattle.adr_model.specs.Change.{Item}
use Rattle.adr_model.specs.Serve.{content_length, item_length}

pub length_of_object : (item : Item) (o : Oid) → Object o ≡ item.unit → item_length item ≡ 43 + fold (λ n (u : Update). n + 38 + content_length u.said) 0 item.rows
length_of_object item o is = by item.unit item.rows is
  where
    by : (unit : Named) (rows : List Update) → Object o ≡ unit → item_length (record { unit = unit; rows = rows }) ≡ 43 + fold (λ n (u : Update). n + 38 + content_length u.said) 0 rows
    by (Object p) rows e = refl
    by (Link l) rows e = absurd (cc)
