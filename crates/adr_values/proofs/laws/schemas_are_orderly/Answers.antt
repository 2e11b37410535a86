use Rattle.std.proofs.Common.{ℕ, ◌==◌, Bool, true, false, cond, None, Some, IfSome, refl}
use Rattle.adr_values.specs.Orderly.{IsOrderly}
use Rattle.adr_values.specs.Schemas.{schema_1, schema_2}
use Rattle.adr_values.proofs.Order.{orderly}
use Rattle.adr_values.proofs.laws.schemas_are_orderly.Goals as goal

schema_1_is : IsOrderly schema_1
unfolding schema_1
schema_1_is = orderly schema_1 refl refl refl refl refl refl

schema_2_is : IsOrderly schema_2
unfolding schema_2
schema_2_is = orderly schema_2 refl refl refl refl refl refl

pub returns : goal.returns
returns c = λ number. chosen number (number == 1)
  where
    second : (b : Bool) → IfSome (cond b (Some schema_2) None) IsOrderly
    second true = schema_2_is
    second false = tt

    chosen : (number : ℕ) (b : Bool) → IfSome (cond b (Some schema_1) (cond (number == 2) (Some schema_2) None)) IsOrderly
    chosen number true = schema_1_is
    chosen number false = second (number == 2)
