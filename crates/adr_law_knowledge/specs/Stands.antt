-- Which objects stand, by the updates alone.
use Rattle.std.specs.Prelude.{◌≡◌, List}
use Rattle.adr_values.specs.declared.stamp.Oid.{Oid}
use Rattle.adr_model.specs.Member.{Member, Each}
use Rattle.adr_model.specs.Update.{Update, RowOf, class_attr}
use Rattle.adr_model.specs.Reflects.{IsDeathOf}

-- a birth of the object is there, and no death
pub record Stands (us : List Update) (o : Oid) : Type 0 where
  pub birth : Update
  pub born : Member birth us
  pub is_birth : birth.key ≡ RowOf o class_attr
  pub alive : Each (λ d. IsDeathOf o d → ⊥) us
