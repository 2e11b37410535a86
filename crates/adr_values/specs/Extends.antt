-- One schema allows all that another one allows.
use Rattle.std.specs.Prelude.{◌≡◌, ◌≤◌, ℕ, true, Some, IsSome}
use Rattle.adr_values.specs.declared.table.Kind.{Kind}
use Rattle.adr_values.specs.Table.{Table, class_at, must_of, may_of, superiors_of, has, kind_at}
use Rattle.adr_values.specs.Numbered.{numbered}

-- the second schema has each class of the first, with the same attributes that it must have and no fewer that it may have,
-- under no fewer superiors, and each attribute of the first as it is there
pub record Extends (t u : Table) : Type 0 where
  pub known : (class : ℕ) → IsSome (class_at t class) → IsSome (class_at u class)
  pub must : (class : ℕ) → IsSome (class_at t class) → must_of u class ≡ must_of t class
  pub may : (class attr : ℕ) → has (may_of t class) attr ≡ true → has (may_of u class) attr ≡ true
  pub superiors : (class above : ℕ) → has (superiors_of t class) above ≡ true → has (superiors_of u class) above ≡ true
  pub kinds : (attr : ℕ) (kind : Kind) → kind_at t attr ≡ Some kind → kind_at u attr ≡ Some kind

-- what a schema allows, each of a greater number allows
abbrev pub SchemasGrow : Type 0
SchemasGrow = (n m : ℕ) → n ≤ m → Extends (numbered n) (numbered m)
