-- Rows of one object that keep to a schema, where the object is held and where it comes.
use Rattle.std.specs.Prelude.{◌≡◌, ◌⊎◌, ◌<◌, ℕ, List, true, None, IsSome}
use Rattle.adr_values.specs.declared.stamp.Oid.{Oid}
use Rattle.adr_values.specs.declared.content.Value.{Value as Datum}
use Rattle.adr_values.specs.declared.content.Content.TheVariants.{Class, Name, Dead, Values}
use Rattle.adr_values.specs.Table.{Table, has, class_at, must_of}
use Rattle.adr_values.specs.Allowed.{MayBeHeld}
use Rattle.adr_values.specs.Names.{name_fault}
use Rattle.adr_model.specs.Member.{Member, Each}
use Rattle.adr_model.specs.Update.{Identifier, Update, RowOf, Holds, class_attr, name_attr, deleted_attr}
use Rattle.adr_model.specs.Reflects.{HoldsObject, IsTombstoned, IsDeathOf}
use Rattle.adr_model.specs.Take.{is_birth, is_reserved_row}
use Rattle.adr_model.specs.Formed.{HasRow}

-- what a row of an object of this class says
pub record IsWellSaid (table : Table) (class : ℕ) (o : Oid) (u : Update) : Type 0 where
  pub none : u.key ≡ RowOf o 0 → ⊥
  pub of_class : u.key ≡ RowOf o class_attr → (u.said ≡ Holds (Class class)) × (is_birth o u ≡ true)
  pub of_name : u.key ≡ RowOf o name_attr → (text : List ℕ) × (parent : Identifier) × (u.said ≡ Holds (Name text parent)) × (name_fault text ≡ None)
  pub of_death : u.key ≡ RowOf o deleted_attr → u.said ≡ Holds Dead
  pub of_values : (attr : ℕ) → deleted_attr < attr → u.key ≡ RowOf o attr → (vs : List Datum) × (u.said ≡ Holds (Values vs)) × MayBeHeld table class attr vs

abbrev pub HasKey : List Update → Oid → ℕ → Type 0
HasKey us o attr = (u : Update) × Member u us × (u.key ≡ RowOf o attr)

-- rows of an object that is held: of a dead one only reserved rows
pub record MayChange (table : Table) (before : List Update) (o : Oid) (class : ℕ) (us : List Update) : Type 0 where
  pub of_class : HasRow before o class_attr (λ said. said ≡ Holds (Class class))
  pub said : Each (IsWellSaid table class o) us
  pub dead : IsTombstoned before o → Each (λ u. is_reserved_row u.key ≡ true) us

-- all rows of an object that isn't held yet: with its class and its name, and dead or with all that it must have
pub record MayCome (table : Table) (before : List Update) (o : Oid) (class : ℕ) (us : List Update) : Type 0 where
  pub absent : HoldsObject before o → ⊥
  pub known : IsSome (class_at table class)
  pub said : Each (IsWellSaid table class o) us
  pub of_class : HasKey us o class_attr
  pub of_name : HasKey us o name_attr
  pub whole : ((d : Update) × Member d us × IsDeathOf o d) ⊎ ((attr : ℕ) → has (must_of table class) attr ≡ true → HasKey us o attr)
