-- What a schema allows, said without an order of refusals.
use Rattle.std.specs.Prelude.{◌≡◌, ◌≢◌, ℕ, ◌<◌, ◌≤◌, List, [], length, true, Some, IsSome}
use Rattle.std.specs.List.{slice_get}
use Rattle.adr_values.specs.declared.content.Value.{Value as Item}
use Rattle.adr_values.specs.declared.table.Kind.TheVariants.{Plain}
use Rattle.adr_values.specs.declared.table.Syntax.{Syntax}
use Rattle.adr_values.specs.Assignments.{Given, given}
use Rattle.adr_values.specs.Table.{Table, class_at, has, is_of, kind_at, must_of}
use Rattle.adr_values.specs.Values.{fits}

-- a list of values: not too many, each of the syntax and within its range, and none of them twice
pub record AreAllowed (syntax : Syntax) (most : ℕ) (values : List Item) : Type 0 where
  pub few : length values ≤ most
  pub fit : (place : ℕ) (v : Item) → slice_get values place ≡ Some v → fits syntax v ≡ true
  pub differ : (earlier place : ℕ) (v : Item) → earlier < place → slice_get values earlier ≡ Some v → slice_get values place ≢ Some v

-- an attribute with its values, in an object of a class
pub record IsAllowed (t : Table) (class attr : ℕ) (values : List Item) : Type 0 where
  pub syntax : Syntax
  pub most : ℕ
  pub plain : kind_at t attr ≡ Some (Plain syntax most)
  pub of_class : is_of t (Some class) attr ≡ true
  pub right : AreAllowed syntax most values

-- an attribute with its values may be held by an object of a class
pub record MayBeHeld (t : Table) (class attr : ℕ) (values : List Item) : Type 0 where
  pub allowed : IsAllowed t class attr values
  pub filled : has (must_of t class) attr ≡ true → values ≢ []

-- an object of a class may be added with these values
pub record MayBeAdded (t : Table) (class : ℕ) (gs : List Given) : Type 0 where
  pub known : IsSome (class_at t class)
  pub allowed : (place : ℕ) (g : Given) → slice_get gs place ≡ Some g → IsAllowed t class g.0 g.1
  pub filled : (place : ℕ) (g : Given) → slice_get gs place ≡ Some g → g.1 ≢ []
  pub whole : (attr : ℕ) → has (must_of t class) attr ≡ true → IsSome (given attr gs)

-- these values may take the place of those of an object of a class
pub record MayBeModified (t : Table) (class : ℕ) (gs : List Given) : Type 0 where
  pub allowed : (place : ℕ) (g : Given) → slice_get gs place ≡ Some g → IsAllowed t class g.0 g.1
  pub whole : (attr : ℕ) → has (must_of t class) attr ≡ true → given attr gs ≢ Some []
