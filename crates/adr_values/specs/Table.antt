-- A schema as a table: its classes and its attributes.
use Rattle.std.specs.Prelude.{ℕ, List, [], Bool, true, false, ◌||◌, ◌==◌, Option, None, Some}
use Rattle.std.specs.Option.{option_map, option_map_or}
use Rattle.std.specs.List.{find, list_any}
use Rattle.std.specs.Str.{bytes_eq}
use Rattle.adr_values.specs.declared.table.Kind.{Kind}
use Rattle.adr_values.specs.declared.table.Kind.TheVariants.{Reserved, Forward, Back}

-- a class: which attributes its objects must and may have, and the classes that may stand above them
pub record Class : Type 0 where
  pub number : ℕ
  pub name : List ℕ
  pub must : List ℕ
  pub may : List ℕ
  pub superiors : List ℕ

-- an attribute
pub record Attribute : Type 0 where
  pub number : ℕ
  pub name : List ℕ
  pub kind : Kind

-- a schema
pub record Table : Type 0 where
  pub number : ℕ
  pub classes : List Class
  pub attributes : List Attribute

-- the class of a number
abbrev pub class_at : Table → ℕ → Option Class
class_at t number = find (λ c. c.number == number) t.classes

-- the class of a name
abbrev pub class_named : Table → List ℕ → Option Class
class_named t name = find (λ c. bytes_eq c.name name) t.classes

-- the attribute of a number
abbrev pub attribute_at : Table → ℕ → Option Attribute
attribute_at t number = find (λ a. a.number == number) t.attributes

-- the attribute of a name
abbrev pub attribute_named : Table → List ℕ → Option Attribute
attribute_named t name = find (λ a. bytes_eq a.name name) t.attributes

-- what the table says of a class; a class that it does not have has no attributes and stands nowhere

abbrev pub must_of : Table → ℕ → List ℕ
must_of t class = option_map_or (λ c. c.must) (class_at t class) []

abbrev pub may_of : Table → ℕ → List ℕ
may_of t class = option_map_or (λ c. c.may) (class_at t class) []

abbrev pub superiors_of : Table → ℕ → List ℕ
superiors_of t class = option_map_or (λ c. c.superiors) (class_at t class) []

abbrev pub has : List ℕ → ℕ → Bool
has ns n = list_any (λ m. m == n) ns

-- whether an object of the class may stand under one of the class `parent`
abbrev pub is_superior : Table → ℕ → ℕ → Bool
is_superior t class parent = has (superiors_of t class) parent

-- what the table says of an attribute

abbrev pub kind_at : Table → ℕ → Option Kind
kind_at t attr = option_map (λ a. a.kind) (attribute_at t attr)

abbrev pub is_reserved : Option Kind → Bool
is_reserved (Some Reserved) = true
is_reserved _ = false

abbrev pub is_forward : Option Kind → Bool
is_forward (Some (Forward back)) = true
is_forward _ = false

abbrev pub is_back : Option Kind → Bool
is_back (Some (Back forward)) = true
is_back _ = false

abbrev pub is_link : Option Kind → Bool
is_link kind = is_forward kind || is_back kind

-- whether objects of the class, where it is known, have the attribute
abbrev pub is_of : Table → Option ℕ → ℕ → Bool
is_of t None attr = true
is_of t (Some class) attr = has (must_of t class) attr || has (may_of t class) attr

-- whether objects of the class, where it is known, must have the attribute
abbrev pub is_must : Table → Option ℕ → ℕ → Bool
is_must t None attr = false
is_must t (Some class) attr = has (must_of t class) attr
