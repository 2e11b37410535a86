-- What a schema refuses: of each call the refusals in order, of which the first that holds is answered.
use Rattle.std.specs.Prelude.{ℕ, List, [], ◌∷◌, length, map, Bool, true, false, not, ◌&&◌, ◌||◌, ◌==◌, Option, None, Some, is_none}
use Rattle.std.specs.Bool.{then_some}
use Rattle.std.specs.Option.{option_map, option_or}
use Rattle.std.specs.List.{find}
use Rattle.adr_values.specs.declared.content.Value.{Value as Item}
use Rattle.adr_values.specs.declared.refusal.SchemaRefusal.{SchemaRefusal}
use Rattle.adr_values.specs.declared.refusal.SchemaRefusal.TheVariants.{UnknownClass, UnknownAttribute, NotAllowed, MissingMust, BadName, BadValue, IsLink, NotLink}
use Rattle.adr_values.specs.declared.table.Kind.{Kind}
use Rattle.adr_values.specs.declared.table.Kind.TheVariants.{Plain}
use Rattle.adr_values.specs.Assignments.{Given, given}
use Rattle.adr_values.specs.Names.{name_fault}
use Rattle.adr_values.specs.Table.{Table, class_at, is_forward, is_link, is_must, is_of, is_reserved, kind_at, must_of}
use Rattle.adr_values.specs.Values.{bad_place}

-- the first refusal that holds
abbrev pub first_refusal : List (Option SchemaRefusal) → Option SchemaRefusal
first_refusal [] = None
first_refusal (r ∷ rs) = option_or r (first_refusal rs)

-- the first place of a bad value of an attribute
abbrev pub bad_place_of : Option Kind → List Item → Option ℕ
bad_place_of (Some (Plain syntax most)) values = bad_place syntax most values
bad_place_of _ values = None

-- the name of an object
abbrev pub name_refusal : List ℕ → Option SchemaRefusal
name_refusal bytes = option_map BadName (name_fault bytes)

-- a class
abbrev pub class_refusal : Table → ℕ → Option SchemaRefusal
class_refusal t class = then_some (is_none (class_at t class)) UnknownClass

-- an attribute of a list of values
abbrev pub attribute_refusal : Table → Option ℕ → ℕ → Option SchemaRefusal
attribute_refusal t class attr = first_refusal
    (then_some (is_none (kind_at t attr)) (UnknownAttribute attr)
    ∷ then_some (is_link (kind_at t attr)) (IsLink attr)
    ∷ then_some (is_reserved (kind_at t attr) || not (is_of t class attr)) (NotAllowed attr)
    ∷ [])

-- an attribute with its values
abbrev pub values_refusal : Table → Option ℕ → ℕ → List Item → Option SchemaRefusal
values_refusal t class attr values = first_refusal
    (attribute_refusal t class attr
    ∷ option_map (BadValue attr) (bad_place_of (kind_at t attr) values)
    ∷ [])

-- one attribute of an added object
abbrev pub added_refusal : Table → ℕ → Given → Option SchemaRefusal
added_refusal t class g = first_refusal
    (values_refusal t (Some class) g.0 g.1
    ∷ then_some (length g.1 == 0) (BadValue g.0 0)
    ∷ [])

-- an object that is added
unfoldable pub add_refusal : Table → ℕ → List Given → Option SchemaRefusal
add_refusal t class gs = first_refusal
    (class_refusal t class
    ∷ first_refusal (map (added_refusal t class) gs)
    ∷ option_map MissingMust (find (λ attr. is_none (given attr gs)) (must_of t class))
    ∷ [])

-- whether no value is given in place of those that there are
abbrev pub is_emptied : Option (List Item) → Bool
is_emptied (Some []) = true
is_emptied _ = false

-- an object that is modified
unfoldable pub modify_refusal : Table → ℕ → List Given → Option SchemaRefusal
modify_refusal t class gs = first_refusal
    (first_refusal (map (λ g. values_refusal t (Some class) g.0 g.1) gs)
    ∷ option_map MissingMust (find (λ attr. is_emptied (given attr gs)) (must_of t class))
    ∷ [])

-- the values of one attribute of an object that is held or that came from elsewhere
unfoldable pub row_refusal : Table → Option ℕ → ℕ → List Item → Option SchemaRefusal
row_refusal t class attr values = first_refusal
    (values_refusal t class attr values
    ∷ then_some (is_must t class attr && (length values == 0)) (BadValue attr 0)
    ∷ [])

-- a link under an attribute
abbrev pub not_link_refusal : Table → ℕ → Option SchemaRefusal
not_link_refusal t attr = then_some (not (is_forward (kind_at t attr))) (NotLink attr)

-- a link from an object
unfoldable pub link_refusal : Table → ℕ → ℕ → Option SchemaRefusal
link_refusal t class attr = first_refusal
    (then_some (is_none (kind_at t attr)) (UnknownAttribute attr)
    ∷ not_link_refusal t attr
    ∷ then_some (not (is_of t (Some class) attr)) (NotAllowed attr)
    ∷ [])
