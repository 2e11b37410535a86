-- A directory as JSON: an array with an object for each entry, without spaces and without a line feed behind it.
use Rattle.std.specs.Prelude.{ℕ, List, map, fold, flat_map, codes}
use Rattle.uuid.specs.Text.{hyphenated_text, lower}
use Rattle.serde_json.specs.Data.{Data, boolean, number, string, array, object, Members, no_members, member, put}
use Rattle.serde_json.specs.Find.{of_integer}
use Rattle.serde_json.specs.View.{items_of}
use Rattle.serde_json.specs.Written.{compact_text}
use Rattle.adr_values.specs.declared.content.Value.{Value as Item}
use Rattle.adr_values.specs.declared.content.Value.TheVariants.{Text, Number, Flag, Octets, Ref}
use Rattle.adr_call.specs.declared.directory.Entry.{Entry}
use Rattle.adr_token.specs.Spelling.{two_figures, class_token, attribute_token}

-- an identifier, by its full text
abbrev pub identifier_json : List ℕ → Data
identifier_json id = string (hyphenated_text lower id)

-- a value; octets by two figures each
abbrev pub value_json : Item → Data
value_json (Text text) = string text
value_json (Number n) = number (of_integer n)
value_json (Flag flag) = boolean flag
value_json (Octets octets) = string (flat_map two_figures octets)
value_json (Ref id) = identifier_json id

-- an array, of what f makes of each element
abbrev pub array_by : {A : Type 0} → (A → Data) → List A → Data
array_by f xs = array (items_of (map f xs))

-- the members with an attribute among them, under the attribute's name
abbrev pub with_member : {A : Type 0} → (A → Data) → Members → ℕ × A → Members
with_member f members a = put (attribute_token a.0) (f a.1) members

-- an object with a member for each attribute, in the order of their names' bytes
abbrev pub object_of : {A : Type 0} → (A → Data) → List (ℕ × A) → Data
object_of f attributes = object (fold (with_member f) no_members attributes)

-- each is an array
abbrev pub with_attribute : {A : Type 0} → (A → Data) → Members → ℕ × List A → Members
with_attribute f members a = with_member (array_by f) members a

abbrev pub object_by : {A : Type 0} → (A → Data) → List (ℕ × List A) → Data
object_by f attributes = object_of (array_by f) attributes

-- an entry
unfoldable pub entry_json : Entry → Data
entry_json e =
    object (member (codes "class") (string (class_token e.class))
    (member (codes "guid") (identifier_json e.guid)
    (member (codes "links") (object_by identifier_json e.links)
    (member (codes "name") (string e.name)
    (member (codes "parent") (identifier_json e.parent)
    (member (codes "values") (object_by value_json e.values) no_members))))))

-- a directory
unfoldable pub json_text : List Entry → List ℕ
json_text d = compact_text (array_by entry_json d)
