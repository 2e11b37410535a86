-- How tokens are spelled.
use Rattle.std.specs.Prelude.{ℕ, List, [], ◌∷◌, ◌++◌, ◌/◌, ◌%◌, ◌||◌, ◌==◌, Bool, true, false, nat_lt, if◌then◌else◌, flat_map, Option, Some, None, codes}
use Rattle.std.specs.Fmt.{decimal, digits, signed_decimal}
use Rattle.std.specs.Int.{w128, from_be_bytes}
use Rattle.uuid.specs.Text.{hex_digit, hyphenated_text, lower}
use Rattle.adr_values.specs.declared.content.Value.{Value as Item}
use Rattle.adr_values.specs.declared.content.Value.TheVariants.{Text, Number, Flag, Octets, Ref}
use Rattle.adr_values.specs.Names.{class_name, attribute_name}
use Rattle.adr_token.specs.Texts.{is_control}

-- the two figures of a byte
abbrev pub two_figures : ℕ → List ℕ
two_figures b = hex_digit lower (b / 16) ∷ hex_digit lower (b % 16) ∷ []

-- a byte of a text in quotes
abbrev pub escaped : ℕ → List ℕ
escaped b = if (b == 34) || (b == 92) then 92 ∷ b ∷ [] else if is_control b then 92 ∷ two_figures b else b ∷ []

unfoldable pub text_token : List ℕ → List ℕ
text_token text = codes "\"" ++ flat_map escaped text ++ codes "\""

-- the short form below 2^32, else the full text
abbrev pub identifier_text : List ℕ → List ℕ
identifier_text id = if nat_lt (from_be_bytes w128 id) 4294967296 then digits 16 false (from_be_bytes w128 id) else hyphenated_text lower id

unfoldable pub identifier_token : List ℕ → List ℕ
identifier_token id = codes "#" ++ identifier_text id

abbrev pub flag_text : Bool → List ℕ
flag_text true = codes "true"
flag_text false = codes "false"

-- a value by its syntax
unfoldable pub value_token : Item → List ℕ
value_token (Text text) = text_token text
value_token (Number number) = signed_decimal number
value_token (Flag flag) = flag_text flag
value_token (Octets octets) = codes "x" ++ flat_map two_figures octets
value_token (Ref id) = identifier_token id

-- the name that a number has, else the number
abbrev pub name_or_number : Option (List ℕ) → ℕ → List ℕ
name_or_number (Some name) number = name
name_or_number None number = codes "%" ++ decimal number

unfoldable pub class_token : ℕ → List ℕ
class_token number = name_or_number (class_name number) number

unfoldable pub attribute_token : ℕ → List ℕ
attribute_token number = name_or_number (attribute_name number) number

-- values with commas between them
abbrev pub values_token : List Item → List ℕ
values_token [] = []
values_token (value ∷ values) = value_token value ++ flat_map (λ v. codes "," ++ value_token v) values

-- an attribute with its values
unfoldable pub set_token : ℕ → List Item → List ℕ
set_token attr values = attribute_token attr ++ codes "=" ++ values_token values
