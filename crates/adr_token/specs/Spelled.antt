-- How a token may be spelled.
use Rattle.std.specs.Prelude.{◌≡◌, ◌⊎◌, ℕ, ◌<◌, ◌^◌, List, [], ◌∷◌, ◌++◌, length, All, FitsSigned, Option, Some, true, codes}
use Rattle.std.specs.Fmt.{decimal}
use Rattle.std.specs.Int.{w64}
use Rattle.adr_values.specs.declared.content.Value.{Value as Item}
use Rattle.adr_values.specs.declared.content.Value.TheVariants.{Text, Number, Flag, Octets, Ref}
use Rattle.adr_values.specs.Names.{class_name, attribute_name}
use Rattle.adr_token.specs.Texts.{is_text}
use Rattle.adr_token.specs.Laws.{IsIdentifier, full_token}
use Rattle.adr_token.specs.Spelling.{identifier_token, text_token, value_token}

-- an identifier has its full form, and below 2^32 a short one too
abbrev pub SpellsIdentifier : List ℕ → List ℕ → Type 0
SpellsIdentifier id bytes = IsIdentifier id × ((bytes ≡ identifier_token id) ⊎ (bytes ≡ full_token id))

abbrev pub SpellsText : List ℕ → List ℕ → Type 0
SpellsText text bytes = (is_text text ≡ true) × (bytes ≡ text_token text)

-- a number is written behind a `%`, whether it has a name or not; the name is another form
abbrev pub SpellsNumbered : Option (List ℕ) → ℕ → List ℕ → Type 0
SpellsNumbered name number bytes = (name ≡ Some bytes) ⊎ ((number < 2 ^ 16) × (bytes ≡ codes "%" ++ decimal number))

abbrev pub SpellsClass : ℕ → List ℕ → Type 0
SpellsClass class bytes = SpellsNumbered (class_name class) class bytes

abbrev pub SpellsAttribute : ℕ → List ℕ → Type 0
SpellsAttribute attr bytes = SpellsNumbered (attribute_name attr) attr bytes

-- a value that has a form: a number of 64 bits, one octet or more
abbrev pub SpellsValue : Item → List ℕ → Type 0
SpellsValue (Text text) bytes = SpellsText text bytes
SpellsValue (Number number) bytes = FitsSigned w64 number × (bytes ≡ value_token (Number number))
SpellsValue (Flag flag) bytes = bytes ≡ value_token (Flag flag)
SpellsValue (Octets octets) bytes = (0 < length octets) × All (λ b. b < 256) octets × (bytes ≡ value_token (Octets octets))
SpellsValue (Ref id) bytes = SpellsIdentifier id bytes

-- values with commas between them
abbrev pub SpellsValues : List Item → List ℕ → Type 0
SpellsValues [] bytes = bytes ≡ []
SpellsValues (value ∷ []) bytes = SpellsValue value bytes
SpellsValues (value ∷ next ∷ values) bytes =
    (first : List ℕ) × (rest : List ℕ) × SpellsValue value first × SpellsValues (next ∷ values) rest
    × (bytes ≡ first ++ codes "," ++ rest)

-- an attribute with its values
abbrev pub SpellsSet : ℕ → List Item → List ℕ → Type 0
SpellsSet attr values bytes =
    (name : List ℕ) × (list : List ℕ) × SpellsAttribute attr name × SpellsValues values list
    × (bytes ≡ name ++ codes "=" ++ list)
