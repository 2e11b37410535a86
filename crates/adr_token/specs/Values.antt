-- Values, whose form says their kind, and sets: an attribute, `=` and values with commas between them.
use Rattle.std.specs.Prelude.{ℕ, zero, suc, List, [], ◌∷◌, ◌+◌, ◌*◌, Bool, true, false, ◌||◌, ◌==◌, if◌then◌else◌, length, take, drop, Option, Some, None, codes}
use Rattle.std.specs.List.{position_or_len}
use Rattle.std.specs.Option.{option_map}
use Rattle.std.specs.Str.{bytes_eq}
use Rattle.adr_values.specs.declared.content.Value.{Value as Item}
use Rattle.adr_values.specs.declared.content.Value.TheVariants.{Text, Number, Flag, Octets, Ref}
use Rattle.adr_token.specs.declared.texts.Place.TheVariants.{Plain}
use Rattle.adr_token.specs.Gives.{Reading, with_first, ◌>>=◌}
use Rattle.adr_token.specs.Words.{is_space, strip_byte, unspaced}
use Rattle.adr_token.specs.Numbers.{figure, signed_of}
use Rattle.adr_token.specs.Identifiers.{identifier_of}
use Rattle.adr_token.specs.Texts.{ends_word, is_text, quoted}
use Rattle.adr_token.specs.Classes.{attribute_of}

-- the byte that two figures make
abbrev pub octet_of : ℕ → ℕ → Option ℕ
octet_of first second = figure true first >>= λ high. figure true second >>= λ low. Some (high * 16 + low)

-- the bytes that pairs of figures make
abbrev pub octets_of : List ℕ → Option (List ℕ)
octets_of [] = Some []
octets_of (first ∷ []) = None
octets_of (first ∷ second ∷ figures) =
    octet_of first second >>= λ octet. octets_of figures >>= λ octets. Some (octet ∷ octets)

-- one byte or more
abbrev pub some_octets : List ℕ → Option (List ℕ)
some_octets figures = if length figures == 0 then None else octets_of figures

abbrev pub flag_of : List ℕ → Option Bool
flag_of token =
    if bytes_eq token (codes "true") then Some true
    else if bytes_eq token (codes "false") then Some false
    else None

-- an identifier, a flag or a number, by the first byte
abbrev pub fixed_value_of : List ℕ → Option Item
fixed_value_of [] = None
fixed_value_of (b ∷ bs) =
    if b == 35 then option_map Ref (identifier_of (b ∷ bs))
    else if (b == 102) || (b == 116) then option_map Flag (flag_of (b ∷ bs))
    else option_map Number (signed_of (b ∷ bs))

abbrev pub octets_or_fixed : List ℕ → Option (List ℕ) → Option Item
octets_or_fixed token None = fixed_value_of token
octets_or_fixed token (Some figures) = option_map Octets (some_octets figures)

-- a value that is no text
abbrev pub value_of : List ℕ → Option Item
value_of token = octets_or_fixed token (strip_byte 120 token)

-- such a value ends before a comma or a space
abbrev pub ends_value : ℕ → Bool
ends_value b = is_space b || (b == 44)

abbrev pub plain_value_at : List ℕ → Reading Item
plain_value_at bytes =
    value_of (take (position_or_len ends_value bytes) bytes)
    >>= λ value. Some (value, drop (position_or_len ends_value bytes) bytes)

-- a text, from behind its opening quote on
abbrev pub text_value_at : List ℕ → Reading Item
text_value_at inside = quoted Plain inside >>= λ text. if is_text text.0 then Some (Text text.0, text.1) else None

abbrev pub value_by : List ℕ → Option (List ℕ) → Reading Item
value_by bytes None = plain_value_at bytes
value_by bytes (Some inside) = text_value_at inside

-- a value at the front
unfoldable pub value_at : List ℕ → Reading Item
value_at bytes = value_by bytes (strip_byte 34 bytes)

-- a value before those that are read behind a comma; without one the word ends
abbrev pub with_more : Item → List ℕ → Option (List ℕ) → (List ℕ → Reading (List Item)) → Reading (List Item)
with_more value rest None go = if ends_word rest then Some (value ∷ [], rest) else None
with_more value rest (Some more) go = with_first value (go more)

-- one value or more, and at most this many
abbrev pub values_within : ℕ → List ℕ → Reading (List Item)
values_within zero bytes = None
values_within (suc most) bytes =
    value_at bytes >>= λ value. with_more value.0 value.1 (strip_byte 44 value.1) (values_within most)

-- values to the end of the word; each has a byte, so there are at most as many as bytes
unfoldable pub values_at : List ℕ → Reading (List Item)
values_at bytes = if ends_word bytes then Some ([], bytes) else values_within (length bytes) bytes

abbrev pub is_equals : ℕ → Bool
is_equals b = b == 61

-- what stands before the first `=`, and what stands behind it
abbrev pub assigned_at : List ℕ → Reading (List ℕ)
assigned_at bytes =
    strip_byte 61 (drop (position_or_len is_equals bytes) bytes)
    >>= λ rest. Some (take (position_or_len is_equals bytes) bytes, rest)

-- an attribute with its values
unfoldable pub set_at : List ℕ → Reading (ℕ × List Item)
set_at bytes = do
  name ← assigned_at (unspaced bytes)
  attr ← attribute_of name.0
  values ← values_at name.1
  Some ((attr, values.0), values.1)
