-- Classes and attributes: a name of the schema, or `%` and a number below 2^16.
use Rattle.std.specs.Prelude.{ℕ, List, false, Option, Some}
use Rattle.std.specs.Option.{option_or}
use Rattle.adr_values.specs.Names.{class_number, attribute_number}
use Rattle.adr_token.specs.Gives.{Reading, ◌>>=◌}
use Rattle.adr_token.specs.Words.{strip_byte, word_as}
use Rattle.adr_token.specs.Numbers.{number_of}

-- the number behind a `%`
abbrev pub percent_number : List ℕ → Option ℕ
percent_number token = strip_byte 37 token >>= number_of false 65535

-- the class that a token names or numbers
abbrev pub class_of : List ℕ → Option ℕ
class_of token = option_or (class_number token) (percent_number token)

-- the attribute that a token names or numbers
abbrev pub attribute_of : List ℕ → Option ℕ
attribute_of token = option_or (attribute_number token) (percent_number token)

unfoldable pub class_at : List ℕ → Reading ℕ
class_at bytes = word_as class_of bytes

unfoldable pub attribute_at : List ℕ → Reading ℕ
attribute_at bytes = word_as attribute_of bytes
