-- Identifiers: `#` and a number below 2^32 in hexadecimal, or `#` and the full text.
use Rattle.std.specs.Prelude.{ℕ, List, [], ◌∷◌, true, ◌==◌, if◌then◌else◌, length, Option, Some, None}
use Rattle.std.specs.Str.{bytes_eq, is_utf8}
use Rattle.std.specs.Int.{w128, to_be_bytes}
use Rattle.uuid.specs.Text.{hyphenated_text, parsed, lower}
use Rattle.adr_token.specs.Gives.{Reading, ◌>>=◌}
use Rattle.adr_token.specs.Words.{word_as}
use Rattle.adr_token.specs.Numbers.{number_of}

-- an identifier, where this is its full text in lower case
abbrev pub spelled_back : List ℕ → List ℕ → Option (List ℕ)
spelled_back text id = if bytes_eq (hyphenated_text lower id) text then Some id else None

abbrev pub full_identifier : List ℕ → Option (List ℕ)
full_identifier text = if is_utf8 text then parsed text >>= spelled_back text else None

abbrev pub short_identifier : List ℕ → Option (List ℕ)
short_identifier figures = number_of true 4294967295 figures >>= λ n. Some (to_be_bytes w128 n)

abbrev pub identifier_of : List ℕ → Option (List ℕ)
identifier_of [] = None
identifier_of (b ∷ rest) =
    if b == 35 then (if length rest == 36 then full_identifier rest else short_identifier rest) else None

unfoldable pub identifier_at : List ℕ → Reading (List ℕ)
identifier_at bytes = word_as identifier_of bytes
