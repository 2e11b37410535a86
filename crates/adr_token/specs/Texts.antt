-- Texts in quotes. A quote and a backslash stand behind a backslash, and so do the two figures of a control byte.
use Rattle.std.specs.Prelude.{ℕ, List, [], ◌∷◌, ◌+◌, ◌*◌, Bool, true, ◌&&◌, ◌||◌, ◌==◌, nat_lt, nat_le, ◌<◌, if◌then◌else◌, length, Option, Some, None}
use Rattle.std.specs.Str.{is_utf8}
use Rattle.adr_token.specs.declared.texts.Place.{Place}
use Rattle.adr_token.specs.declared.texts.Place.TheVariants.{Plain, Escaped, Half}
use Rattle.adr_token.specs.declared.texts.Move.{Move}
use Rattle.adr_token.specs.declared.texts.Move.TheVariants.{Close, Go, Byte, Stray}
use Rattle.adr_token.specs.Gives.{Reading, with_first, ◌>>=◌}
use Rattle.adr_token.specs.Words.{is_space, strip_byte}
use Rattle.adr_token.specs.Numbers.{figure}

-- a byte that is written by two figures
abbrev pub is_control : ℕ → Bool
is_control b = nat_lt b 32 || (b == 127)

abbrev pub plain_move : ℕ → Move
plain_move b = if b == 34 then Close else if b == 92 then Go Escaped else if is_control b then Stray else Byte b

abbrev pub half_move : Option ℕ → Move
half_move None = Stray
half_move (Some d) = Go (Half d)

abbrev pub escaped_move : ℕ → Move
escaped_move b = if (b == 34) || (b == 92) then Byte b else half_move (figure true b)

abbrev pub whole_move : ℕ → Option ℕ → Move
whole_move high None = Stray
whole_move high (Some d) = if is_control (high * 16 + d) then Byte (high * 16 + d) else Stray

-- what a byte in quotes does
abbrev pub move : Place → ℕ → Move
move Plain b = plain_move b
move Escaped b = escaped_move b
move (Half high) b = whole_move high (figure true b)

abbrev pub follow : Move → List ℕ → (Place → Reading (List ℕ)) → Reading (List ℕ)
follow Close rest go = Some ([], rest)
follow (Go place) rest go = go place
follow (Byte b) rest go = with_first b (go Plain)
follow Stray rest go = None

-- the text up to the closing quote, and what follows the quote
abbrev pub quoted : Place → List ℕ → Reading (List ℕ)
quoted place [] = None
quoted place (b ∷ bs) = follow (move place b) bs (λ next. quoted next bs)

-- a word ends here
abbrev pub ends_word : List ℕ → Bool
ends_word [] = true
ends_word (b ∷ bs) = is_space b

-- a text that the language has room for
abbrev pub is_text : List ℕ → Bool
is_text text = nat_le (length text) 65535 && is_utf8 text

unfoldable pub text_at : List ℕ → Reading (List ℕ)
text_at bytes = do
  inside ← strip_byte 34 bytes
  text ← quoted Plain inside
  if ends_word text.1 && is_text text.0 then Some text else None

-- the figure that is held is one
abbrev pub IsHalfSmall : Place → Type 0
IsHalfSmall Plain = Unit {0}
IsHalfSmall Escaped = Unit {0}
IsHalfSmall (Half high) = high < 16

abbrev pub IsMoveSmall : Move → Type 0
IsMoveSmall Close = Unit {0}
IsMoveSmall (Go place) = IsHalfSmall place
IsMoveSmall (Byte b) = Unit {0}
IsMoveSmall Stray = Unit {0}
