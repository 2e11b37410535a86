-- The words of a line, and their forms.
use Rattle.std.specs.Prelude.{ℕ, List, [], ◌∷◌, Bool, false, not, ◌&&◌, ◌||◌, ◌==◌, nat_le, if◌then◌else◌, length, take, drop, Option, Some, None}
use Rattle.std.specs.Str.{bytes_eq}
use Rattle.std.specs.List.{position_or_len, list_all}
use Rattle.adr_token.specs.Gives.{Reading, ◌>>=◌}

abbrev pub is_space : ℕ → Bool
is_space b = b == 32

-- without the spaces in front
abbrev pub unspaced : List ℕ → List ℕ
unspaced bytes = drop (position_or_len (λ b. not (is_space b)) bytes) bytes

-- what stands behind a byte, where that is the first
abbrev pub strip_byte : ℕ → List ℕ → Option (List ℕ)
strip_byte byte [] = None
strip_byte byte (b ∷ bs) = if b == byte then Some bs else None

-- up to the first space
abbrev pub word_at : List ℕ → Reading (List ℕ)
word_at bytes = if length (unspaced bytes) == 0 then None else Some (cut (unspaced bytes))
  where
    cut : List ℕ → List ℕ × List ℕ
    cut rest = (take (position_or_len is_space rest) rest, drop (position_or_len is_space rest) rest)

-- a word, as what it says
abbrev pub word_as : {X : Type 0} → (List ℕ → Option X) → List ℕ → Reading X
word_as of bytes = do
  word ← word_at bytes
  x ← of word.0
  Some (x, word.1)

abbrev pub is_letter : ℕ → Bool
is_letter b = (nat_le 65 b && nat_le b 90) || (nat_le 97 b && nat_le b 122)

abbrev pub is_digit : ℕ → Bool
is_digit b = nat_le 48 b && nat_le b 57

abbrev pub is_name_byte : ℕ → Bool
is_name_byte b = is_letter b || is_digit b || (b == 95)

-- a letter, and then at most 31 letters, digits or low lines
abbrev pub is_name : List ℕ → Bool
is_name [] = false
is_name (b ∷ bs) = is_letter b && nat_le (length bs) 31 && list_all is_name_byte bs

unfoldable pub name_at : List ℕ → Reading (List ℕ)
name_at bytes = do
  word ← word_at bytes
  if is_name word.0 then Some word else None

-- nothing but spaces is left
abbrev pub ended : {Y : Type 0} → List ℕ → Y → Option Y
ended rest y = if length (unspaced rest) == 0 then Some y else None

-- a word that stands in a line as it is
unfoldable pub said : List ℕ → List ℕ → Reading (Unit {0})
said what bytes = do
  word ← word_at bytes
  if bytes_eq word.0 what then Some (tt, word.1) else None
