-- Numbers in decimal and hexadecimal figures.
use Rattle.std.specs.Prelude.{ℕ, zero, suc, List, [], ◌∷◌, ◌+◌, ◌-◌, ◌*◌, Bool, true, false, not, ◌&&◌, ◌==◌, nat_le, if◌then◌else◌, Option, Some, None, ℤ, pos, negsuc}
use Rattle.adr_token.specs.Gives.{Reading, ◌>>=◌}
use Rattle.adr_token.specs.Words.{is_digit, strip_byte, word_at}

abbrev pub base : Bool → ℕ
base true = 16
base false = 10

-- what a figure stands for; in hexadecimal the lower-case letters are figures too
abbrev pub figure : Bool → ℕ → Option ℕ
figure hex b =
    if is_digit b then Some (b - 48)
    else if hex && nat_le 97 b && nat_le b 102 then Some (b - 87)
    else None

-- the number that figures make behind those that made n
abbrev pub figures_from : Bool → ℕ → List ℕ → Option ℕ
figures_from hex n [] = Some n
figures_from hex n (b ∷ bs) = figure hex b >>= λ d. figures_from hex (n * base hex + d) bs

abbrev pub at_most : ℕ → ℕ → Option ℕ
at_most limit n = if nat_le n limit then Some n else None

-- whether a number is written without a zero in front
abbrev pub is_short : List ℕ → Bool
is_short [] = false
is_short (b ∷ []) = true
is_short (b ∷ c ∷ bs) = not (b == 48)

-- a number up to a limit, in its one form
abbrev pub number_of : Bool → ℕ → List ℕ → Option ℕ
number_of hex limit word = if is_short word then figures_from hex 0 word >>= at_most limit else None

-- the number below 0 that has these figures
abbrev pub negated : ℕ → Option ℤ
negated zero = None
negated (suc n) = Some (negsuc n)

abbrev pub signed_by : List ℕ → Option (List ℕ) → Option ℤ
signed_by word None = number_of false 9223372036854775807 word >>= λ n. Some (pos n)
signed_by word (Some figures) = number_of false 9223372036854775808 figures >>= negated

-- a signed number of 64 bits, in its one form
abbrev pub signed_of : List ℕ → Option ℤ
signed_of word = signed_by word (strip_byte 45 word)

unfoldable pub number_at : List ℕ → Reading ℕ
number_at bytes = do
  word ← word_at bytes
  n ← number_of false 18446744073709551615 word.0
  Some (n, word.1)
