-- Numbers behind words: such names are names, such texts are texts, and the numbers tell them apart.
use Rattle.std.proofs.Common.{◌≡◌, ℕ, ◌+◌, ◌%◌, ◌<◌, ◌≤◌, ◌^◌, true, List, [], ◌∷◌, ◌++◌, length, refl, sym, ap, ◌∙◌, arith, length-append}
use Rattle.std.specs.Prelude.{nat_lt}
use Rattle.std.specs.Fmt.{decimal}
use Rattle.std.specs.List.{list_all}
use Rattle.std.specs.Str.{IsAscii}
use Rattle.std.specs.Str.Parse.{digits_value}
use Rattle.std.proofs.lemmas.Bool.{and_from, and_parts, le-leb, ltb-true}
use Rattle.std.proofs.lemmas.Bool.Decides.{nat_tests}
use Rattle.std.proofs.lemmas.Fmt.{decimal_by_steps_wide, decimal_is_IsNumeral_wide, length-decimal-le_wide, IsAscii-decimal_wide}
use Rattle.std.proofs.lemmas.List.Folds.{list_all-append}
use Rattle.std.proofs.lemmas.Str.{IsUtf8-from_ascii, IsAscii-append, is_utf8-from_IsUtf8}
use Rattle.std.proofs.lemmas.Str.Ascii.{IsAscii-nil, IsAscii-cons}
use Rattle.adr_token.specs.Words.{is_letter, is_name_byte, is_name}
use Rattle.adr_token.specs.Texts.{is_text}

-- the numbers of a schedule are below this
abbrev pub IsSmall : ℕ → Type 0
IsSmall k = k < 10 ^ 20

digit_named : (n : ℕ) → n < 10 → is_name_byte (48 + n) ≡ true
digit_named n h = grind (arith, nat_tests)

digits_named : (n : ℕ) → n < 10 ^ 64 → list_all is_name_byte (decimal n) ≡ true
digits_named = decimal_by_steps_wide (λ n ds. list_all is_name_byte ds ≡ true) one more
  where
    one : (n : ℕ) → n < 10 → list_all is_name_byte ((48 + n) ∷ []) ≡ true
    one n h = and_from _ _ (digit_named n h) refl

    more : (n : ℕ) (ds : List ℕ) → 10 ≤ n → list_all is_name_byte ds ≡ true → list_all is_name_byte (ds ++ ((48 + n % 10) ∷ [])) ≡ true
    more n ds h all = list_all-append is_name_byte ds ((48 + n % 10) ∷ []) ∙ and_from _ _ all (one (n % 10) (omega arith))

decimal_short : (k : ℕ) → IsSmall k → length (decimal k) ≤ 20
decimal_short k small = length-decimal-le_wide 20 k (omega arith) small (omega arith)

-- a letter with a number behind it is a name
pub letter_named : (letter k : ℕ) → is_letter letter ≡ true → IsSmall k → is_name (letter ∷ decimal k) ≡ true
letter_named letter k is small =
    let short : length (decimal k) ≤ 20 = decimal_short k small in
    and_from _ _ (and_from _ _ is (le-leb (length (decimal k)) 31 (omega arith))) (digits_named k (omega arith))

plain_ascii : (word : List ℕ) → list_all (λ b. nat_lt b 128) word ≡ true → IsAscii word
plain_ascii [] h = IsAscii-nil
plain_ascii (b ∷ bs) h = let p = and_parts _ _ h in IsAscii-cons b bs (ltb-true b 128 p.0) (plain_ascii bs p.1)

-- a word of a few plain bytes with a number behind it is a text
pub word_text : (word : List ℕ) (k : ℕ) → list_all (λ b. nat_lt b 128) word ≡ true → length word ≤ 100 → IsSmall k → is_text (word ++ decimal k) ≡ true
word_text word k plain few small =
    let short : length (decimal k) ≤ 20 = decimal_short k small in
    and_from _ _ (le-leb (length (word ++ decimal k)) 65535 (simp length-append (omega arith)))
    (is_utf8-from_IsUtf8 (word ++ decimal k) (IsUtf8-from_ascii (word ++ decimal k) (IsAscii-append word (decimal k) (plain_ascii word plain) (IsAscii-decimal_wide k (omega arith)))))

-- numbers that are written alike are equal
pub decimal_apart : (j k : ℕ) → j < 10 ^ 64 → k < 10 ^ 64 → decimal j ≡ decimal k → j ≡ k
decimal_apart j k hj hk e = sym (decimal_is_IsNumeral_wide j hj).1 ∙ ap (digits_value 10) e ∙ (decimal_is_IsNumeral_wide k hk).1
