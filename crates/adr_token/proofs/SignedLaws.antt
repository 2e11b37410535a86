-- A number with a sign is read again, and what is read was its one form.
use Rattle.std.proofs.Common.{◌≡◌, ℕ, zero, suc, ◌<◌, ◌≤◌, ◌^◌, Bool, true, false, ◌||◌, List, [], ◌∷◌, length, Option, Some, None, refl, ap, subst, ◌∙◌, arith}
use Rattle.std.specs.Prelude.{◌==◌, ℤ, pos, negsuc, FitsSigned}
use Rattle.std.specs.Int.{w64}
use Rattle.std.specs.Fmt.{decimal, signed_decimal}
use Rattle.std.specs.List.{list_all}
use Rattle.std.proofs.lemmas.Bool.{and_parts}
use Rattle.std.proofs.lemmas.Bool.Decides.{nat_tests}
use Rattle.adr_token.specs.Words.{is_digit, strip_byte}
use Rattle.adr_token.specs.Numbers.{figure, negated, number_of, signed_by, signed_of}
use Rattle.adr_token.proofs.DigitLaws.{digits_bare, digits_pass, number_again, number_was}
use Rattle.adr_token.proofs.TextLaws.{strip_byte_was}
use Rattle.adr_token.proofs.WordLaws.{are_bare, bind_some}

-- what a number with a sign begins with
abbrev pub begins_number : ℕ → Bool
begins_number b = is_digit b || (b == 45)

figure_digit : (b d : ℕ) → figure false b ≡ Some d → is_digit b ≡ true
figure_digit b d h = grind (arith, nat_tests)

digit_begins : (b : ℕ) → is_digit b ≡ true → begins_number b ≡ true
digit_begins b h = rw h refl

-- bytes that begin with a digit
abbrev Begun : List ℕ → (ℕ → Bool) → Type 0
Begun bytes p = (b : ℕ) × (bs : List ℕ) × (bytes ≡ b ∷ bs) × (p b ≡ true)

begun : (p : ℕ → Bool) (bytes : List ℕ) → list_all p bytes ≡ true → 0 < length bytes → Begun bytes p
begun p [] h l = absurd (omega arith)
begun p (b ∷ bs) h l = (b, bs, refl, (and_parts (p b) (list_all p bs) h).0)

digits_begun : (n : ℕ) → n < 2 ^ 64 → Begun (decimal n) is_digit
digits_begun n h = begun is_digit (decimal n) (digits_pass is_digit false figure_digit n h) (digits_bare false n h).1

no_sign_by : (b : ℕ) (bs : List ℕ) → is_digit b ≡ true → strip_byte 45 (b ∷ bs) ≡ None
no_sign_by b bs h = let other : (b == 45) ≡ false = grind (arith, nat_tests) in rw other refl

no_sign : (n : ℕ) → n < 2 ^ 64 → strip_byte 45 (decimal n) ≡ None
no_sign n h = let f = digits_begun n h in ap (strip_byte 45) f.2 ∙ no_sign_by f.0 f.1 f.3

pub signed_again : (z : ℤ) → FitsSigned w64 z → signed_of (signed_decimal z) ≡ Some z
signed_again (pos n) h =
    let small : n ≤ 9223372036854775807 = omega arith in
    rw (no_sign n (omega arith), number_again false 9223372036854775807 n small (omega arith)) refl
signed_again (negsuc n) h =
    let small : suc n ≤ 9223372036854775808 = omega arith in
    rw (number_again false 9223372036854775808 (suc n) small (omega arith)) refl

-- a number that is bare begins as one
pub signed_bare : (z : ℤ) → FitsSigned w64 z → are_bare (signed_decimal z) ≡ true
signed_bare (pos n) h = (digits_bare false n (omega arith)).0
signed_bare (negsuc n) h = (digits_bare false (suc n) (omega arith)).0

pub signed_begun : (z : ℤ) → FitsSigned w64 z → Begun (signed_decimal z) begins_number
signed_begun (pos n) h = let f = digits_begun n (omega arith) in (f.0, f.1, f.2, digit_begins f.0 f.3)
signed_begun (negsuc n) h = (45, decimal (suc n), refl, refl)

-- what was read
fits_pos : (n : ℕ) → n ≤ 9223372036854775807 → FitsSigned w64 (pos n)
fits_pos n h = record { sfits = omega arith }

fits_negsuc : (n : ℕ) → suc n ≤ 9223372036854775808 → FitsSigned w64 (negsuc n)
fits_negsuc n h = record { sfits = omega arith }

abbrev WasSigned : List ℕ → ℤ → Type 0
WasSigned word z = FitsSigned w64 z × (word ≡ signed_decimal z)

limit_small : (9223372036854775807 < 2 ^ 64) × (9223372036854775808 < 2 ^ 64)
limit_small = (omega arith, omega arith)

negated_was : (n : ℕ) (figures : List ℕ) (z : ℤ) → negated n ≡ Some z → figures ≡ decimal n → n ≤ 9223372036854775808 → WasSigned (45 ∷ figures) z
negated_was zero figures z h e l = absurd (cc)
negated_was (suc n) figures z h e l =
    let same : negsuc n ≡ z = cc in
    subst (WasSigned (45 ∷ figures)) same (fits_negsuc n l, ap (λ (bs : List ℕ). 45 ∷ bs) e)

signed_was_by : (word : List ℕ) (z : ℤ) (o : Option (List ℕ)) → strip_byte 45 word ≡ o → signed_by word o ≡ Some z → WasSigned word z
signed_was_by word z None e h =
    let s = bind_some (number_of false 9223372036854775807 word) (λ n. Some (pos n)) z h in
    let was = number_was false 9223372036854775807 s.0 word s.1 limit_small.0 in
    let same : pos s.0 ≡ z = cc in
    subst (WasSigned word) same (fits_pos s.0 was.1, was.0)
signed_was_by word z (Some figures) e h =
    let s = bind_some (number_of false 9223372036854775808 figures) negated z h in
    let was = number_was false 9223372036854775808 s.0 figures s.1 limit_small.1 in
    rw (strip_byte_was 45 word figures e) (negated_was s.0 figures z s.2 was.0 was.1)

pub signed_was : (word : List ℕ) (z : ℤ) → signed_of word ≡ Some z → FitsSigned w64 z × (word ≡ signed_decimal z)
signed_was word z h = signed_was_by word z (strip_byte 45 word) refl h
