-- The digits of `hex` are those of the tokens.
use Rattle.std.proofs.Common.{◌≡◌, ℕ, zero, suc, ◌/◌, ◌%◌, ◌<◌, Bool, true, ◌&&◌, List, [], ◌∷◌, get_or, slice_index, flat_map, refl, subst, inl, inr, arith}
use Rattle.std.specs.Prelude.{◌==◌}
use Rattle.std.proofs.lemmas.Bool.{and_parts, cases_lt, eqb-true}
use Rattle.hex.specs.Hex.{encode_lower, encode_with, lower_digits}
use Rattle.uuid.specs.Text.{hex_digit, lower}
use Rattle.adr_token.specs.Spelling.{two_figures}

same_digit : ℕ → Bool
same_digit d = slice_index lower_digits d == hex_digit lower d

all_same : ℕ → Bool
all_same zero = true
all_same (suc n) = same_digit n && all_same n

same_below : (n d : ℕ) → all_same n ≡ true → d < n → same_digit d ≡ true
unfolding all_same
same_below zero d h below = absurd (omega arith)
same_below (suc n) d h below =
    let parts = and_parts (same_digit n) (all_same n) h in
    elim (cases_lt d n) [
      | inl less ↦ same_below n d parts.1 less
      | inr more ↦
          let top : n ≡ d = omega arith in
          subst (λ k. same_digit k ≡ true) top parts.0
    ]

digit : (d : ℕ) → d < 16 → slice_index lower_digits d ≡ hex_digit lower d
unfolding same_digit all_same
digit d below = eqb-true (slice_index lower_digits d) (hex_digit lower d) (same_below 16 d refl below)

pub encode_lower-figures : (bytes : List ℕ) → ((k : ℕ) → get_or bytes k 0 < 256) → encode_lower bytes ≡ flat_map two_figures bytes
unfolding encode_with
encode_lower-figures [] fits = refl
encode_lower-figures (b ∷ bytes) fits =
    let byte : b < 256 = fits 0 in
    let high : slice_index lower_digits (b / 16) ≡ hex_digit lower (b / 16) = digit (b / 16) (omega arith) in
    let low : slice_index lower_digits (b % 16) ≡ hex_digit lower (b % 16) = digit (b % 16) (omega arith) in
    λ i. high i ∷ low i ∷ encode_lower-figures bytes (λ k. fits (suc k)) i
