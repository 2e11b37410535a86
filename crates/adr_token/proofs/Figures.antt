-- The hexadecimal figures of a number, from the last one on, and how many there are.
use Rattle.std.proofs.Common.{◌≡◌, ℕ, zero, suc, ◌+◌, ◌-◌, ◌*◌, ◌/◌, ◌%◌, ◌^◌, ◌<◌, ◌≤◌, Bool, true, false, cond, List, [], ◌∷◌, ◌++◌, length, refl, sym, ap, ◌∙◌, append_assoc, arith}
use Rattle.std.specs.Prelude.{◌==◌}
use Rattle.std.specs.Fmt.{digit_glyph, digits_onto, digits}
use Rattle.std.proofs.Math.Nat.{pow-suc, pow-zero}
use Rattle.std.proofs.lemmas.Bool.{ne_eqb, eqb-true, eqb-false}
use Rattle.std.proofs.lemmas.Bool.Decides.{nat_tests}
use Rattle.std.proofs.lemmas.List.{length-append}
use Rattle.std.proofs.lemmas.Fmt.{hex_one_digit}
use Rattle.uuid.specs.Text.{by_index, hex_digit, hyphenated_text, lower}
use Rattle.uuid.proofs.TextLemmas.{by_index_length}

figure_is : (d : ℕ) → d < 16 → hex_digit lower d ≡ digit_glyph false d
figure_is d h = grind (arith, nat_tests)

fewer : (n k : ℕ) → n < 16 ^ suc k → n / 16 < 16 ^ k
fewer n k h = let e = pow-suc 16 k in omega arith

onto_append : (k n : ℕ) (acc : List ℕ) → digits_onto k 16 false n acc ≡ digits_onto k 16 false n [] ++ acc
onto_append zero n acc = refl
onto_append (suc k) n acc = by (n / 16 == 0) (onto_append k (n / 16) (g ∷ acc)) (onto_append k (n / 16) (g ∷ []))
  where
    g : ℕ
    g = digit_glyph false (n % 16)

    rest : List ℕ → List ℕ
    rest xs = digits_onto k 16 false (n / 16) xs

    by : (t : Bool) → rest (g ∷ acc) ≡ rest [] ++ (g ∷ acc) → rest (g ∷ []) ≡ rest [] ++ (g ∷ []) → cond t (g ∷ acc) (rest (g ∷ acc)) ≡ cond t (g ∷ []) (rest (g ∷ [])) ++ acc
    by true more one = refl
    by false more one = more ∙ sym (append_assoc (rest []) (g ∷ []) acc) ∙ ap (λ (xs : List ℕ). xs ++ acc) (sym one)

-- a number of few figures has no more with more fuel
onto_fuel : (k n : ℕ) (acc : List ℕ) → n < 16 ^ suc k → digits_onto (suc k) 16 false n acc ≡ digits_onto (suc (suc k)) 16 false n acc
onto_fuel zero n acc h =
    let e = pow-suc 16 0 in
    let one = pow-zero 16 in
    let none : n / 16 ≡ 0 = omega arith in
    rw none refl
onto_fuel (suc k) n acc h = by (n / 16 == 0) (onto_fuel k (n / 16) (digit_glyph false (n % 16) ∷ acc) (fewer n (suc k) h))
  where
    g : ℕ
    g = digit_glyph false (n % 16)

    by : (t : Bool) → digits_onto (suc k) 16 false (n / 16) (g ∷ acc) ≡ digits_onto (suc (suc k)) 16 false (n / 16) (g ∷ acc)
        → cond t (g ∷ acc) (digits_onto (suc k) 16 false (n / 16) (g ∷ acc)) ≡ cond t (g ∷ acc) (digits_onto (suc (suc k)) 16 false (n / 16) (g ∷ acc))
    by true more = refl
    by false more = more

figures_step : (n : ℕ) → 16 ≤ n → n < 2 ^ 64 → digits 16 false n ≡ digits 16 false (n / 16) ++ (digit_glyph false (n % 16) ∷ [])
unfolding digits
figures_step n more h =
    let some : (n / 16 == 0) ≡ false = ne_eqb (n / 16) 0 (λ e. omega arith) in
    let small : n / 16 < 16 ^ 63 = omega arith in
    ap (λ t. cond t (g ∷ []) (digits_onto 63 16 false (n / 16) (g ∷ []))) some
    ∙ onto_append 63 (n / 16) (g ∷ [])
    ∙ ap (λ (xs : List ℕ). xs ++ (g ∷ [])) (onto_fuel 62 (n / 16) [] small)
  where
    g : ℕ
    g = digit_glyph false (n % 16)

onto_short_by : (k n : ℕ) (acc : List ℕ) (t : Bool) → (n / 16 == 0) ≡ t → (j : ℕ) → n < 16 ^ suc j
    → ((i : ℕ) → n / 16 < 16 ^ suc i → length (digits_onto k 16 false (n / 16) (digit_glyph false (n % 16) ∷ acc)) ≤ suc i + length (digit_glyph false (n % 16) ∷ acc))
    → length (cond t (digit_glyph false (n % 16) ∷ acc) (digits_onto k 16 false (n / 16) (digit_glyph false (n % 16) ∷ acc))) ≤ suc j + length acc
onto_short_by k n acc true e j h more = omega arith
onto_short_by k n acc false e zero h more =
    let p = pow-suc 16 0 in
    let one = pow-zero 16 in
    let some = eqb-false (n / 16) 0 e in
    absurd (some (omega arith))
onto_short_by k n acc false e (suc j) h more = let rest = more j (fewer n (suc j) h) in omega arith

onto_short : (k j n : ℕ) (acc : List ℕ) → n < 16 ^ suc j → length (digits_onto k 16 false n acc) ≤ suc j + length acc
onto_short zero j n acc h = omega arith
onto_short (suc k) j n acc h = onto_short_by k n acc (n / 16 == 0) refl j h (λ i. onto_short k i (n / 16) (digit_glyph false (n % 16) ∷ acc))

-- a number of 32 bits has at most eight
pub figures_short : (n : ℕ) → n < 2 ^ 32 → length (digits 16 false n) ≤ 8
unfolding digits
figures_short n h = onto_short 64 7 n [] (omega arith)

-- what is added, figure by figure
pub one_figure : (n : ℕ) → n < 16 → digits 16 false n ≡ hex_digit lower n ∷ []
one_figure n h = hex_one_digit false n h ∙ ap (λ d. d ∷ []) (sym (figure_is n h))

pub more_figures : (n : ℕ) → 16 ≤ n → n < 2 ^ 32 → digits 16 false n ≡ digits 16 false (n / 16) ++ (hex_digit lower (n % 16) ∷ [])
more_figures n more h = figures_step n more (omega arith) ∙ ap (λ d. digits 16 false (n / 16) ++ (d ∷ [])) (sym (figure_is (n % 16) (omega arith)))

pub fewer_figures : (n : ℕ) → 16 ≤ n → n < 2 ^ 32 → length (digits 16 false n) ≡ length (digits 16 false (n / 16)) + 1
fewer_figures n more h = ap length (more_figures n more h) ∙ length-append (digits 16 false (n / 16)) (hex_digit lower (n % 16) ∷ [])

-- the full form
pub full_length : (id : List ℕ) → length (hyphenated_text lower id) ≡ 36
full_length id = by_index_length 36 _
