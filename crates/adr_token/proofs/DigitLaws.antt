-- The figures of a number are read as that number, and no others are.
use Rattle.std.proofs.Common.{◌≡◌, ℕ, zero, suc, ◌+◌, ◌-◌, ◌*◌, ◌/◌, ◌%◌, ◌^◌, ◌<◌, ◌≤◌, Bool, true, false, not, cond, List, [], ◌∷◌, ◌++◌, length, Some, None, ◌⊎◌, inl, inr, refl, sym, ap, subst, ◌∙◌, arith}
use Rattle.std.specs.Prelude.{◌==◌, nat_le}
use Rattle.std.specs.List.{list_all}
use Rattle.std.specs.Fmt.{digit_glyph, digits_onto, digits, decimal}
use Rattle.std.proofs.Math.Nat.{pow-suc, pow-zero, pow-le-pow_right, mul-le-mul_right}
use Rattle.std.proofs.lemmas.Bool.{ne_eqb, eqb-true, eqb-false, le-leb, leb-true, cases_lt, and_from}
use Rattle.std.proofs.lemmas.Bool.Decides.{nat_tests}
use Rattle.std.proofs.lemmas.List.{append-nil}
use Rattle.adr_token.specs.Gives.{Reading, ◌>>=◌}
use Rattle.adr_token.specs.Numbers.{base, figure, figures_from, at_most, is_short, number_of, number_at}
use Rattle.adr_token.specs.Words.{word_at}
use Rattle.adr_token.specs.Laws.{NumbersAreReadAgain, NumbersWereSpelled}
use Rattle.adr_token.proofs.WordLaws.{are_bare, are_graphic, bare_graphic, bind_some, graphic_word, if_some, is_bare, word_again, word_was}

glyph_read : (hex : Bool) (d : ℕ) → d < base hex → figure hex (digit_glyph false d) ≡ Some d
glyph_read true d h = grind (arith, nat_tests)
glyph_read false d h = grind (arith, nat_tests)

figure_was : (hex : Bool) (b d : ℕ) → figure hex b ≡ Some d → (digit_glyph false d ≡ b) × (d < base hex)
figure_was true b d h = (grind (arith, nat_tests), grind (arith, nat_tests))
figure_was false b d h = (grind (arith, nat_tests), grind (arith, nat_tests))

whole : (hex : Bool) (n : ℕ) → n / base hex * base hex + n % base hex ≡ n
whole true n = omega arith
whole false n = omega arith

rest_small : (hex : Bool) (n : ℕ) → n % base hex < base hex
rest_small true n = omega arith
rest_small false n = omega arith

last_only : (hex : Bool) (n : ℕ) → n / base hex ≡ 0 → n % base hex ≡ n
last_only true n h = omega arith
last_only false n h = omega arith

fewer : (hex : Bool) (n k : ℕ) → n < base hex ^ suc k → n / base hex < base hex ^ k
fewer true n k h = let e = pow-suc 16 k in omega arith
fewer false n k h = let e = pow-suc 10 k in omega arith

one_read : (hex : Bool) (m d : ℕ) (bs : List ℕ) → d < base hex → figures_from hex m (digit_glyph false d ∷ bs) ≡ figures_from hex (m * base hex + d) bs
one_read hex m d bs h = rw (glyph_read hex d h) refl

none_left : (hex : Bool) (n : ℕ) → n < base hex ^ 0 → n ≡ 0
none_left true n h = let e = pow-zero 16 in omega arith
none_left false n h = let e = pow-zero 10 in omega arith

zero_times : (hex : Bool) (d : ℕ) → 0 * base hex + d ≡ d
zero_times true d = omega arith
zero_times false d = omega arith

onto_step : (hex : Bool) (k n : ℕ) (acc : List ℕ) (t : Bool) → (n / base hex == 0) ≡ t
    → figures_from hex 0 (digits_onto k (base hex) false (n / base hex) (digit_glyph false (n % base hex) ∷ acc)) ≡ figures_from hex (n / base hex) (digit_glyph false (n % base hex) ∷ acc)
    → figures_from hex 0 (cond t (digit_glyph false (n % base hex) ∷ acc) (digits_onto k (base hex) false (n / base hex) (digit_glyph false (n % base hex) ∷ acc))) ≡ figures_from hex n acc
onto_step hex k n acc true e more =
    one_read hex 0 (n % base hex) acc (rest_small hex n)
    ∙ ap (λ m. figures_from hex m acc) (zero_times hex (n % base hex) ∙ last_only hex n (eqb-true _ 0 e))
onto_step hex k n acc false e more =
    more ∙ one_read hex (n / base hex) (n % base hex) acc (rest_small hex n) ∙ ap (λ m. figures_from hex m acc) (whole hex n)

onto_read : (hex : Bool) (k n : ℕ) (acc : List ℕ) → n < base hex ^ k → figures_from hex 0 (digits_onto k (base hex) false n acc) ≡ figures_from hex n acc
onto_read hex zero n acc h = rw (none_left hex n h) refl
onto_read hex (suc k) n acc h =
    onto_step hex k n acc (n / base hex == 0) refl (onto_read hex k (n / base hex) (digit_glyph false (n % base hex) ∷ acc) (fewer hex n k h))

-- a number above 0 begins with no 0
leads : List ℕ → Bool
leads [] = false
leads (b ∷ bs) = not (b == 48)

glyph_leads : (hex : Bool) (d : ℕ) → d < base hex → 0 < d → not (digit_glyph false d == 48) ≡ true
glyph_leads true d h z = grind (arith, nat_tests)
glyph_leads false d h z = grind (arith, nat_tests)

onto_leads_step : (hex : Bool) (k n : ℕ) (acc : List ℕ) (t : Bool) → (n / base hex == 0) ≡ t → 0 < n
    → (0 < n / base hex → leads (digits_onto k (base hex) false (n / base hex) (digit_glyph false (n % base hex) ∷ acc)) ≡ true)
    → leads (cond t (digit_glyph false (n % base hex) ∷ acc) (digits_onto k (base hex) false (n / base hex) (digit_glyph false (n % base hex) ∷ acc))) ≡ true
unfolding leads
onto_leads_step hex k n acc true e z more =
    let same = last_only hex n (eqb-true _ 0 e) in
    glyph_leads hex (n % base hex) (rest_small hex n) (omega arith)
onto_leads_step hex k n acc false e z more = let some = eqb-false (n / base hex) 0 e in more (omega arith)

onto_leads : (hex : Bool) (k n : ℕ) (acc : List ℕ) → n < base hex ^ k → 0 < n → leads (digits_onto k (base hex) false n acc) ≡ true
onto_leads hex zero n acc h z = let e = none_left hex n h in absurd (omega arith)
onto_leads hex (suc k) n acc h z =
    onto_leads_step hex k n acc (n / base hex == 0) refl z (λ q. onto_leads hex k (n / base hex) (digit_glyph false (n % base hex) ∷ acc) (fewer hex n k h) q)

short_from : (bs : List ℕ) → leads bs ≡ true → is_short bs ≡ true
unfolding leads
short_from [] h = absurd (cc)
short_from (b ∷ []) h = refl
short_from (b ∷ c ∷ bs) h = h

fits : (hex : Bool) (n : ℕ) → n < 2 ^ 64 → n < base hex ^ 64
fits true n h = omega arith
fits false n h = omega arith

zero_short : (hex : Bool) → is_short (digits (base hex) false 0) ≡ true
unfolding digits
zero_short true = refl
zero_short false = refl

digits_short_at : (hex : Bool) (n : ℕ) → n < 2 ^ 64 → (0 < n) ⊎ (n ≤ 0) → is_short (digits (base hex) false n) ≡ true
unfolding digits
digits_short_at hex n h (inl z) = short_from _ (onto_leads hex 64 n [] (fits hex n h) z)
digits_short_at hex n h (inr z) = let none : n ≡ 0 = omega arith in rw none (zero_short hex)

digits_read : (hex : Bool) (n : ℕ) → n < 2 ^ 64 → figures_from hex 0 (digits (base hex) false n) ≡ Some n
unfolding digits
digits_read hex n h = onto_read hex 64 n [] (fits hex n h)

pub number_again : (hex : Bool) (limit n : ℕ) → n ≤ limit → n < 2 ^ 64 → number_of hex limit (digits (base hex) false n) ≡ Some n
number_again hex limit n below h = rw (digits_short_at hex n h (cases_lt 0 n), digits_read hex n h, le-leb n limit below) refl

-- the other way: what was read
step_was : (hex : Bool) (m d : ℕ) → d < base hex → ((m * base hex + d) / base hex ≡ m) × ((m * base hex + d) % base hex ≡ d)
step_was true m d h = (omega arith, omega arith)
step_was false m d h = (omega arith, omega arith)

unstep : (hex : Bool) (j m d b : ℕ) (acc : List ℕ) → 0 < m → d < base hex → digit_glyph false d ≡ b
    → digits_onto (suc j) (base hex) false (m * base hex + d) acc ≡ digits_onto j (base hex) false m (b ∷ acc)
unstep hex j m d b acc z h was =
    let s = step_was hex m d h in
    let some : (m == 0) ≡ false = ne_eqb m 0 (λ e. omega arith) in
    rw (s.0, s.1, some, was) refl

positive : (hex : Bool) (m d : ℕ) → 0 < m → 0 < m * base hex + d
positive true m d z = omega arith
positive false m d z = omega arith

-- the figures that were read stand at the end of the number's own
pub onto_was : (hex : Bool) (j m n : ℕ) (word acc : List ℕ) → 0 < m → figures_from hex m word ≡ Some n
    → digits_onto (j + length word) (base hex) false n acc ≡ digits_onto j (base hex) false m (word ++ acc)
onto_was hex j m n [] acc z h =
    let same : m ≡ n = cc in
    let e : j + 0 ≡ j = omega arith in
    rw (e, same) refl
onto_was hex j m n (b ∷ bs) acc z h =
    let s = bind_some (figure hex b) (λ d. figures_from hex (m * base hex + d) bs) n h in
    let was = figure_was hex b s.0 s.1 in
    let e : j + length (b ∷ bs) ≡ suc j + length bs = omega arith in
    rw e (onto_was hex (suc j) (m * base hex + s.0) n bs acc (positive hex m s.0 z) s.2 ∙ unstep hex j m s.0 b (bs ++ acc) z was.1 was.0)

-- each figure makes the number ten times as great at least
longer : (hex : Bool) (m d p : ℕ) → m * (p * 10) ≤ (m * base hex + d) * p
longer true m d p = omega arith
longer false m d p = omega arith

grows : (hex : Bool) (m n : ℕ) (word : List ℕ) → figures_from hex m word ≡ Some n → m * 10 ^ length word ≤ n
grows hex m n [] h =
    let same : m ≡ n = cc in
    let e = pow-zero 10 in
    rw e (omega arith)
grows hex m n (b ∷ bs) h =
    let s = bind_some (figure hex b) (λ d. figures_from hex (m * base hex + d) bs) n h in
    let more = grows hex (m * base hex + s.0) n bs s.2 in
    let step = longer hex m s.0 (10 ^ length bs) in
    rw (pow-suc 10 (length bs)) (omega arith)

few_by : (hex : Bool) (k m n : ℕ) (word : List ℕ) → 0 < m → figures_from hex m word ≡ Some n → n < 10 ^ k → (length word < k) ⊎ (k ≤ length word) → length word < k
few_by hex k m n word z h small (inl l) = l
few_by hex k m n word z h small (inr l) =
    let p : 10 ^ k ≤ 10 ^ length word = pow-le-pow_right {n = 10} (omega arith) l in
    let g : m * 10 ^ length word ≤ n = grows hex m n word h in
    let q : 1 * 10 ^ length word ≤ m * 10 ^ length word = mul-le-mul_right (10 ^ length word) z in
    absurd (omega arith)

few : (hex : Bool) (k m n : ℕ) (word : List ℕ) → 0 < m → figures_from hex m word ≡ Some n → n < 10 ^ k → length word < k
few hex k m n word z h small = few_by hex k m n word z h small (cases_lt (length word) k)

one_digit : (hex : Bool) (d : ℕ) → d < base hex → digits (base hex) false d ≡ digit_glyph false d ∷ []
unfolding digits
one_digit true d h = let q : d / 16 ≡ 0 = omega arith in let r : d % 16 ≡ d = omega arith in rw (q, r) refl
one_digit false d h = let q : d / 10 ≡ 0 = omega arith in let r : d % 10 ≡ d = omega arith in rw (q, r) refl

digit_alone : (hex : Bool) (m d : ℕ) (acc : List ℕ) (j : ℕ) → 0 < j → d < base hex → digits_onto j (base hex) false d acc ≡ digit_glyph false d ∷ acc
digit_alone hex m d acc zero z h = absurd (omega arith)
digit_alone true m d acc (suc j) z h = let q : d / 16 ≡ 0 = omega arith in let r : d % 16 ≡ d = omega arith in rw (q, r) refl
digit_alone false m d acc (suc j) z h = let q : d / 10 ≡ 0 = omega arith in let r : d % 10 ≡ d = omega arith in rw (q, r) refl

no_zero : (hex : Bool) (b d : ℕ) → digit_glyph false d ≡ b → not (b == 48) ≡ true → 0 < d
no_zero hex b d e h = grind (arith, nat_tests)

-- several figures, the first of which isn't 0
several_were : (hex : Bool) (d n : ℕ) (word : List ℕ) → 0 < d → d < base hex → figures_from hex d word ≡ Some n → n < 2 ^ 64 → digits (base hex) false n ≡ digit_glyph false d ∷ word
unfolding digits
several_were hex d n word z h read small =
    let l = few hex 64 d n word z read (omega arith) in
    let j = 64 - length word in
    let e : (64 - length word) + length word ≡ 64 = omega arith in
    subst (λ (k : ℕ). digits_onto k (base hex) false n [] ≡ digit_glyph false d ∷ word) e
    (onto_was hex (64 - length word) d n word [] z read ∙ digit_alone hex 0 d (word ++ []) (64 - length word) (omega arith) h ∙ ap (λ (xs : List ℕ). digit_glyph false d ∷ xs) (append-nil word))

word_was_short : (hex : Bool) (n : ℕ) (word : List ℕ) → is_short word ≡ true → figures_from hex 0 word ≡ Some n → n < 2 ^ 64 → word ≡ digits (base hex) false n
word_was_short hex n [] short read small = absurd (cc)
word_was_short hex n (b ∷ []) short read small =
    let s = bind_some (figure hex b) (λ d. figures_from hex (0 * base hex + d) []) n read in
    let was = figure_was hex b s.0 s.1 in
    let same : 0 * base hex + s.0 ≡ n = cc in
    let value : s.0 ≡ n = sym (zero_times hex s.0) ∙ same in
    rw (← value) (ap (λ (x : ℕ). x ∷ []) (sym was.0) ∙ sym (one_digit hex s.0 was.1))
word_was_short hex n (b ∷ c ∷ bs) short read small =
    let s = bind_some (figure hex b) (λ d. figures_from hex (0 * base hex + d) (c ∷ bs)) n read in
    let was = figure_was hex b s.0 s.1 in
    let from : figures_from hex s.0 (c ∷ bs) ≡ Some n = subst (λ (m : ℕ). figures_from hex m (c ∷ bs) ≡ Some n) (zero_times hex s.0) s.2 in
    sym (several_were hex s.0 n (c ∷ bs) (no_zero hex b s.0 was.0 short) was.1 from small ∙ ap (λ (x : ℕ). x ∷ c ∷ bs) was.0)

pub number_was : (hex : Bool) (limit n : ℕ) (word : List ℕ) → number_of hex limit word ≡ Some n → limit < 2 ^ 64 → (word ≡ digits (base hex) false n) × (n ≤ limit)
number_was hex limit n word h small = by (is_short word) refl h
  where
    by : (t : Bool) → is_short word ≡ t → cond t (figures_from hex 0 word >>= at_most limit) None ≡ Some n → (word ≡ digits (base hex) false n) × (n ≤ limit)
    by false e g = absurd (cc)
    by true e g =
        let s = bind_some (figures_from hex 0 word) (at_most limit) n g in
        let t = if_some (nat_le s.0 limit) s.0 n s.2 in
        let below : n ≤ limit = subst (λ (m : ℕ). m ≤ limit) t.1 (leb-true s.0 limit t.0) in
        (word_was_short hex n word e (s.1 ∙ ap Some t.1) (omega arith), below)

-- a short number has few figures
pub length_short : (hex : Bool) (k n : ℕ) (word : List ℕ) → is_short word ≡ true → figures_from hex 0 word ≡ Some n → n < 10 ^ k → length word ≤ k + 1
length_short hex k n [] short read small = omega arith
length_short hex k n (b ∷ []) short read small = omega arith
length_short hex k n (b ∷ c ∷ bs) short read small =
    let s = bind_some (figure hex b) (λ d. figures_from hex (0 * base hex + d) (c ∷ bs)) n read in
    let was = figure_was hex b s.0 s.1 in
    let from : figures_from hex s.0 (c ∷ bs) ≡ Some n = subst (λ (m : ℕ). figures_from hex m (c ∷ bs) ≡ Some n) (zero_times hex s.0) s.2 in
    let l = few hex k s.0 n (c ∷ bs) (no_zero hex b s.0 was.0 short) from small in
    omega arith

pub length-digits-le : (hex : Bool) (k n : ℕ) → n < 2 ^ 64 → n < 10 ^ k → length (digits (base hex) false n) ≤ k + 1
length-digits-le hex k n h small = length_short hex k n (digits (base hex) false n) (digits_short_at hex n h (cases_lt 0 n)) (digits_read hex n h) small

-- figures are bare
figure_bare : (hex : Bool) (b d : ℕ) → figure hex b ≡ Some d → is_bare b ≡ true
figure_bare true b d h = grind (arith, nat_tests)
figure_bare false b d h = grind (arith, nat_tests)

-- what holds of figures holds of those of a number
figures_pass : (p : ℕ → Bool) (hex : Bool) → ((b d : ℕ) → figure hex b ≡ Some d → p b ≡ true) → (m n : ℕ) (word : List ℕ) → figures_from hex m word ≡ Some n → list_all p word ≡ true
figures_pass p hex passes m n [] h = refl
figures_pass p hex passes m n (b ∷ bs) h =
    let s = bind_some (figure hex b) (λ d. figures_from hex (m * base hex + d) bs) n h in
    and_from _ _ (passes b s.0 s.1) (figures_pass p hex passes (m * base hex + s.0) n bs s.2)

pub digits_pass : (p : ℕ → Bool) (hex : Bool) → ((b d : ℕ) → figure hex b ≡ Some d → p b ≡ true) → (n : ℕ) → n < 2 ^ 64 → list_all p (digits (base hex) false n) ≡ true
digits_pass p hex passes n h = figures_pass p hex passes 0 n (digits (base hex) false n) (digits_read hex n h)

short_some : (word : List ℕ) → is_short word ≡ true → 0 < length word
short_some [] h = absurd (cc)
short_some (b ∷ bs) h = omega arith

pub digits_bare : (hex : Bool) (n : ℕ) → n < 2 ^ 64 → (are_bare (digits (base hex) false n) ≡ true) × (0 < length (digits (base hex) false n))
digits_bare hex n h = let w = digits (base hex) false n in (digits_pass is_bare hex (figure_bare hex) n h, short_some w (digits_short_at hex n h (cases_lt 0 n)))

pub digits_graphic : (hex : Bool) (n : ℕ) → n < 2 ^ 64 → (are_graphic (digits (base hex) false n) ≡ true) × (0 < length (digits (base hex) false n))
digits_graphic hex n h = let w = digits_bare hex n h in (bare_graphic (digits (base hex) false n) w.0, w.1)

pub numbers_again : NumbersAreReadAgain
unfolding number_at
numbers_again n rest h e =
    let w = digits_graphic false n h in
    rw (word_again (decimal n) rest (graphic_word (decimal n) w.0) w.1 e, number_again false 18446744073709551615 n (omega arith) h) refl

at_number : (m n : ℕ) (rest left : List ℕ) → ◌≡◌ {A = Reading ℕ} (Some (m, left)) (Some (n, rest)) → (m ≡ n) × (left ≡ rest)
at_number m n rest left h =
    let both : (m, left) ≡ (n, rest) = cc in
    (ap (λ (x : ℕ × List ℕ). x.0) both, ap (λ (x : ℕ × List ℕ). x.1) both)

small_number : (m n : ℕ) → m ≤ 18446744073709551615 → m ≡ n → n < 2 ^ 64
small_number m n h e = omega arith

limit_small : 18446744073709551615 < 2 ^ 64
limit_small = omega arith

pub numbers_spelled : NumbersWereSpelled
unfolding number_at
numbers_spelled bytes n rest h =
    let s = bind_some (word_at bytes) (λ word. number_of false 18446744073709551615 word.0 >>= λ m. Some (m, word.1)) (n, rest) h in
    let t = bind_some (number_of false 18446744073709551615 s.0.0) (λ m. Some (m, s.0.1)) (n, rest) s.2 in
    let e = at_number t.0 n rest s.0.1 t.2 in
    let was = number_was false 18446744073709551615 t.0 s.0.0 t.1 limit_small in
    let word : s.0.0 ≡ decimal n = was.0 ∙ ap decimal e.0 in
    (small_number t.0 n was.1 e.0, word_was bytes (decimal n) rest (s.1 ∙ ap Some (λ i. (word i, e.1 i))))
