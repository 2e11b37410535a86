-- Tokens tell what they stand for, whatever follows that is none of their bytes.
use Rattle.std.proofs.Common.{◌≡◌, ℕ, zero, suc, ◌/◌, ◌%◌, ◌<◌, ◌^◌, Bool, true, false, not, ◌&&◌, cond, List, [], ◌∷◌, ◌++◌, flat_map, Option, Some, refl, sym, ap, ◌∙◌, arith}
use Rattle.std.specs.Prelude.{◌==◌, nat_le, nat_lt}
use Rattle.std.specs.List.{list_all}
use Rattle.std.specs.Fmt.{digit_glyph, digits_onto, digits, decimal}
use Rattle.std.specs.Int.{w128, from_be_bytes}
use Rattle.std.proofs.lemmas.Bool.{and_from}
use Rattle.std.proofs.lemmas.Bool.Decides.{nat_tests}
use Rattle.std.proofs.lemmas.Fmt.{decimal_injective}
use Rattle.std.proofs.lemmas.List.Folds.{list_all-append}
use Rattle.uuid.specs.Text.{by_index, hex_digit, hyphen, hyphenated_text, is_hyphen_place, lower, nibble}
use Rattle.adr_token.specs.Identifiers.{identifier_at}
use Rattle.adr_token.specs.Laws.{IsIdentifier}
use Rattle.adr_token.specs.Spelling.{escaped, identifier_text, identifier_token, text_token}
use Rattle.adr_token.specs.Texts.{quoted}
use Rattle.adr_token.specs.declared.texts.Place.TheVariants.{Plain}
use Rattle.adr_token.proofs.IdentifierLaws.{identifiers_again}
use Rattle.adr_token.proofs.QuoteLaws.{reads_back}
use Rattle.adr_token.proofs.TextLaws.{token_is}
use Rattle.adr_answers.proofs.Prefixes.{ends, words_divide}

-- the bytes of identifiers, numbers, octets and flags: no space, comma or line feed
abbrev pub is_inner : ℕ → Bool
is_inner b = nat_le 45 b

abbrev pub is_figure : ℕ → Bool
is_figure b = nat_le 48 b && nat_le b 57

-- the bytes of numbers
onto_step : (p : ℕ → Bool) (t : Bool) (front more : List ℕ) → list_all p front ≡ true → list_all p more ≡ true → list_all p (cond t front more) ≡ true
onto_step p true front more h g = h
onto_step p false front more h g = g

onto_all : (p : ℕ → Bool) (base : ℕ) → ((n : ℕ) → p (digit_glyph false (n % base)) ≡ true) → (k n : ℕ) (acc : List ℕ) → list_all p acc ≡ true → list_all p (digits_onto k base false n acc) ≡ true
onto_all p base each zero n acc h = h
onto_all p base each (suc k) n acc h =
    let front : list_all p (digit_glyph false (n % base) ∷ acc) ≡ true = and_from (p (digit_glyph false (n % base))) (list_all p acc) (each n) h in
    onto_step p (n / base == 0) (digit_glyph false (n % base) ∷ acc) (digits_onto k base false (n / base) (digit_glyph false (n % base) ∷ acc)) front
    (onto_all p base each k (n / base) (digit_glyph false (n % base) ∷ acc) front)

glyph_figure : (n : ℕ) → is_figure (digit_glyph false (n % 10)) ≡ true
glyph_figure n = let small : n % 10 < 10 = omega arith in grind (arith, nat_tests)

glyph_inner : (n : ℕ) → is_inner (digit_glyph false (n % 16)) ≡ true
glyph_inner n = grind (arith, nat_tests)

pub decimal_figures : (n : ℕ) → list_all is_figure (decimal n) ≡ true
unfolding digits
decimal_figures n = onto_all is_figure 10 glyph_figure 64 n [] refl

hexadecimal_inner : (n : ℕ) → list_all is_inner (digits 16 false n) ≡ true
unfolding digits
hexadecimal_inner n = onto_all is_inner 16 glyph_inner 64 n [] refl

-- numbers, with a byte behind them that is no figure
pub figures_divide : (b : ℕ) → is_figure b ≡ false → (m n : ℕ) (r s : List ℕ) → decimal m ++ (b ∷ r) ≡ decimal n ++ (b ∷ s) → (decimal m ≡ decimal n) × (r ≡ s)
figures_divide b no_figure m n r s e =
    let d = words_divide is_figure (decimal m) (decimal n) (b ∷ r) (b ∷ s) (decimal_figures m) (decimal_figures n) (ap not no_figure) (ap not no_figure) e in
    let behind : b ∷ r ≡ b ∷ s = d.1 in
    let left : r ≡ s = cc in
    (d.0, left)

pub numbers_divide : (b : ℕ) → is_figure b ≡ false → (m n : ℕ) (r s : List ℕ) → m < 2 ^ 64 → n < 2 ^ 64 → decimal m ++ (b ∷ r) ≡ decimal n ++ (b ∷ s) → (m ≡ n) × (r ≡ s)
numbers_divide b no_figure m n r s hm hn e =
    let d = figures_divide b no_figure m n r s e in
    (decimal_injective m n hm hn d.0, d.1)

-- identifiers
index_inner : (n : ℕ) (f : ℕ → ℕ) → ((k : ℕ) → is_inner (f k) ≡ true) → list_all is_inner (by_index n f) ≡ true
unfolding by_index
index_inner zero f h = refl
index_inner (suc n) f h = list_all-append is_inner (by_index n f) (f n ∷ []) ∙ and_from _ _ (index_inner n f h) (and_from _ _ (h n) refl)

hex_inner : (d : ℕ) → is_inner (hex_digit lower d) ≡ true
hex_inner d = grind (arith, nat_tests)

place_inner : (t : Bool) (d : ℕ) → is_inner (cond t hyphen (hex_digit lower d)) ≡ true
place_inner true d = refl
place_inner false d = hex_inner d

identifier_inner : (id : List ℕ) → list_all is_inner (identifier_text id) ≡ true
identifier_inner id = by (nat_lt (from_be_bytes w128 id) 4294967296)
  where
    by : (t : Bool) → list_all is_inner (cond t (digits 16 false (from_be_bytes w128 id)) (hyphenated_text lower id)) ≡ true
    by true = hexadecimal_inner (from_be_bytes w128 id)
    by false = index_inner 36 _ (λ k. place_inner (is_hyphen_place k) (nibble id _))

read_same : (i j r s : List ℕ) → ◌≡◌ {A = Option (List ℕ × List ℕ)} (Some (i, r)) (Some (j, s)) → (i ≡ j) × (r ≡ s)
read_same i j r s h =
    let pair : (i, r) ≡ (j, s) = cc in
    (ap (λ (x : List ℕ × List ℕ). x.0) pair, ap (λ (x : List ℕ × List ℕ). x.1) pair)

pub identifiers_divide : (i j r s : List ℕ) → IsIdentifier i → IsIdentifier j → ends is_inner r ≡ true → ends is_inner s ≡ true → identifier_token i ++ r ≡ identifier_token j ++ s → (i ≡ j) × (r ≡ s)
unfolding identifier_token
identifiers_divide i j r s hi hj er es e =
    let inside : identifier_text i ++ r ≡ identifier_text j ++ s = cc in
    let d = words_divide is_inner (identifier_text i) (identifier_text j) r s (identifier_inner i) (identifier_inner j) er es inside in
    let same : identifier_token i ++ [] ≡ identifier_token j ++ [] = ap (λ (x : List ℕ). 35 ∷ (x ++ [])) d.0 in
    ((read_same i j [] [] (sym (identifiers_again i [] hi refl).0 ∙ ap identifier_at same ∙ (identifiers_again j [] hj refl).0)).0, d.1)

-- texts
pub texts_divide : (x y r s : List ℕ) → text_token x ++ r ≡ text_token y ++ s → (x ≡ y) × (r ≡ s)
texts_divide x y r s e =
    let whole : 34 ∷ (flat_map escaped x ++ 34 ∷ r) ≡ 34 ∷ (flat_map escaped y ++ 34 ∷ s) = sym (token_is x r) ∙ e ∙ token_is y s in
    let inside : flat_map escaped x ++ 34 ∷ r ≡ flat_map escaped y ++ 34 ∷ s = cc in
    read_same x y r s (sym (reads_back x r) ∙ ap (quoted Plain) inside ∙ reads_back y s)
