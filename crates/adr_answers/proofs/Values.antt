-- A value's token tells the value, and so do the tokens of values with commas between them.
use Rattle.std.proofs.Common.{◌≡◌, ℕ, suc, ◌/◌, ◌%◌, ◌<◌, ◌^◌, Bool, true, false, ◌&&◌, cond, List, [], ◌∷◌, ◌++◌, length, flat_map, refl, sym, ap, ◌∙◌, arith, append_assoc}
use Rattle.std.specs.Prelude.{◌==◌, nat_le, codes, pos, negsuc, All, ℤ}
use Rattle.std.specs.List.{list_all}
use Rattle.std.specs.Fmt.{decimal, signed_decimal}
use Rattle.std.proofs.lemmas.Bool.{and_from, and_parts}
use Rattle.std.proofs.lemmas.Bool.Decides.{nat_tests}
use Rattle.std.proofs.lemmas.Fmt.{decimal_nonempty, signed_decimal_injective}
use Rattle.std.proofs.lemmas.List.Elements.{All-head, All-tail}
use Rattle.uuid.specs.Text.{hex_digit, lower}
use Rattle.adr_values.specs.declared.content.Value.{Value as Item}
use Rattle.adr_values.specs.declared.content.Value.TheVariants.{Text, Number, Flag, Octets, Ref}
use Rattle.adr_token.specs.Laws.{IsIdentifier}
use Rattle.adr_token.specs.Spelling.{flag_text, identifier_text, identifier_token, text_token, two_figures, value_token, values_token}
use Rattle.adr_token.proofs.Lists.{all_more}
use Rattle.adr_answers.specs.Line.{listed}
use Rattle.adr_answers.specs.Printable.{IsPrintableValue}
use Rattle.adr_answers.proofs.Prefixes.{clash, ends, lists_divide, words_divide}
use Rattle.adr_answers.proofs.Tokens.{decimal_figures, identifiers_divide, is_figure, is_inner, texts_divide}

-- no space or line feed
abbrev pub is_seen : ℕ → Bool
is_seen b = nat_le 33 b

-- what ends values, ends each of them
pub seen_inner : (r : List ℕ) → ends is_seen r ≡ true → ends is_inner r ≡ true
seen_inner [] h = refl
seen_inner (b ∷ bs) h = grind (arith, nat_tests)

-- the kind of a value by the first byte of its token
head : List ℕ → ℕ
head [] = 0
head (b ∷ bs) = b

sort : ℕ → ℕ
sort b = cond (nat_le 45 b && nat_le b 57) 48 (cond (b == 102) 116 b)

sort_of : Item → ℕ
sort_of (Text text) = 34
sort_of (Number number) = 48
sort_of (Flag flag) = 116
sort_of (Octets octets) = 120
sort_of (Ref id) = 35

figure_sort : (b : ℕ) → is_figure b ≡ true → sort b ≡ 48
unfolding sort
figure_sort b h = grind (arith, nat_tests)

figures_sort : (bs r : List ℕ) → list_all is_figure bs ≡ true → 0 < length bs → sort (head (bs ++ r)) ≡ 48
unfolding head
figures_sort [] r h n = absurd (omega arith)
figures_sort (b ∷ bs) r h n = figure_sort b (and_parts (is_figure b) (list_all is_figure bs) h).0

first_sort : (v : Item) (r : List ℕ) → IsPrintableValue v → sort (head (value_token v ++ r)) ≡ sort_of v
unfolding value_token text_token identifier_token head sort sort_of
first_sort (Text text) r h = refl
first_sort (Number (pos n)) r h =
    let small : n < 2 ^ 64 = omega arith in
    figures_sort (decimal n) r (decimal_figures n) (decimal_nonempty n small)
first_sort (Number (negsuc n)) r h = refl
first_sort (Flag true) r h = refl
first_sort (Flag false) r h = refl
first_sort (Octets octets) r h = refl
first_sort (Ref id) r h = refl

-- a space or a line feed begins no value
stop_sort : (r : List ℕ) → ends is_seen r ≡ true → sort (head r) < 33
unfolding head sort
stop_sort [] h = omega arith
stop_sort (b ∷ bs) h = grind (arith, nat_tests)

sort_is_seen : (v : Item) → 33 < sort_of v
unfolding sort_of
sort_is_seen (Text text) = omega arith
sort_is_seen (Number number) = omega arith
sort_is_seen (Flag flag) = omega arith
sort_is_seen (Octets octets) = omega arith
sort_is_seen (Ref id) = omega arith

-- the bytes of each kind
figure_inner : (b : ℕ) → is_figure b ≡ true → is_inner b ≡ true
figure_inner b h = grind (arith, nat_tests)

signed_inner : (z : ℤ) → list_all is_inner (signed_decimal z) ≡ true
signed_inner (pos n) = all_more is_figure is_inner figure_inner (decimal n) (decimal_figures n)
signed_inner (negsuc n) = all_more is_figure is_inner figure_inner (decimal (suc n)) (decimal_figures (suc n))

flag_inner : (b : Bool) → list_all is_inner (flag_text b) ≡ true
flag_inner true = refl
flag_inner false = refl

flag_same : (a b : Bool) → flag_text a ≡ flag_text b → a ≡ b
flag_same true true e = refl
flag_same false false e = refl
flag_same true false e = absurd (cc)
flag_same false true e = absurd (cc)

hex_inner : (d : ℕ) → is_inner (hex_digit lower d) ≡ true
hex_inner d = grind (arith, nat_tests)

octets_inner : (bs : List ℕ) → list_all is_inner (flat_map two_figures bs) ≡ true
octets_inner [] = refl
octets_inner (b ∷ bs) =
    and_from (is_inner (hex_digit lower (b / 16))) _ (hex_inner (b / 16)) (and_from (is_inner (hex_digit lower (b % 16))) _ (hex_inner (b % 16)) (octets_inner bs))

hex_same : (c d : ℕ) → hex_digit lower c ≡ hex_digit lower d → c ≡ d
hex_same c d e = grind (arith, nat_tests)

octets_same : (x y : List ℕ) → flat_map two_figures x ≡ flat_map two_figures y → x ≡ y
octets_same [] [] e = refl
octets_same [] (b ∷ y) e = absurd (cc)
octets_same (a ∷ x) [] e = absurd (cc)
octets_same (a ∷ x) (b ∷ y) e =
    let high : hex_digit lower (a / 16) ≡ hex_digit lower (b / 16) = cc in
    let low : hex_digit lower (a % 16) ≡ hex_digit lower (b % 16) = cc in
    let rest : flat_map two_figures x ≡ flat_map two_figures y = cc in
    let h : a / 16 ≡ b / 16 = hex_same (a / 16) (b / 16) high in
    let l : a % 16 ≡ b % 16 = hex_same (a % 16) (b % 16) low in
    let first : a ≡ b = omega arith in
    (λ i. first i ∷ octets_same x y rest i)

octets_divide : (x y r s : List ℕ) → ends is_inner r ≡ true → ends is_inner s ≡ true → (codes "x" ++ flat_map two_figures x) ++ r ≡ (codes "x" ++ flat_map two_figures y) ++ s → (x ≡ y) × (r ≡ s)
octets_divide x y r s er es e =
    let inside : flat_map two_figures x ++ r ≡ flat_map two_figures y ++ s = cc in
    let d = words_divide is_inner (flat_map two_figures x) (flat_map two_figures y) r s (octets_inner x) (octets_inner y) er es inside in
    (octets_same x y d.0, d.1)

of_a_kind : (v w : Item) (r s : List ℕ) → IsPrintableValue v → IsPrintableValue w → ends is_inner r ≡ true → ends is_inner s ≡ true → sort_of v ≡ sort_of w → value_token v ++ r ≡ value_token w ++ s → (v ≡ w) × (r ≡ s)
unfolding value_token sort_of
of_a_kind (Text x) (Text y) r s hv hw er es k e = let d = texts_divide x y r s e in (ap Text d.0, d.1)
of_a_kind (Number y) (Number z) r s hv hw er es k e =
    let d = words_divide is_inner (signed_decimal y) (signed_decimal z) r s (signed_inner y) (signed_inner z) er es e in
    (ap Number (signed_decimal_injective y z hv hw d.0), d.1)
of_a_kind (Flag a) (Flag b) r s hv hw er es k e =
    let d = words_divide is_inner (flag_text a) (flag_text b) r s (flag_inner a) (flag_inner b) er es e in
    (ap Flag (flag_same a b d.0), d.1)
of_a_kind (Octets x) (Octets y) r s hv hw er es k e = let d = octets_divide x y r s er es e in (ap Octets d.0, d.1)
of_a_kind (Ref i) (Ref j) r s hv hw er es k e = let d = identifiers_divide i j r s hv hw er es e in (ap Ref d.0, d.1)
of_a_kind v w r s hv hw er es k e = absurd (omega arith)

pub value_divide : (v w : Item) (r s : List ℕ) → IsPrintableValue v → IsPrintableValue w → ends is_inner r ≡ true → ends is_inner s ≡ true → value_token v ++ r ≡ value_token w ++ s → (v ≡ w) × (r ≡ s)
value_divide v w r s hv hw er es e = of_a_kind v w r s hv hw er es (sym (first_sort v r hv) ∙ ap (λ (x : List ℕ). sort (head x)) e ∙ first_sort w s hw) e

value_apart : (v : Item) (r s : List ℕ) → IsPrintableValue v → ends is_seen s ≡ true → value_token v ++ r ≡ s → ⊥
value_apart v r s hv es e =
    let low : sort (head s) < 33 = stop_sort s es in
    let high : 33 < sort_of v = sort_is_seen v in
    let same : sort_of v ≡ sort (head s) = sym (first_sort v r hv) ∙ ap (λ (x : List ℕ). sort (head x)) e in
    omega arith

-- elements with commas between them
module _ {A : Type 0} (f : A → List ℕ) (P : A → Type 0) (w : List A → List ℕ)
    (one : (a b : A) (r s : List ℕ) → P a → P b → ends is_inner r ≡ true → ends is_inner s ≡ true → f a ++ r ≡ f b ++ s → (a ≡ b) × (r ≡ s))
    (apart : (a : A) (r s : List ℕ) → P a → ends is_seen s ≡ true → f a ++ r ≡ s → ⊥)
    (none : w [] ≡ []) (some : (x : A) (xs : List A) → w (x ∷ xs) ≡ f x ++ flat_map (λ (y : A). codes "," ++ f y) xs) where
  further : A → List ℕ
  further y = codes "," ++ f y

  further_one : (a b : A) (r s : List ℕ) → P a → P b → ends is_inner r ≡ true → ends is_inner s ≡ true → further a ++ r ≡ further b ++ s → (a ≡ b) × (r ≡ s)
  unfolding further
  further_one a b r s ha hb er es e =
      let inside : f a ++ r ≡ f b ++ s = cc in
      one a b r s ha hb er es inside

  further_goes : (xs : List A) (r : List ℕ) → ends is_seen r ≡ true → ends is_inner (flat_map further xs ++ r) ≡ true
  unfolding further
  further_goes [] r h = seen_inner r h
  further_goes (x ∷ xs) r h = refl

  further_apart : (a : A) (r s : List ℕ) → P a → ends is_inner r ≡ true → ends is_seen s ≡ true → further a ++ r ≡ s → ⊥
  unfolding further
  further_apart a r [] ha er es e = absurd (cc)
  further_apart a r (b ∷ bs) ha er es e =
      let first : 44 ≡ b = cc in
      clash is_seen 44 b refl es first

  further_divide : (xs ys : List A) (r s : List ℕ) → All P xs → All P ys → ends is_seen r ≡ true → ends is_seen s ≡ true → flat_map further xs ++ r ≡ flat_map further ys ++ s → (xs ≡ ys) × (r ≡ s)
  further_divide = lists_divide further P (λ (x : List ℕ). ends is_inner x ≡ true) (λ (x : List ℕ). ends is_seen x ≡ true) further_one further_goes further_apart

  written : (x : A) (xs : List A) (r : List ℕ) → w (x ∷ xs) ++ r ≡ f x ++ (flat_map further xs ++ r)
  unfolding further
  written x xs r = ap (λ (y : List ℕ). y ++ r) (some x xs) ∙ append_assoc (f x) (flat_map further xs) r

  empty : (r : List ℕ) → w [] ++ r ≡ r
  empty r = ap (λ (y : List ℕ). y ++ r) none

  commas_divide : (xs ys : List A) (r s : List ℕ) → All P xs → All P ys → ends is_seen r ≡ true → ends is_seen s ≡ true → w xs ++ r ≡ w ys ++ s → (xs ≡ ys) × (r ≡ s)
  commas_divide [] [] r s hx hy er es e = (refl, sym (empty r) ∙ e ∙ empty s)
  commas_divide [] (y ∷ ys) r s hx hy er es e =
      absurd (apart y (flat_map further ys ++ s) r (All-head P y ys hy) er (sym (written y ys s) ∙ sym e ∙ empty r))
  commas_divide (x ∷ xs) [] r s hx hy er es e =
      absurd (apart x (flat_map further xs ++ r) s (All-head P x xs hx) es (sym (written x xs r) ∙ e ∙ empty s))
  commas_divide (x ∷ xs) (y ∷ ys) r s hx hy er es e =
      let first = one x y (flat_map further xs ++ r) (flat_map further ys ++ s) (All-head P x xs hx) (All-head P y ys hy) (further_goes xs r er) (further_goes ys s es)
      (sym (written x xs r) ∙ e ∙ written y ys s) in
      let more = further_divide xs ys r s (All-tail P x xs hx) (All-tail P y ys hy) er es first.1 in
      (λ i. first.0 i ∷ more.0 i, more.1)

pub values_divide : (xs ys : List Item) (r s : List ℕ) → All IsPrintableValue xs → All IsPrintableValue ys → ends is_seen r ≡ true → ends is_seen s ≡ true → values_token xs ++ r ≡ values_token ys ++ s → (xs ≡ ys) × (r ≡ s)
values_divide = commas_divide value_token IsPrintableValue values_token value_divide value_apart refl (λ x xs. refl)

hash_apart : (x s : List ℕ) → ends is_seen s ≡ true → 35 ∷ x ≡ s → ⊥
hash_apart x [] es e = absurd (cc)
hash_apart x (b ∷ bs) es e =
    let first : 35 ≡ b = cc in
    clash is_seen 35 b refl es first

identifier_apart : (i r s : List ℕ) → IsIdentifier i → ends is_seen s ≡ true → identifier_token i ++ r ≡ s → ⊥
unfolding identifier_token
identifier_apart i r s hi es e = hash_apart (identifier_text i ++ r) s es e

pub identifiers_listed_divide : (xs ys : List (List ℕ)) (r s : List ℕ) → All IsIdentifier xs → All IsIdentifier ys → ends is_seen r ≡ true → ends is_seen s ≡ true → listed xs ++ r ≡ listed ys ++ s → (xs ≡ ys) × (r ≡ s)
identifiers_listed_divide = commas_divide identifier_token IsIdentifier listed identifiers_divide identifier_apart refl (λ x xs. refl)
