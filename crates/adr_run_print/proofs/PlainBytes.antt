-- What is printed is UTF-8, and has no line feed.
use Rattle.std.proofs.Common.{◌≡◌, ℕ, zero, suc, ◌<◌, ◌≤◌, Bool, true, false, not, ◌||◌, cond, List, [], ◌∷◌, ◌++◌, length, flat_map, refl, sym, subst, ◌∙◌, ◌⊎◌, inl, inr, arith}
use Rattle.std.specs.Prelude.{◌==◌, slice_index, codes, encode_utf8, encode_utf8_all}
use Rattle.std.specs.List.{list_all}
use Rattle.std.specs.Str.{IsUtf8, IsAscii, all_scalars}
use Rattle.std.proofs.lemmas.Bool.{and_parts, and_from, cases_lt}
use Rattle.std.proofs.lemmas.Bool.Decides.{nat_tests}
use Rattle.std.proofs.lemmas.Grind.{flat_map-append}
use Rattle.std.proofs.lemmas.List.{append-nil}
use Rattle.std.proofs.lemmas.List.Folds.{list_all-append}
use Rattle.std.proofs.lemmas.Str.{IsUtf8-append, IsUtf8-encode, IsUtf8-from_ascii, IsUtf8-from_is_utf8, IsUtf8-nil, encode_ascii, inside_one}
use Rattle.adr_token.specs.Texts.{is_control, is_text}
use Rattle.adr_token.specs.Spelling.{escaped, text_token, two_figures}
use Rattle.adr_token.proofs.WordLaws.{are_graphic, is_graphic}
use Rattle.adr_schedule.specs.Lines.{is_line_feed}

abbrev pub is_feedless : List ℕ → Bool
is_feedless bs = list_all (λ b. not (is_line_feed b)) bs

pub record IsPlain (bs : List ℕ) : Type 0 where
  pub feedless : is_feedless bs ≡ true
  pub utf8 : IsUtf8 bs

pub plain_append : (xs ys : List ℕ) → IsPlain xs → IsPlain ys → IsPlain (xs ++ ys)
plain_append xs ys h k = record {
  feedless = list_all-append (λ b. not (is_line_feed b)) xs ys ∙ and_from _ _ h.feedless k.feedless;
  utf8 = IsUtf8-append xs ys h.utf8 k.utf8;
}

graphic_byte : (b : ℕ) → is_graphic b ≡ true → (not (is_line_feed b) ≡ true) × (b < 128)
graphic_byte b h = (grind (arith, nat_tests), grind (arith, nat_tests))

graphic_feedless : (bs : List ℕ) → are_graphic bs ≡ true → is_feedless bs ≡ true
graphic_feedless [] h = refl
graphic_feedless (b ∷ bs) h =
    let p = and_parts (is_graphic b) (are_graphic bs) h in
    and_from _ _ (graphic_byte b p.0).0 (graphic_feedless bs p.1)

graphic_ascii : (bs : List ℕ) → are_graphic bs ≡ true → IsAscii bs
graphic_ascii [] h i = omega arith
graphic_ascii (b ∷ bs) h zero = (graphic_byte b (and_parts (is_graphic b) (are_graphic bs) h).0).1
graphic_ascii (b ∷ bs) h (suc i) = graphic_ascii bs (and_parts (is_graphic b) (are_graphic bs) h).1 i

pub graphic_plain : (bs : List ℕ) → are_graphic bs ≡ true → IsPlain bs
graphic_plain bs h = record { feedless = graphic_feedless bs h; utf8 = IsUtf8-from_ascii bs (graphic_ascii bs h) }

pub nothing_plain : IsPlain []
nothing_plain = record { feedless = refl; utf8 = IsUtf8-nil }

space_ascii : IsAscii (codes " ")
space_ascii zero = omega arith
space_ascii (suc i) = omega arith

space_plain : IsPlain (codes " ")
space_plain = record { feedless = refl; utf8 = IsUtf8-from_ascii (codes " ") space_ascii }

-- a token behind a space
pub field_plain : (token rest : List ℕ) → IsPlain token → IsPlain rest → IsPlain ((codes " " ++ token) ++ rest)
field_plain token rest h k = plain_append (codes " " ++ token) rest (plain_append (codes " ") token space_plain h) k

-- one byte of a text
escaped_by : (b : ℕ) (q k : Bool) → ((b == 34) || (b == 92)) ≡ q → is_control b ≡ k → is_feedless (cond q (92 ∷ b ∷ []) (cond k (92 ∷ two_figures b) (b ∷ []))) ≡ true
escaped_by b true k p c = let other : not (is_line_feed b) ≡ true = grind (arith, nat_tests) in and_from _ _ refl (and_from _ _ other refl)
escaped_by b false true p c = grind (arith, nat_tests)
escaped_by b false false p c = let other : not (is_line_feed b) ≡ true = grind (arith, nat_tests) in and_from _ _ other refl

escaped_feedless : (text : List ℕ) → is_feedless (flat_map escaped text) ≡ true
escaped_feedless [] = refl
escaped_feedless (b ∷ bs) =
    list_all-append (λ c. not (is_line_feed c)) (escaped b) (flat_map escaped bs)
    ∙ and_from _ _ (escaped_by b ((b == 34) || (b == 92)) (is_control b) refl refl) (escaped_feedless bs)

figures_ascii : (b : ℕ) → b < 128 → IsAscii (two_figures b)
figures_ascii b h zero = grind (arith, nat_tests)
figures_ascii b h (suc zero) = grind (arith, nat_tests)
figures_ascii b h (suc (suc i)) = omega arith

escaped_ascii_by : (b : ℕ) (q k : Bool) → b < 128 → IsAscii (cond q (92 ∷ b ∷ []) (cond k (92 ∷ two_figures b) (b ∷ [])))
escaped_ascii_by b true k h zero = omega arith
escaped_ascii_by b true k h (suc zero) = h
escaped_ascii_by b true k h (suc (suc i)) = omega arith
escaped_ascii_by b false true h zero = omega arith
escaped_ascii_by b false true h (suc i) = figures_ascii b h i
escaped_ascii_by b false false h zero = h
escaped_ascii_by b false false h (suc i) = omega arith

escaped_utf8 : (b : ℕ) → b < 128 → IsUtf8 (escaped b)
escaped_utf8 b h = IsUtf8-from_ascii (escaped b) (escaped_ascii_by b ((b == 34) || (b == 92)) (is_control b) h)

-- bytes of characters beyond ASCII stand as they are
escaped_high : (b : ℕ) → 128 ≤ b → escaped b ≡ b ∷ []
escaped_high b h =
    let quote : ((b == 34) || (b == 92)) ≡ false = grind (arith, nat_tests) in
    let control : is_control b ≡ false = grind (arith, nat_tests) in
    rw (quote, control) refl

all_high : (bs : List ℕ) → ((k : ℕ) → k < length bs → 128 ≤ slice_index bs k) → flat_map escaped bs ≡ bs
all_high [] h = refl
all_high (b ∷ bs) h = rw (escaped_high b (h 0 (omega arith)), all_high bs (λ k l. h (suc k) (omega arith))) refl

char_high : (c : ℕ) → 128 ≤ c → (k : ℕ) → k < length (encode_utf8 c) → 128 ≤ slice_index (encode_utf8 c) k
char_high c h k l = by (cases_lt (slice_index (encode_utf8 c) k) 128)
  where
    by : (slice_index (encode_utf8 c) k < 128) ⊎ (128 ≤ slice_index (encode_utf8 c) k) → 128 ≤ slice_index (encode_utf8 c) k
    by (inr g) = g
    by (inl g) =
        let same : c ≡ slice_index (encode_utf8 c) k = inside_one c [] (encode_utf8 c) k (sym (append-nil (encode_utf8 c))) l g in
        absurd (omega arith)

char_utf8 : (c : ℕ) → (all_scalars (c ∷ []) ≡ true) → (c < 128) ⊎ (128 ≤ c) → IsUtf8 (flat_map escaped (encode_utf8 c))
char_utf8 c s (inl h) = rw (encode_ascii c h) (IsUtf8-append (escaped c) [] (escaped_utf8 c h) (IsUtf8-nil))
char_utf8 c s (inr h) = rw (all_high (encode_utf8 c) (char_high c h)) (IsUtf8-encode c (and_parts _ _ s).0)

chars_utf8 : (cs : List ℕ) → all_scalars cs ≡ true → IsUtf8 (flat_map escaped (encode_utf8_all cs))
chars_utf8 [] h = IsUtf8-nil
chars_utf8 (c ∷ cs) h =
    let p = and_parts _ (all_scalars cs) h in
    rw (flat_map-append escaped (encode_utf8 c) (encode_utf8_all cs))
    (IsUtf8-append _ _ (char_utf8 c (and_from _ _ p.0 refl) (cases_lt c 128)) (chars_utf8 cs p.1))

text_utf8 : (text : List ℕ) → IsUtf8 text → IsUtf8 (flat_map escaped text)
text_utf8 text h = subst (λ (bs : List ℕ). IsUtf8 (flat_map escaped bs)) h.1.1 (chars_utf8 h.0 h.1.0)

quote_plain : IsPlain (codes "\"")
quote_plain = graphic_plain (codes "\"") refl

pub text_plain : (text : List ℕ) → is_text text ≡ true → IsPlain (text_token text)
unfolding text_token
text_plain text h =
    let inside : IsPlain (flat_map escaped text) = record { feedless = escaped_feedless text; utf8 = text_utf8 text (IsUtf8-from_is_utf8 text (and_parts _ _ h).1) } in
    plain_append (codes "\"" ++ flat_map escaped text) (codes "\"") (plain_append (codes "\"") (flat_map escaped text) quote_plain inside) quote_plain
