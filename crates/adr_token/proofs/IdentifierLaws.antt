-- An identifier is read again in both forms, and what is read was one of the two.
use Rattle.std.proofs.Common.{◌≡◌, ℕ, zero, suc, ◌+◌, ◌*◌, ◌<◌, ◌≤◌, Bool, true, false, ◌&&◌, ◌⊎◌, inl, inr, cond, List, [], ◌∷◌, ◌++◌, length, Some, None, refl, sym, ap, subst, ◌∙◌, arith}
use Rattle.std.specs.Prelude.{◌==◌, nat_lt, slice_index}
use Rattle.std.specs.List.{list_all}
use Rattle.std.specs.Fmt.{digits}
use Rattle.std.specs.Int.{w128, to_be_bytes, from_be_bytes}
use Rattle.std.specs.Str.{bytes_eq, is_utf8}
use Rattle.std.proofs.lemmas.Bool.{and_parts, and_from, eq-eqb, eqb-true, ne_eqb, lt-ltb, ltb-true}
use Rattle.std.proofs.lemmas.Bool.Decides.{nat_tests}
use Rattle.std.proofs.lemmas.List.Folds.{list_all-append}
use Rattle.std.proofs.lemmas.Str.{is_utf8-from_IsUtf8, IsUtf8-from_ascii}
use Rattle.std.proofs.lemmas.Slice.Eq.{bytes_eq-Decides}
use Rattle.uuid.specs.Text.{by_index, byte_of_digits, digits_of, has_hyphens, hex_digit, hyphen, hyphenated_text, is_hex_digit, is_hyphen_place, lower, nibble, parsed, parsed_hyphenated, parsed_simple, value_of}
use Rattle.uuid.proofs.RoundTrips.{parses_hyphenated}
use Rattle.uuid.proofs.OrderLemmas.{from_be_bytes-to_be_bytes_16}
use Rattle.uuid.proofs.TextLemmas.{all_fit, by_index_at, by_index_length, hyphenated_ascii, nibble_small}
use Rattle.adr_token.specs.Gives.{◌>>=◌}
use Rattle.adr_token.specs.Words.{word_at}
use Rattle.adr_token.specs.Numbers.{number_of}
use Rattle.adr_token.specs.Identifiers.{full_identifier, identifier_at, identifier_of, short_identifier, spelled_back}
use Rattle.adr_token.specs.Laws.{full_token, IsIdentifier, IdentifiersAreReadAgain, IdentifiersWereSpelled, Stands}
use Rattle.adr_token.specs.Spelled.{SpellsIdentifier}
use Rattle.adr_token.specs.Spelling.{identifier_text, identifier_token}
use Rattle.adr_token.proofs.ByteLaws.{bytes_again, bytes_identifier}
use Rattle.adr_token.proofs.DigitLaws.{digits_bare, length-digits-le, number_again, number_was}
use Rattle.adr_token.proofs.WordLaws.{are_bare, are_graphic, bare_graphic, bind_some, graphic_word, if_some, is_bare, word_again, word_as_was}

-- the full form is bare
by_index_bare : (n : ℕ) (f : ℕ → ℕ) → ((k : ℕ) → is_bare (f k) ≡ true) → are_bare (by_index n f) ≡ true
unfolding by_index
by_index_bare zero f h = refl
by_index_bare (suc n) f h = list_all-append is_bare (by_index n f) (f n ∷ []) ∙ and_from _ _ (by_index_bare n f h) (and_from _ _ (h n) refl)

digit_bare : (d : ℕ) → d < 16 → is_bare (hex_digit lower d) ≡ true
digit_bare d h = grind (arith, nat_tests)

place_bare : (t : Bool) (d : ℕ) → d < 16 → is_bare (cond t hyphen (hex_digit lower d)) ≡ true
place_bare true d h = refl
place_bare false d h = digit_bare d h

full_bare : (id : List ℕ) → are_bare (full_token id) ≡ true
full_bare id = by_index_bare 36 _ (λ k. place_bare (is_hyphen_place k) (nibble id _) (nibble_small id _))

same_bytes : (bs : List ℕ) → bytes_eq bs bs ≡ true
same_bytes bs = (bytes_eq-Decides bs bs).1 refl

-- the full form is read
full_read : (id : List ℕ) → IsIdentifier id → full_identifier (hyphenated_text lower id) ≡ Some id
full_read id h =
    let text = hyphenated_text lower id in
    let ascii = hyphenated_ascii lower id (inl refl) in
    let utf8 : is_utf8 text ≡ true = is_utf8-from_IsUtf8 text (IsUtf8-from_ascii text ascii) in
    rw (utf8, ← parses_hyphenated lower id (inl refl) h.0 h.1, same_bytes text) refl

of_full : (bs id : List ℕ) → length bs ≡ 36 → full_identifier bs ≡ Some id → identifier_of (35 ∷ bs) ≡ Some id
of_full bs id l h = ap (λ t. cond t (full_identifier bs) (short_identifier bs)) (eq-eqb _ 36 l) ∙ h

full_of : (id : List ℕ) → IsIdentifier id → identifier_of (full_token id) ≡ Some id
full_of id h = of_full (hyphenated_text lower id) id (by_index_length 36 _) (full_read id h)

-- the short form is read
short_of : (n : ℕ) → n < 4294967296 → identifier_of (35 ∷ digits 16 false n) ≡ Some (to_be_bytes w128 n)
short_of n h =
    let few : length (digits 16 false n) ≤ 11 = length-digits-le true 10 n (omega arith) (omega arith) in
    let other : (length (digits 16 false n) == 36) ≡ false = ne_eqb _ 36 (λ e. omega arith) in
    rw (other, number_again true 4294967295 n (omega arith) (omega arith)) refl

token_by : (id : List ℕ) (t : Bool) → nat_lt (from_be_bytes w128 id) 4294967296 ≡ t → IsIdentifier id
    → identifier_of (35 ∷ cond t (digits 16 false (from_be_bytes w128 id)) (hyphenated_text lower id)) ≡ Some id
token_by id true e h = short_of (from_be_bytes w128 id) (ltb-true _ _ e) ∙ ap Some (bytes_again id h)
token_by id false e h = full_of id h

token_of : (id : List ℕ) → IsIdentifier id → identifier_of (identifier_token id) ≡ Some id
unfolding identifier_token
token_of id h = token_by id (nat_lt (from_be_bytes w128 id) 4294967296) refl h

token_bare_by : (id : List ℕ) (t : Bool) → nat_lt (from_be_bytes w128 id) 4294967296 ≡ t
    → are_bare (35 ∷ cond t (digits 16 false (from_be_bytes w128 id)) (hyphenated_text lower id)) ≡ true
token_bare_by id true e = (digits_bare true (from_be_bytes w128 id) (let l = ltb-true _ _ e in omega arith)).0
token_bare_by id false e = full_bare id

token_bare : (id : List ℕ) → are_bare (identifier_token id) ≡ true
unfolding identifier_token
token_bare id = token_bare_by id (nat_lt (from_be_bytes w128 id) 4294967296) refl

pub token_graphic : (id : List ℕ) → are_graphic (identifier_token id) ≡ true
token_graphic id = bare_graphic (identifier_token id) (token_bare id)

token_some : (id : List ℕ) → 0 < length (identifier_token id)
unfolding identifier_token
token_some id = omega arith

read_word : (word id rest : List ℕ) → identifier_of word ≡ Some id → word_at (word ++ rest) ≡ Some (word, rest) → identifier_at (word ++ rest) ≡ Some (id, rest)
unfolding identifier_at
read_word word id rest h w = rw (w, h) refl

pub identifiers_again : IdentifiersAreReadAgain
identifiers_again id rest h e = (
  read_word (identifier_token id) id rest (token_of id h) (word_again (identifier_token id) rest (graphic_word (identifier_token id) (token_graphic id)) (token_some id) e),
  read_word (full_token id) id rest (full_of id h) (word_again (full_token id) rest (graphic_word (full_token id) (bare_graphic (full_token id) (full_bare id))) (omega arith) e),
)

-- what was read has sixteen bytes
digit_small : (c : ℕ) → is_hex_digit c ≡ true → value_of c < 16
digit_small c h = grind (arith, nat_tests)

digits_small : (hex : List ℕ) → list_all is_hex_digit hex ≡ true → (k : ℕ) → value_of (slice_index hex k) < 16
digits_small [] h k = omega arith
digits_small (c ∷ cs) h zero = digit_small c (and_parts _ _ h).0
digits_small (c ∷ cs) h (suc k) = digits_small cs (and_parts _ _ h).1 k

pair_small : (hex : List ℕ) (j : ℕ) → list_all is_hex_digit hex ≡ true → byte_of_digits hex j < 256
pair_small hex j h =
    let high = digits_small hex h (2 * j) in
    let low = digits_small hex h (2 * j + 1) in
    omega arith

simple_identifier : (hex id : List ℕ) → parsed_simple hex ≡ Some id → IsIdentifier id
simple_identifier hex id h =
    let t = if_some ((length hex == 32) && list_all is_hex_digit hex) (by_index 16 (byte_of_digits hex)) id h in
    let all = (and_parts _ _ t.0).1 in
    subst IsIdentifier t.1 (
      by_index_length 16 (byte_of_digits hex),
      all_fit (by_index 16 (byte_of_digits hex)) (λ k l. let below : k < 16 = subst (λ n. k < n) (by_index_length 16 (byte_of_digits hex)) l in rw (by_index_at 16 (byte_of_digits hex) k 0 below) (pair_small hex k all)),
    )

hyphenated_identifier : (s id : List ℕ) (t : Bool) → cond t (parsed_simple (digits_of s)) None ≡ Some id → IsIdentifier id
hyphenated_identifier s id true h = simple_identifier (digits_of s) id h
hyphenated_identifier s id false h = absurd (cc)

parsed_identifier : (s id : List ℕ) → length s ≡ 36 → parsed s ≡ Some id → IsIdentifier id
parsed_identifier s id l h =
    let at : parsed s ≡ parsed_hyphenated s = rw l refl in
    hyphenated_identifier s id ((length s == 36) && has_hyphens s) (sym at ∙ h)

-- both forms begin with `#`, are bare and are read
pub hash_first : (id word : List ℕ) → SpellsIdentifier id word → (rest : List ℕ) × (word ≡ 35 ∷ rest)
unfolding identifier_token
hash_first id word (i, inl e) = (identifier_text id, e)
hash_first id word (i, inr e) = (hyphenated_text lower id, e)

pub form_bare : (id word : List ℕ) → SpellsIdentifier id word → are_bare word ≡ true
form_bare id word (i, inl e) = rw e (token_bare id)
form_bare id word (i, inr e) = rw e (full_bare id)

pub form_read : (id word : List ℕ) → SpellsIdentifier id word → identifier_of word ≡ Some id
form_read id word (i, inl e) = rw e (token_of id i)
form_read id word (i, inr e) = rw e (full_of id i)

-- what was read was one of the two forms
full_was_by : (rest id : List ℕ) (t : Bool) → length rest ≡ 36 → cond t (parsed rest >>= spelled_back rest) None ≡ Some id → IsIdentifier id × (rest ≡ hyphenated_text lower id)
full_was_by rest id false l h = absurd (cc)
full_was_by rest id true l h =
    let s = bind_some (parsed rest) (spelled_back rest) id h in
    let t = if_some (bytes_eq (hyphenated_text lower s.0) rest) s.0 id s.2 in
    let same : hyphenated_text lower s.0 ≡ rest = (bytes_eq-Decides _ rest).0 t.0 in
    (subst IsIdentifier t.1 (parsed_identifier rest s.0 l s.1), sym same ∙ ap (hyphenated_text lower) t.1)

short_token : (n : ℕ) → n < 4294967296 → identifier_token (to_be_bytes w128 n) ≡ 35 ∷ digits 16 false n
unfolding identifier_token
short_token n h =
    let back : from_be_bytes w128 (to_be_bytes w128 n) ≡ n = from_be_bytes-to_be_bytes_16 n (omega arith) in
    rw (back, lt-ltb n 4294967296 h) refl

of_was_by : (b : ℕ) (rest id : List ℕ) (t : Bool) → b ≡ 35 → (length rest == 36) ≡ t → cond t (full_identifier rest) (short_identifier rest) ≡ Some id → SpellsIdentifier id (b ∷ rest)
of_was_by b rest id true e l h =
    let w = full_was_by rest id (is_utf8 rest) (eqb-true _ 36 l) h in
    (w.0, inr (rw (e, w.1) refl))
of_was_by b rest id false e l h =
    let s = bind_some (number_of true 4294967295 rest) (λ n. Some (to_be_bytes w128 n)) id h in
    let was = number_was true 4294967295 s.0 rest s.1 (omega arith) in
    let same : to_be_bytes w128 s.0 ≡ id = cc in
    (subst IsIdentifier same (bytes_identifier s.0), inl (rw (e, was.0) (sym (short_token s.0 (omega arith)) ∙ ap identifier_token same)))

of_was_at : (b : ℕ) (rest id : List ℕ) (t : Bool) → (b == 35) ≡ t → cond t (cond (length rest == 36) (full_identifier rest) (short_identifier rest)) None ≡ Some id → SpellsIdentifier id (b ∷ rest)
of_was_at b rest id true e h = of_was_by b rest id (length rest == 36) (eqb-true b 35 e) refl h
of_was_at b rest id false e h = absurd (cc)

pub of_was : (word id : List ℕ) → identifier_of word ≡ Some id → SpellsIdentifier id word
of_was [] id h = absurd (cc)
of_was (b ∷ rest) id h = of_was_at b rest id (b == 35) refl h

either_stands : (bytes word id rest : List ℕ) → Stands word bytes rest → SpellsIdentifier id word → IsIdentifier id × (Stands (identifier_token id) bytes rest ⊎ Stands (full_token id) bytes rest)
either_stands bytes word id rest s (i, inl e) = (i, inl (subst (λ (w : List ℕ). Stands w bytes rest) e s))
either_stands bytes word id rest s (i, inr e) = (i, inr (subst (λ (w : List ℕ). Stands w bytes rest) e s))

pub identifiers_spelled : IdentifiersWereSpelled
unfolding identifier_at
identifiers_spelled bytes id rest h =
    let s = word_as_was identifier_of bytes id rest h in
    either_stands bytes s.0 id rest s.2 (of_was s.0 id s.1)
