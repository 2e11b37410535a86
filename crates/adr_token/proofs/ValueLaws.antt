-- A value is read again in each of its forms, and what is read was one of them.
use Rattle.std.proofs.Common.{◌≡◌, ◌⊎◌, ℕ, ◌+◌, ◌*◌, ◌/◌, ◌%◌, ◌<◌, Bool, true, false, not, ◌||◌, cond, List, [], ◌∷◌, ◌++◌, length, take, drop, flat_map, Option, Some, None, refl, sym, ap, subst, ◌∙◌, inl, inr, arith}
use Rattle.std.specs.Prelude.{◌==◌, ℤ, FitsSigned, All, codes}
use Rattle.std.specs.Int.{w64}
use Rattle.std.specs.Fmt.{signed_decimal}
use Rattle.std.specs.List.{position_or_len}
use Rattle.std.specs.Option.{option_map}
use Rattle.std.specs.Str.{bytes_eq}
use Rattle.std.proofs.Math.Seq.{take-append_seam, drop-append_seam}
use Rattle.std.proofs.lemmas.Bool.{and_from, and_parts, ne_eqb}
use Rattle.std.proofs.lemmas.Bool.Decides.{nat_tests}
use Rattle.std.proofs.lemmas.List.{take-append-drop}
use Rattle.std.proofs.lemmas.List.Elements.{All-cons, All-head, All-nil, All-tail}
use Rattle.std.proofs.lemmas.Slice.Eq.{bytes_eq-Decides}
use Rattle.uuid.specs.Text.{hex_digit, lower}
use Rattle.adr_values.specs.declared.content.Value.{Value as Item}
use Rattle.adr_values.specs.declared.content.Value.TheVariants.{Text, Number, Flag, Octets, Ref}
use Rattle.adr_token.specs.declared.texts.Place.TheVariants.{Plain}
use Rattle.adr_token.specs.Gives.{Reading, ◌>>=◌}
use Rattle.adr_token.specs.Words.{strip_byte}
use Rattle.adr_token.specs.Numbers.{figure, signed_of}
use Rattle.adr_token.specs.Identifiers.{identifier_of}
use Rattle.adr_token.specs.Texts.{ends_word, is_text, quoted}
use Rattle.adr_token.specs.Values.{ends_value, fixed_value_of, flag_of, octet_of, octets_of, octets_or_fixed, plain_value_at, some_octets, text_value_at, value_at, value_by, value_of}
use Rattle.adr_token.specs.Spelling.{escaped, flag_text, text_token, two_figures, value_token}
use Rattle.adr_token.specs.Spelled.{SpellsIdentifier, SpellsText, SpellsValue}
use Rattle.adr_token.proofs.Lists.{all_more, mapped}
use Rattle.adr_token.proofs.IdentifierLaws.{form_bare, form_read, hash_first, of_was}
use Rattle.adr_token.proofs.QuoteLaws.{figure_again, figure_was, reads_back, was_spelled}
use Rattle.adr_token.proofs.SignedLaws.{begins_number, signed_again, signed_bare, signed_begun, signed_was}
use Rattle.adr_token.proofs.TextLaws.{strip_byte_was, token_is}
use Rattle.adr_token.proofs.WordLaws.{are_bare, at_stop, bind_some, if_some, is_bare, stops}

-- octets
octet_again : (b : ℕ) → b < 256 → octet_of (hex_digit lower (b / 16)) (hex_digit lower (b % 16)) ≡ Some b
octet_again b h =
    let whole : b / 16 * 16 + b % 16 ≡ b = omega arith in
    rw (figure_again (b / 16) (omega arith), figure_again (b % 16) (omega arith), whole) refl

octets_again : (octets : List ℕ) → All (λ b. b < 256) octets → octets_of (flat_map two_figures octets) ≡ Some octets
octets_again [] h = refl
octets_again (b ∷ bs) h = rw (octet_again b (All-head (λ c. c < 256) b bs h), octets_again bs (All-tail (λ c. c < 256) b bs h)) refl

octet_was : (first second octet : ℕ) → octet_of first second ≡ Some octet → (first ∷ second ∷ [] ≡ two_figures octet) × (octet < 256)
octet_was first second octet h =
    let s = bind_some (figure true first) (λ high. figure true second >>= λ low. Some (high * 16 + low)) octet h in
    let t = bind_some (figure true second) (λ low. Some (s.0 * 16 + low)) octet s.2 in
    let same : s.0 * 16 + t.0 ≡ octet = cc in
    let high = figure_was first s.0 s.1 in
    let low = figure_was second t.0 t.1 in
    let above : s.0 < 16 = high.1 in
    let below : t.0 < 16 = low.1 in
    let whole : octet / 16 ≡ s.0 = omega arith in
    let rest : octet % 16 ≡ t.0 = omega arith in
    (rw (whole, rest, high.0, low.0) refl, omega arith)

abbrev WereOctets : List ℕ → List ℕ → Type 0
WereOctets figures octets = (figures ≡ flat_map two_figures octets) × All (λ b. b < 256) octets

octets_more : (first second octet : ℕ) (figures octets : List ℕ) → (first ∷ second ∷ [] ≡ two_figures octet) × (octet < 256) → WereOctets figures octets → WereOctets (first ∷ second ∷ figures) (octet ∷ octets)
octets_more first second octet figures octets o h = (
  (λ i. o.0 i ++ h.0 i),
  All-cons (λ b. b < 256) octet octets o.1 h.1,
)

octets_were : (figures octets : List ℕ) → octets_of figures ≡ Some octets → WereOctets figures octets
octets_were [] octets h =
    let none : [] ≡ octets = cc in
    subst (WereOctets []) none (refl, All-nil (λ b. b < 256))
octets_were (first ∷ []) octets h = absurd (cc)
octets_were (first ∷ second ∷ figures) octets h =
    let s = bind_some (octet_of first second) (λ octet. octets_of figures >>= λ more. Some (octet ∷ more)) octets h in
    let t = bind_some (octets_of figures) (λ more. Some (s.0 ∷ more)) octets s.2 in
    let same : s.0 ∷ t.0 ≡ octets = cc in
    subst (WereOctets (first ∷ second ∷ figures)) same (octets_more first second s.0 figures t.0 (octet_was first second s.0 s.1) (octets_were figures t.0 t.1))

some_again : (octets : List ℕ) → 0 < length octets → All (λ b. b < 256) octets → some_octets (flat_map two_figures octets) ≡ Some octets
some_again [] l h = absurd (omega arith)
some_again (b ∷ bs) l h =
    let some : (length (flat_map two_figures (b ∷ bs)) == 0) ≡ false = ne_eqb _ 0 (λ e. omega arith) in
    rw some (octets_again (b ∷ bs) h)

some_were_by : (figures octets : List ℕ) (t : Bool) → (length figures == 0) ≡ t → cond t None (octets_of figures) ≡ Some octets → WereOctets figures octets × (0 < length octets)
some_were_by figures octets true e h = absurd (cc)
some_were_by figures octets false e h = (octets_were figures octets h, some octets (octets_were figures octets h).0)
  where
    some : (bs : List ℕ) → figures ≡ flat_map two_figures bs → 0 < length bs
    some [] g = let long : length figures ≡ 0 = ap length g in absurd (grind (arith, nat_tests))
    some (b ∷ bs) g = omega arith

some_were : (figures octets : List ℕ) → some_octets figures ≡ Some octets → WereOctets figures octets × (0 < length octets)
some_were figures octets h = some_were_by figures octets (length figures == 0) refl h

-- the forms that are no text: they are bare, and read
abbrev pub IsRead : Item → List ℕ → Type 0
IsRead value token = (are_bare token ≡ true) × (0 < length token) × (value_of token ≡ Some value)

number_read : (b : ℕ) (bs : List ℕ) (z : ℤ) → begins_number b ≡ true → signed_of (b ∷ bs) ≡ Some z → value_of (b ∷ bs) ≡ Some (Number z)
number_read b bs z h s =
    let octets : (b == 120) ≡ false = grind (arith, nat_tests) in
    let id : (b == 35) ≡ false = grind (arith, nat_tests) in
    let flag : ((b == 102) || (b == 116)) ≡ false = grind (arith, nat_tests) in
    rw (octets, id, flag, s) refl

number_form : (z : ℤ) (token : List ℕ) → FitsSigned w64 z → token ≡ signed_decimal z → IsRead (Number z) token
number_form z token h e =
    let f = signed_begun z h in
    let same : token ≡ f.0 ∷ f.1 = e ∙ f.2 in (
      rw e (signed_bare z h),
      rw same (omega arith),
      rw same (number_read f.0 f.1 z f.3 (ap signed_of (sym f.2) ∙ signed_again z h)),
    )

flag_form : (flag : Bool) → IsRead (Flag flag) (flag_text flag)
flag_form true = (refl, omega arith, refl)
flag_form false = (refl, omega arith, refl)

hex_bare : (d : ℕ) → d < 16 → is_bare (hex_digit lower d) ≡ true
hex_bare d h = grind (arith, nat_tests)

octets_bare : (octets : List ℕ) → All (λ b. b < 256) octets → are_bare (flat_map two_figures octets) ≡ true
octets_bare [] h = refl
octets_bare (b ∷ bs) h =
    let small : b < 256 = All-head (λ c. c < 256) b bs h in
    let high = hex_bare (b / 16) (omega arith) in
    let low = hex_bare (b % 16) (omega arith) in
    and_from (is_bare (hex_digit lower (b / 16))) _ high (and_from (is_bare (hex_digit lower (b % 16))) _ low (octets_bare bs (All-tail (λ c. c < 256) b bs h)))

octets_form : (octets : List ℕ) → 0 < length octets → All (λ b. b < 256) octets → IsRead (Octets octets) (codes "x" ++ flat_map two_figures octets)
octets_form octets l h = (octets_bare octets h, omega arith, ap (option_map Octets) (some_again octets l h))

hash_read : (rest id : List ℕ) → identifier_of (35 ∷ rest) ≡ Some id → value_of (35 ∷ rest) ≡ Some (Ref id)
hash_read rest id h = ap (option_map Ref) h

ref_form : (id token : List ℕ) → SpellsIdentifier id token → IsRead (Ref id) token
ref_form id token s =
    let f = hash_first id token s in (
      form_bare id token s,
      rw f.1 (omega arith),
      rw f.1 (hash_read f.0 id (ap identifier_of (sym f.1) ∙ form_read id token s)),
    )

-- a value is a text, or its token is bare and is read by its first byte
pub value_form : (value : Item) (token : List ℕ) → SpellsValue value token
    → ((text : List ℕ) × (value ≡ Text text) × SpellsText text token) ⊎ ((are_bare token ≡ true) × (0 < length token) × (value_of token ≡ Some value))
unfolding value_token
value_form (Text text) token s = inl (text, refl, s)
value_form (Number z) token s = inr (number_form z token s.0 s.1)
value_form (Flag flag) token s = inr (subst (IsRead (Flag flag)) (sym s) (flag_form flag))
value_form (Octets octets) token s = inr (subst (IsRead (Octets octets)) (sym s.2) (octets_form octets s.0 s.1))
value_form (Ref id) token s = inr (ref_form id token s)

-- a value before what ends it
text_again : (text token rest : List ℕ) → SpellsText text token → value_at (token ++ rest) ≡ Some (Text text, rest)
unfolding value_at
text_again text token rest s = rw (s.1, token_is text rest, reads_back text rest, s.0) refl

bare_first : (b : ℕ) → is_bare b ≡ true → (b == 34) ≡ false
bare_first b h = grind (arith, nat_tests)

bare_no_end : (b : ℕ) → is_bare b ≡ true → not (ends_value b) ≡ true
bare_no_end b h = grind (arith, nat_tests)

plain_again : (value : Item) (token rest : List ℕ) → IsRead value token → stops ends_value rest ≡ true → plain_value_at (token ++ rest) ≡ Some (value, rest)
plain_again value token rest r e =
    let bytes = token ++ rest in
    let long : position_or_len ends_value bytes ≡ length token = at_stop ends_value token rest (all_more is_bare (λ c. not (ends_value c)) bare_no_end token r.0) e in
    let front : take (position_or_len ends_value bytes) bytes ≡ token = ap (λ n. take n bytes) long ∙ take-append_seam token rest in
    let back : drop (position_or_len ends_value bytes) bytes ≡ rest = ap (λ n. drop n bytes) long ∙ drop-append_seam token rest in
    let cut : plain_value_at bytes ≡ (value_of token >>= λ v. Some (v, rest)) = λ i. (value_of (front i) >>= λ v. Some (v, back i)) in
    cut ∙ ap (λ (o : Option Item). o >>= λ v. Some (v, rest)) r.2

bare_again : (value : Item) (token rest : List ℕ) → IsRead value token → stops ends_value rest ≡ true → value_at (token ++ rest) ≡ Some (value, rest)
unfolding value_at
bare_again value [] rest r e = absurd (omega arith)
bare_again value (b ∷ bs) rest r e =
    let other : (b == 34) ≡ false = bare_first b (and_parts (is_bare b) (are_bare bs) r.0).0 in
    rw other (plain_again value (b ∷ bs) rest r e)

pub value_again : (value : Item) (token rest : List ℕ) → SpellsValue value token → stops ends_value rest ≡ true → value_at (token ++ rest) ≡ Some (value, rest)
value_again value token rest s e = by (value_form value token s)
  where
    by : ((text : List ℕ) × (value ≡ Text text) × SpellsText text token) ⊎ IsRead value token → value_at (token ++ rest) ≡ Some (value, rest)
    by (inl t) = text_again t.0 token rest t.2 ∙ ap (λ (v : Item). Some (v, rest)) (sym t.1)
    by (inr r) = bare_again value token rest r e

-- a value's token has a byte that is no space
bare_no_space : (b : ℕ) → is_bare b ≡ true → (b == 32) ≡ false
bare_no_space b h = grind (arith, nat_tests)

bare_long : (token rest : List ℕ) → are_bare token ≡ true → 0 < length token → ends_word (token ++ rest) ≡ false
bare_long [] rest h l = absurd (omega arith)
bare_long (b ∷ bs) rest h l = bare_no_space b (and_parts (is_bare b) (are_bare bs) h).0

pub value_begins : (value : Item) (token rest : List ℕ) → SpellsValue value token → (0 < length token) × (ends_word (token ++ rest) ≡ false)
unfolding text_token
value_begins value token rest s = by (value_form value token s)
  where
    by : ((text : List ℕ) × (value ≡ Text text) × SpellsText text token) ⊎ IsRead value token → (0 < length token) × (ends_word (token ++ rest) ≡ false)
    by (inl t) = (rw t.2.1 (omega arith), rw t.2.1 refl)
    by (inr r) = (r.1, bare_long token rest r.0 r.1)

-- what was read of a value that is no text
flag_was_by : (token : List ℕ) (flag : Bool) (t f : Bool) → bytes_eq token (codes "true") ≡ t → bytes_eq token (codes "false") ≡ f → cond t (Some true) (cond f (Some false) None) ≡ Some flag → token ≡ flag_text flag
flag_was_by token true true f p q h = (bytes_eq-Decides token (codes "true")).0 p
flag_was_by token false true f p q h = absurd (cc)
flag_was_by token false false true p q h = (bytes_eq-Decides token (codes "false")).0 q
flag_was_by token true false true p q h = absurd (cc)
flag_was_by token flag false false p q h = absurd (cc)

flag_was : (token : List ℕ) (flag : Bool) → flag_of token ≡ Some flag → token ≡ flag_text flag
flag_was token flag h = flag_was_by token flag (bytes_eq token (codes "true")) (bytes_eq token (codes "false")) refl refl h

fixed_was_by : (token : List ℕ) (value : Item) (i f : Bool) → cond i (option_map Ref (identifier_of token)) (cond f (option_map Flag (flag_of token)) (option_map Number (signed_of token))) ≡ Some value
    → SpellsValue value token
unfolding value_token
fixed_was_by token value true f h =
    let m = mapped Ref (identifier_of token) value h in
    subst (λ (v : Item). SpellsValue v token) m.2 (of_was token m.0 m.1)
fixed_was_by token value false true h =
    let m = mapped Flag (flag_of token) value h in
    subst (λ (v : Item). SpellsValue v token) m.2 (flag_was token m.0 m.1)
fixed_was_by token value false false h =
    let m = mapped Number (signed_of token) value h in
    subst (λ (v : Item). SpellsValue v token) m.2 (signed_was token m.0 m.1)

fixed_was : (token : List ℕ) (value : Item) → fixed_value_of token ≡ Some value → SpellsValue value token
fixed_was [] value h = absurd (cc)
fixed_was (b ∷ bs) value h = fixed_was_by (b ∷ bs) value (b == 35) ((b == 102) || (b == 116)) h

bare_was_by : (token : List ℕ) (value : Item) (o : Option (List ℕ)) → strip_byte 120 token ≡ o → octets_or_fixed token o ≡ Some value → SpellsValue value token
unfolding value_token
bare_was_by token value None e h = fixed_was token value h
bare_was_by token value (Some figures) e h =
    let m = mapped Octets (some_octets figures) value h in
    let were = some_were figures m.0 m.1 in
    let spelled : token ≡ 120 ∷ flat_map two_figures m.0 = strip_byte_was 120 token figures e ∙ ap (λ (bs : List ℕ). 120 ∷ bs) were.0.0 in
    subst (λ (v : Item). SpellsValue v token) m.2 (were.1, were.0.1, spelled)

-- what was read of a value, before what was left
abbrev pub WasValue : List ℕ → Item → List ℕ → Type 0
WasValue bytes value rest = (token : List ℕ) × SpellsValue value token × (bytes ≡ token ++ rest)

at_value : (v value : Item) (left rest : List ℕ) → ◌≡◌ {A = Reading Item} (Some (v, left)) (Some (value, rest)) → (v ≡ value) × (left ≡ rest)
at_value v value left rest h =
    let both : (v, left) ≡ (value, rest) = cc in
    (ap (λ (x : Item × List ℕ). x.0) both, ap (λ (x : Item × List ℕ). x.1) both)

plain_was : (bytes : List ℕ) (value : Item) (rest : List ℕ) → plain_value_at bytes ≡ Some (value, rest) → WasValue bytes value rest
plain_was bytes value rest h =
    let n = position_or_len ends_value bytes in
    let s = bind_some (value_of (take n bytes)) (λ v. Some (v, drop n bytes)) (value, rest) h in
    let e = at_value s.0 value (drop n bytes) rest s.2 in (
      take n bytes,
      bare_was_by (take n bytes) value (strip_byte 120 (take n bytes)) refl (s.1 ∙ ap Some e.0),
      sym (take-append-drop n bytes) ∙ ap (λ (bs : List ℕ). take n bytes ++ bs) e.1,
    )

text_was : (bytes inside : List ℕ) (value : Item) (rest : List ℕ) → strip_byte 34 bytes ≡ Some inside → text_value_at inside ≡ Some (value, rest) → WasValue bytes value rest
text_was bytes inside value rest e h =
    let s = bind_some (quoted Plain inside) (λ text. cond (is_text text.0) (Some (Text text.0, text.1)) None) (value, rest) h in
    let t = if_some (is_text s.0.0) (Text s.0.0, s.0.1) (value, rest) s.2 in
    let same : Text s.0.0 ≡ value = ap (λ (x : Item × List ℕ). x.0) t.1 in
    let left : s.0.1 ≡ rest = ap (λ (x : Item × List ℕ). x.1) t.1 in
    let inner : inside ≡ flat_map escaped s.0.0 ++ 34 ∷ rest = was_spelled inside s.0.0 rest (s.1 ∙ ap (λ (r : List ℕ). Some (s.0.0, r)) left) in (
      text_token s.0.0,
      subst (λ (v : Item). SpellsValue v (text_token s.0.0)) same (t.0, refl),
      strip_byte_was 34 bytes inside e ∙ ap (λ (bs : List ℕ). 34 ∷ bs) inner ∙ sym (token_is s.0.0 rest),
    )

value_was_by : (bytes : List ℕ) (value : Item) (rest : List ℕ) (o : Option (List ℕ)) → strip_byte 34 bytes ≡ o → value_by bytes o ≡ Some (value, rest) → WasValue bytes value rest
value_was_by bytes value rest None e h = plain_was bytes value rest h
value_was_by bytes value rest (Some inside) e h = text_was bytes inside value rest e h

pub value_was : (bytes : List ℕ) (value : Item) (rest : List ℕ) → value_at bytes ≡ Some (value, rest) → WasValue bytes value rest
unfolding value_at
value_was bytes value rest h = value_was_by bytes value rest (strip_byte 34 bytes) refl h

-- what is written for a value is a spelling of it
pub value_spelled : (value : Item) (token : List ℕ) → SpellsValue value token → SpellsValue value (value_token value)
unfolding value_token
value_spelled (Text text) token s = (s.0, refl)
value_spelled (Number z) token s = (s.0, refl)
value_spelled (Flag flag) token s = refl
value_spelled (Octets octets) token s = (s.0, s.1, refl)
value_spelled (Ref id) token s = (s.0, inl refl)
