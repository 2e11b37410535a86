-- A set is read again in each of its spellings, and what is read was one of them.
use Rattle.std.proofs.Common.{◌≡◌, ℕ, zero, suc, ◌+◌, ◌<◌, ◌≤◌, Bool, true, false, not, cond, List, [], ◌∷◌, ◌++◌, length, take, drop, Option, Some, None, refl, sym, ap, subst, ◌∙◌, arith, append_assoc, length-append}
use Rattle.std.specs.Prelude.{codes}
use Rattle.std.specs.List.{list_all, position_or_len}
use Rattle.std.proofs.Math.Seq.{take-append_seam, drop-append_seam}
use Rattle.std.proofs.lemmas.Bool.{and_parts, eqb-true}
use Rattle.std.proofs.lemmas.List.{append-nil, take-append-drop}
use Rattle.adr_values.specs.declared.content.Value.{Value as Item}
use Rattle.adr_token.specs.Gives.{Reading, ◌>>=◌}
use Rattle.adr_token.specs.Words.{strip_byte, unspaced}
use Rattle.adr_token.specs.Texts.{ends_word}
use Rattle.adr_token.specs.Classes.{attribute_of}
use Rattle.adr_token.specs.Values.{assigned_at, ends_value, is_equals, set_at, value_at, values_at, values_within, with_more}
use Rattle.adr_token.specs.Spelling.{attribute_token, set_token, value_token, values_token}
use Rattle.adr_token.specs.Spelled.{SpellsValue, SpellsValues}
use Rattle.adr_token.specs.SetLaws.{SetsAreReadAgain, SetsAreSpelled, SetsWereSpelled}
use Rattle.adr_token.proofs.Lists.{all_more}
use Rattle.adr_token.proofs.ClassLaws.{attribute_of_again, attribute_of_was, attributes_graphic, attributes_numbered, attributes_token, is_numbered_byte}
use Rattle.adr_token.proofs.QuoteLaws.{taken}
use Rattle.adr_token.proofs.TextLaws.{strip_byte_was}
use Rattle.adr_token.proofs.ValueLaws.{WasValue, value_again, value_begins, value_spelled, value_was}
use Rattle.adr_token.proofs.WordLaws.{at_stop, bind_some, graphic_starts, if_some, is_graphic, word_stops}

no_comma : (rest : List ℕ) → ends_word rest ≡ true → strip_byte 44 rest ≡ None
no_comma [] e = refl
no_comma (b ∷ bs) e = rw (eqb-true b 32 e) refl

-- bytes with one byte between them, before others
between : (c : ℕ) (front list rest : List ℕ) → ((front ++ c ∷ []) ++ list) ++ rest ≡ front ++ (c ∷ (list ++ rest))
between c front list rest = append_assoc (front ++ c ∷ []) list rest ∙ append_assoc front (c ∷ []) (list ++ rest)

length-between : (c : ℕ) (front list : List ℕ) → length ((front ++ c ∷ []) ++ list) ≡ length front + suc (length list)
length-between c front list = ap length (append_assoc front (c ∷ []) list) ∙ length-append front (c ∷ list)

values_begin : (value : Item) (values : List Item) (token rest : List ℕ) → SpellsValues (value ∷ values) token → (0 < length token) × (ends_word (token ++ rest) ≡ false)
values_begin value [] token rest s = value_begins value token rest s
values_begin value (next ∷ values) token rest s =
    let first = value_begins value s.0 (44 ∷ (s.1 ++ rest)) s.2 in
    let same : token ++ rest ≡ s.0 ++ (44 ∷ (s.1 ++ rest)) = ap (λ (bs : List ℕ). bs ++ rest) s.4 ∙ between 44 s.0 s.1 rest in
    let long : length token ≡ length s.0 + suc (length s.1) = ap length s.4 ∙ length-between 44 s.0 s.1 in
    (omega arith, rw same first.1)

-- the values of a list are read again
values_again : (most : ℕ) (value : Item) (values : List Item) (token rest : List ℕ) → SpellsValues (value ∷ values) token → ends_word rest ≡ true → length token ≤ most
    → values_within most (token ++ rest) ≡ Some (value ∷ values, rest)
values_again zero value values token rest s e l = let some = (values_begin value values token rest s).0 in absurd (omega arith)
values_again (suc most) value [] token rest s e l = rw (value_again value token rest s (word_stops ends_value rest refl e), no_comma rest e, e) refl
values_again (suc most) value (next ∷ values) token rest s e l =
    let same : token ++ rest ≡ s.0 ++ (44 ∷ (s.1 ++ rest)) = ap (λ (bs : List ℕ). bs ++ rest) s.4 ∙ between 44 s.0 s.1 rest in
    let long : length token ≡ length s.0 + suc (length s.1) = ap length s.4 ∙ length-between 44 s.0 s.1 in
    let fewer : length s.1 ≤ most = omega arith in
    rw (same, value_again value s.0 (44 ∷ (s.1 ++ rest)) s.2 refl, values_again most next values s.1 rest s.3 e fewer) refl

values_at_again : (values : List Item) (token rest : List ℕ) → SpellsValues values token → ends_word rest ≡ true → values_at (token ++ rest) ≡ Some (values, rest)
unfolding values_at
values_at_again [] token rest s e = rw (s, e) refl
values_at_again (value ∷ values) token rest s e =
    let enough : length token ≤ length (token ++ rest) = omega (arith, length-append token rest) in
    rw ((values_begin value values token rest s).1) (values_again (length (token ++ rest)) value values token rest s e enough)

-- what was read of values, before what was left
abbrev WereValues : List ℕ → List Item → List ℕ → Type 0
WereValues bytes values rest = (token : List ℕ) × SpellsValues values token × (bytes ≡ token ++ rest) × (ends_word rest ≡ true)

abbrev WereSome : List ℕ → List Item → List ℕ → Type 0
WereSome bytes values rest = WereValues bytes values rest × (0 < length values)

one_more : (value : Item) (values : List Item) (first list : List ℕ) → SpellsValue value first → SpellsValues values list → 0 < length values → SpellsValues (value ∷ values) (first ++ codes "," ++ list)
one_more value [] first list s t l = absurd (omega arith)
one_more value (next ∷ values) first list s t l = (first, list, s, t, refl)

before_values : (bytes after more rest : List ℕ) (value : Item) (values : List Item) → WasValue bytes value after → after ≡ 44 ∷ more → WereSome more values rest → WereSome bytes (value ∷ values) rest
before_values bytes after more rest value values v e w =
    let list = w.0.0 in
    let same : bytes ≡ (v.0 ++ codes "," ++ list) ++ rest =
    v.2 ∙ ap (λ (bs : List ℕ). v.0 ++ bs) (e ∙ ap (λ (bs : List ℕ). 44 ∷ bs) w.0.2) ∙ sym (between 44 v.0 list rest) in
    ((v.0 ++ codes "," ++ list, one_more value values v.0 list v.1 w.0.1 w.1, same, w.0.3), omega arith)

more_were : (most : ℕ) (bytes after rest : List ℕ) (value : Item) (values : List Item) (o : Option (List ℕ)) → WasValue bytes value after → strip_byte 44 after ≡ o
    → with_more value after o (values_within most) ≡ Some (values, rest) → ((more : List ℕ) (vs : List Item) → values_within most more ≡ Some (vs, rest) → WereSome more vs rest) → WereSome bytes values rest
more_were most bytes after rest value values None v e h go =
    let t = if_some (ends_word after) (value ∷ [], after) (values, rest) h in
    let listed : value ∷ [] ≡ values = ap (λ (x : List Item × List ℕ). x.0) t.1 in
    let left : after ≡ rest = ap (λ (x : List Item × List ℕ). x.1) t.1 in
    let here : WereSome bytes (value ∷ []) after = ((v.0, v.1, v.2, t.0), omega arith) in
    subst (λ (r : List ℕ). WereSome bytes values r) left (subst (λ (vs : List Item). WereSome bytes vs after) listed here)
more_were most bytes after rest value values (Some more) v e h go =
    let t = taken value (values_within most more) values rest h in
    subst (λ (vs : List Item). WereSome bytes vs rest) (sym t.2) (before_values bytes after more rest value t.0 v (strip_byte_was 44 after more e) (go more t.0 t.1))

values_were : (most : ℕ) (bytes : List ℕ) (values : List Item) (rest : List ℕ) → values_within most bytes ≡ Some (values, rest) → WereSome bytes values rest
values_were zero bytes values rest h = absurd (cc)
values_were (suc most) bytes values rest h =
    let s = bind_some (value_at bytes) (λ v. with_more v.0 v.1 (strip_byte 44 v.1) (values_within most)) (values, rest) h in
    more_were most bytes s.0.1 rest s.0.0 values (strip_byte 44 s.0.1) (value_was bytes s.0.0 s.0.1 s.1) refl s.2 (λ more vs. values_were most more vs rest)

values_at_were_by : (bytes : List ℕ) (values : List Item) (rest : List ℕ) (t : Bool) → ends_word bytes ≡ t → cond {A = Reading (List Item)} t (Some ([], bytes)) (values_within (length bytes) bytes) ≡ Some (values, rest) → WereValues bytes values rest
values_at_were_by bytes values rest true e h =
    let both : ([], bytes) ≡ (values, rest) = cc in
    let none : [] ≡ values = ap (λ (x : List Item × List ℕ). x.0) both in
    let left : bytes ≡ rest = ap (λ (x : List Item × List ℕ). x.1) both in
    subst (λ (r : List ℕ). WereValues bytes values r) left (subst (λ (vs : List Item). WereValues bytes vs bytes) none ([], refl, refl, e))
values_at_were_by bytes values rest false e h = (values_were (length bytes) bytes values rest h).0

values_at_were : (bytes : List ℕ) (values : List Item) (rest : List ℕ) → values_at bytes ≡ Some (values, rest) → WereValues bytes values rest
unfolding values_at
values_at_were bytes values rest h = values_at_were_by bytes values rest (ends_word bytes) refl h

-- the attribute before its `=`
numbered_no_equals : (b : ℕ) → is_numbered_byte b ≡ true → not (is_equals b) ≡ true
numbered_no_equals b h = (and_parts (is_graphic b) (not (is_equals b)) h).1

assigned_again : (name rest : List ℕ) → list_all is_numbered_byte name ≡ true → assigned_at (name ++ 61 ∷ rest) ≡ Some (name, rest)
assigned_again name rest h =
    let long : position_or_len is_equals (name ++ 61 ∷ rest) ≡ length name = at_stop is_equals name (61 ∷ rest) (all_more is_numbered_byte (λ b. not (is_equals b)) numbered_no_equals name h) refl in
    rw (long, take-append_seam name (61 ∷ rest), drop-append_seam name (61 ∷ rest)) refl

assigned_was : (bytes name rest : List ℕ) → assigned_at bytes ≡ Some (name, rest) → bytes ≡ name ++ 61 ∷ rest
assigned_was bytes name rest h =
    let n = position_or_len is_equals bytes in
    let s = bind_some (strip_byte 61 (drop n bytes)) (λ r. Some (take n bytes, r)) (name, rest) h in
    let both : (take n bytes, s.0) ≡ (name, rest) = cc in
    let front : take n bytes ≡ name = ap (λ (x : List ℕ × List ℕ). x.0) both in
    let back : s.0 ≡ rest = ap (λ (x : List ℕ × List ℕ). x.1) both in
    sym (take-append-drop n bytes) ∙ rw (front, strip_byte_was 61 (drop n bytes) s.0 s.1, back) refl

-- sets
pub sets_again : SetsAreReadAgain
unfolding set_at
sets_again attr values token rest s e =
    let name = s.0 in
    let list = s.1 in
    let same : token ++ rest ≡ name ++ (61 ∷ (list ++ rest)) = ap (λ (bs : List ℕ). bs ++ rest) s.4 ∙ between 61 name list rest in
    let seen = attributes_graphic attr name s.2 in
    rw (same, graphic_starts name (61 ∷ (list ++ rest)) seen.0 seen.1, assigned_again name (list ++ rest) (attributes_numbered attr name s.2).0, attribute_of_again attr name s.2, values_at_again values list rest s.3 e) refl

pub sets_spelled : SetsWereSpelled
unfolding set_at
sets_spelled bytes attr values rest h =
    let s = bind_some (assigned_at (unspaced bytes)) (λ name. attribute_of name.0 >>= λ a. values_at name.1 >>= λ vs. Some ((a, vs.0), vs.1)) ((attr, values), rest) h in
    let t = bind_some (attribute_of s.0.0) (λ a. values_at s.0.1 >>= λ vs. Some ((a, vs.0), vs.1)) ((attr, values), rest) s.2 in
    let u = bind_some (values_at s.0.1) (λ vs. Some ((t.0, vs.0), vs.1)) ((attr, values), rest) t.2 in
    let both : ((t.0, u.0.0), u.0.1) ≡ ((attr, values), rest) = cc in
    let number : t.0 ≡ attr = ap (λ (x : (ℕ × List Item) × List ℕ). x.0.0) both in
    let listed : u.0.0 ≡ values = ap (λ (x : (ℕ × List Item) × List ℕ). x.0.1) both in
    let left : u.0.1 ≡ rest = ap (λ (x : (ℕ × List Item) × List ℕ). x.1) both in
    let were = values_at_were s.0.1 values rest (u.1 ∙ ap Some (λ i. (listed i, left i))) in
    let name = s.0.0 in
    let list = were.0 in
    let same : unspaced bytes ≡ (name ++ codes "=" ++ list) ++ rest =
    assigned_was (unspaced bytes) name s.0.1 s.1 ∙ ap (λ (bs : List ℕ). name ++ 61 ∷ bs) were.2 ∙ sym (between 61 name list rest) in (
      name ++ codes "=" ++ list,
      (name, list, attribute_of_was attr name (t.1 ∙ ap Some number), were.1, refl),
      (same, were.3),
    )

-- what is written is a spelling
values_token_spelled : (values : List Item) (token : List ℕ) → SpellsValues values token → SpellsValues values (values_token values)
values_token_spelled [] token s = refl
values_token_spelled (value ∷ []) token s = subst (SpellsValue value) (sym (append-nil (value_token value))) (value_spelled value token s)
values_token_spelled (value ∷ next ∷ values) token s =
    (value_token value, values_token (next ∷ values), value_spelled value s.0 s.2, values_token_spelled (next ∷ values) s.1 s.3, sym (append_assoc (value_token value) (44 ∷ []) (values_token (next ∷ values))))

pub sets_token : SetsAreSpelled
unfolding set_token
sets_token attr values token s =
    (attribute_token attr, values_token values, attributes_token attr s.0 s.2, values_token_spelled values s.1 s.3, refl)
