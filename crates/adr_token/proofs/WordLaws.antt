-- A word is read again, and what is read was a word.
use Rattle.std.proofs.Common.{◌≡◌, ℕ, ◌+◌, ◌<◌, suc, Bool, true, false, not, ◌&&◌, cond, List, [], ◌∷◌, ◌++◌, length, take, drop, Option, Some, None, refl, sym, ap, ◌∙◌, arith}
use Rattle.std.specs.Prelude.{◌==◌, nat_le}
use Rattle.std.specs.List.{position_or_len, list_all}
use Rattle.std.proofs.Math.Seq.{take-append_seam, drop-append_seam}
use Rattle.std.proofs.lemmas.List.{take-append-drop}
use Rattle.std.proofs.lemmas.Bool.{and_parts, and_from, eqb-true, ne_eqb}
use Rattle.std.proofs.lemmas.Bool.Decides.{nat_tests}
use Rattle.adr_token.specs.Gives.{◌>>=◌}
use Rattle.adr_token.specs.Words.{is_space, unspaced, word_as, word_at, is_letter, is_name_byte, is_name, name_at}
use Rattle.adr_token.specs.Texts.{ends_word}
use Rattle.adr_token.specs.Laws.{Stands, NamesAreReadAgain, NamesWereSpelled}
use Rattle.adr_token.proofs.Lists.{all_more}

abbrev pub is_spaceless : List ℕ → Bool
is_spaceless word = list_all (λ b. not (is_space b)) word

-- what a step of a reading gave
pub bind_some : {A B : Type 0} (o : Option A) (f : A → Option B) (y : B) → (o >>= f) ≡ Some y → (x : A) × (o ≡ Some x) × (f x ≡ Some y)
bind_some None f y h = absurd (cc)
bind_some (Some x) f y h = (x, refl, h)

-- the choice that gave something
pub if_some : {A : Type 0} (b : Bool) (x y : A) → cond b (Some x) None ≡ Some y → (b ≡ true) × (x ≡ y)
if_some true x y h = (refl, cc)
if_some false x y h = absurd (cc)

-- nothing is left, or its first byte passes a test
abbrev pub stops : (ℕ → Bool) → List ℕ → Bool
stops p [] = true
stops p (b ∷ bs) = p b

pub at_stop : (p : ℕ → Bool) (word rest : List ℕ) → list_all (λ b. not (p b)) word ≡ true → stops p rest ≡ true → position_or_len p (word ++ rest) ≡ length word
at_stop p [] [] h e = refl
at_stop p [] (b ∷ bs) h e = rw e refl
at_stop p (b ∷ bs) rest h e =
    let parts = and_parts (not (p b)) (list_all (λ c. not (p c)) bs) h in
    rw (parts.0, at_stop p bs rest parts.1 e) (omega arith)

-- a word ends where it stops at a space
pub word_stops : (p : ℕ → Bool) (rest : List ℕ) → p 32 ≡ true → ends_word rest ≡ true → stops p rest ≡ true
word_stops p [] h e = refl
word_stops p (b ∷ bs) h e = rw (eqb-true b 32 e) h

starts : (b : ℕ) (bs : List ℕ) → not (is_space b) ≡ true → unspaced (b ∷ bs) ≡ b ∷ bs
starts b bs h = rw h refl

pub skips : (bytes : List ℕ) → unspaced (32 ∷ bytes) ≡ unspaced bytes
skips bytes =
    let e : 1 + position_or_len (λ b. not (is_space b)) bytes ≡ suc (position_or_len (λ b. not (is_space b)) bytes) = omega arith in
    rw e refl

pub word_again : (word rest : List ℕ) → is_spaceless word ≡ true → 0 < length word → ends_word rest ≡ true → word_at (word ++ rest) ≡ Some (word, rest)
word_again [] rest h n e = absurd (omega arith)
word_again (b ∷ bs) rest h n e =
    let p = and_parts (not (is_space b)) (is_spaceless bs) h in
    let some : (length (b ∷ (bs ++ rest)) == 0) ≡ false = ne_eqb _ 0 (λ z. omega arith) in
    rw (starts b (bs ++ rest) p.0, at_stop is_space (b ∷ bs) rest h (word_stops is_space rest refl e), take-append_seam (b ∷ bs) rest, drop-append_seam (b ∷ bs) rest, some) refl

rest_ends_from : (b : ℕ) (bs : List ℕ) (t : Bool) → is_space b ≡ t → ends_word (drop (position_or_len is_space bs) bs) ≡ true → ends_word (drop (position_or_len is_space (b ∷ bs)) (b ∷ bs)) ≡ true
rest_ends_from b bs true h more = rw (h, h) refl
rest_ends_from b bs false h more =
    let e : 1 + position_or_len is_space bs ≡ suc (position_or_len is_space bs) = omega arith in
    rw (h, e) more

rest_ends : (bytes : List ℕ) → ends_word (drop (position_or_len is_space bytes) bytes) ≡ true
rest_ends [] = refl
rest_ends (b ∷ bs) = rest_ends_from b bs (is_space b) refl (rest_ends bs)

cut_was : (left word rest : List ℕ) (n : ℕ) (t : Bool) → cond {A = Option (List ℕ × List ℕ)} t None (Some (take n left, drop n left)) ≡ Some (word, rest) → ends_word (drop n left) ≡ true
    → (left ≡ word ++ rest) × (ends_word rest ≡ true)
cut_was left word rest n true h ends = absurd (cc)
cut_was left word rest n false h ends =
    let both : (take n left, drop n left) ≡ (word, rest) = cc in
    let front : take n left ≡ word = ap (λ (x : List ℕ × List ℕ). x.0) both in
    let back : drop n left ≡ rest = ap (λ (x : List ℕ × List ℕ). x.1) both in
    (rw (← front, ← back) (sym (take-append-drop n left)), rw (← back) ends)

pub word_was : (bytes word rest : List ℕ) → word_at bytes ≡ Some (word, rest) → Stands word bytes rest
word_was bytes word rest h =
    cut_was (unspaced bytes) word rest (position_or_len is_space (unspaced bytes)) (length (unspaced bytes) == 0) h (rest_ends (unspaced bytes))

-- what was read as a word's answer
pub word_as_was : {X : Type 0} (of : List ℕ → Option X) (bytes : List ℕ) (x : X) (rest : List ℕ) → word_as of bytes ≡ Some (x, rest)
    → (word : List ℕ) × (of word ≡ Some x) × Stands word bytes rest
word_as_was {X} of bytes x rest h =
    let s = bind_some (word_at bytes) (λ word. of word.0 >>= λ y. Some (y, word.1)) (x, rest) h in
    let t = bind_some (of s.0.0) (λ y. Some (y, s.0.1)) (x, rest) s.2 in
    let both : (t.0, s.0.1) ≡ (x, rest) = cc in
    let value : t.0 ≡ x = ap (λ (r : X × List ℕ). r.0) both in
    let left : s.0.1 ≡ rest = ap (λ (r : X × List ℕ). r.1) both in
    (s.0.0, t.1 ∙ ap Some value, word_was bytes s.0.0 rest (s.1 ∙ ap (λ (r : List ℕ). Some (s.0.0, r)) left))

-- bytes that are seen: no spaces, no control bytes
abbrev pub is_graphic : ℕ → Bool
is_graphic b = nat_le 33 b && nat_le b 126

abbrev pub are_graphic : List ℕ → Bool
are_graphic bs = list_all is_graphic bs

graphic_no_space : (b : ℕ) → is_graphic b ≡ true → not (is_space b) ≡ true
graphic_no_space b h = grind (arith, nat_tests)

pub graphic_word : (bs : List ℕ) → are_graphic bs ≡ true → is_spaceless bs ≡ true
graphic_word bs h = all_more is_graphic (λ b. not (is_space b)) graphic_no_space bs h

pub graphic_starts : (bs rest : List ℕ) → are_graphic bs ≡ true → 0 < length bs → unspaced (bs ++ rest) ≡ bs ++ rest
graphic_starts [] rest h l = absurd (omega arith)
graphic_starts (b ∷ bs) rest h l = starts b (bs ++ rest) (and_parts (not (is_space b)) (is_spaceless bs) (graphic_word (b ∷ bs) h)).0

-- a byte of a token that is no text: it is seen, and is no comma and no quote
abbrev pub is_bare : ℕ → Bool
is_bare b = nat_le 35 b && nat_le b 126 && not (b == 44)

abbrev pub are_bare : List ℕ → Bool
are_bare bs = list_all is_bare bs

bare_byte : (b : ℕ) → is_bare b ≡ true → is_graphic b ≡ true
bare_byte b h = grind (arith, nat_tests)

pub bare_graphic : (bs : List ℕ) → are_bare bs ≡ true → are_graphic bs ≡ true
bare_graphic bs h = all_more is_bare is_graphic bare_byte bs h

-- names
name_byte_graphic : (b : ℕ) → is_name_byte b ≡ true → is_graphic b ≡ true
name_byte_graphic b h = grind (arith, nat_tests)

letter_graphic : (b : ℕ) → is_letter b ≡ true → is_graphic b ≡ true
letter_graphic b h = grind (arith, nat_tests)

name_bytes_graphic : (bs : List ℕ) → list_all is_name_byte bs ≡ true → are_graphic bs ≡ true
name_bytes_graphic bs h = all_more is_name_byte is_graphic name_byte_graphic bs h

pub name_graphic : (name : List ℕ) → is_name name ≡ true → (are_graphic name ≡ true) × (0 < length name)
name_graphic [] h = absurd (cc)
name_graphic (b ∷ bs) h =
    let p = and_parts _ _ h in
    let q = and_parts _ _ p.0 in
    (and_from _ _ (letter_graphic b q.0) (name_bytes_graphic bs p.1), omega arith)

pub names_again : NamesAreReadAgain
unfolding name_at
names_again name rest h e = let w = name_graphic name h in rw (word_again name rest (graphic_word name w.0) w.1 e, h) refl

pub names_spelled : NamesWereSpelled
unfolding name_at
names_spelled bytes name rest h =
    let s = bind_some (word_at bytes) (λ word. cond (is_name word.0) (Some word) None) (name, rest) h in
    let t = if_some (is_name s.0.0) s.0 (name, rest) s.2 in
    let same : s.0.0 ≡ name = ap (λ (x : List ℕ × List ℕ). x.0) t.1 in
    (rw (← same) t.0, word_was bytes name rest (s.1 ∙ ap Some t.1))
