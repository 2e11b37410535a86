-- A whole word by the readers of a line.
use Rattle.std.proofs.Common.{◌≡◌, ℕ, ◌<◌, ◌≤◌, ◌^◌, Bool, true, false, cond, ◌&&◌, List, [], ◌∷◌, length, Option, Some, None, refl, sym, ap, subst, ◌∙◌, arith, append-nil}
use Rattle.std.specs.Prelude.{nat_le, IfOk, Result, Ok, Err}
use Rattle.std.specs.Fmt.{digits}
use Rattle.std.proofs.lemmas.Bool.{true≢false}
use Rattle.std.proofs.lemmas.Bool.Decides.{nat_tests}
use Rattle.adr_values.specs.declared.failure.Failure.{Failure}
use Rattle.adr_values.specs.declared.failure.Failure.TheVariants.{Refused, NoMemory}
use Rattle.adr_token.specs.declared.stop.Bad.{Bad}
use Rattle.adr_token.specs.Gives.{Answers, Gives, ◌>>=◌}
use Rattle.adr_token.specs.Identifiers.{identifier_at, identifier_of}
use Rattle.adr_token.specs.Numbers.{at_most, base, figures_from, is_short, number_at, number_of}
use Rattle.adr_token.specs.Words.{is_name, name_at, word_at}
use Rattle.adr_token.proofs.DigitLaws.{digits_graphic, number_was}
use Rattle.adr_token.proofs.IdentifierLaws.{form_bare, of_was}
use Rattle.adr_token.proofs.WordLaws.{bare_graphic, graphic_word, name_graphic, word_again}
use Rattle.adr_words.specs.Asked.{is_one_word, within}
use Rattle.adr_words.specs.Commands.{name_of, number_within}

-- a line that is one word
whole : (word : List ℕ) → is_one_word word ≡ true → 0 < length word → word_at word ≡ Some (word, [])
whole word h l = subst (λ (bytes : List ℕ). word_at bytes ≡ Some (word, [])) (append-nil word) (word_again word [] h l refl)

abbrev alone : {Y : Type 0} → Option Y → Option (Y × List ℕ)
alone o = o >>= λ y. Some (y, [])

-- what a reader of that line gave
answered : {Y : Type 0} (r : Result Y (Failure Bad)) (rest : List ℕ) (o : Option Y) → Gives r rest (alone o) → Answers r o
answered (Ok y) rest None h = absurd (cc)
answered (Ok y) rest (Some z) h = let both : (z, []) ≡ (y, rest) = cc in ap (λ (x : _ × List ℕ). Some x.0) both
answered (Err (Refused b)) rest None h = refl
answered (Err (Refused b)) rest (Some z) h = absurd (cc)
answered (Err NoMemory) rest o h = tt

-- names
name_alone : (word : List ℕ) → is_one_word word ≡ true → name_at word ≡ alone (name_of word)
unfolding name_at
name_alone [] h = refl
name_alone (b ∷ bs) h = rw (whole (b ∷ bs) h (omega arith)) (go (is_name (b ∷ bs)))
  where
    go : (t : Bool) → cond t (Some (b ∷ bs, [])) None ≡ alone (cond t (Some (b ∷ bs)) None)
    go true = refl
    go false = refl

pub name_read : (word line rest : List ℕ) (r : Result (List ℕ) (Failure Bad)) → is_one_word word ≡ true → line ≡ word → Gives r rest (name_at line) → Answers r (name_of word)
name_read word line rest r h e g = answered r rest (name_of word) (subst (Gives r rest) (ap name_at e ∙ name_alone word h) g)

pub name_unread : (word : List ℕ) → is_one_word word ≡ false → name_of word ≡ None
name_unread word h = go (is_name word) refl
  where
    go : (t : Bool) → is_name word ≡ t → cond t (Some word) None ≡ None
    go false e = refl
    go true e = absurd (true≢false (sym (graphic_word word (name_graphic word e).0) ∙ h))

-- identifiers
identifier_alone : (word : List ℕ) → is_one_word word ≡ true → identifier_at word ≡ alone (identifier_of word)
unfolding identifier_at
identifier_alone [] h = refl
identifier_alone (b ∷ bs) h = rw (whole (b ∷ bs) h (omega arith)) refl

pub identifier_read : (word line rest : List ℕ) (r : Result (List ℕ) (Failure Bad)) → is_one_word word ≡ true → line ≡ word → Gives r rest (identifier_at line) → Answers r (identifier_of word)
identifier_read word line rest r h e g = answered r rest (identifier_of word) (subst (Gives r rest) (ap identifier_at e ∙ identifier_alone word h) g)

pub identifier_unread : (word : List ℕ) → is_one_word word ≡ false → identifier_of word ≡ None
identifier_unread word h = go (identifier_of word) refl
  where
    go : (o : Option (List ℕ)) → identifier_of word ≡ o → o ≡ None
    go None e = refl
    go (Some id) e = absurd (true≢false (sym (graphic_word word (bare_graphic word (form_bare id word (of_was word id e)))) ∙ h))

-- numbers
abbrev pub any_number : List ℕ → Option ℕ
any_number word = number_of false 18446744073709551615 word

number_alone : (word : List ℕ) → is_one_word word ≡ true → number_at word ≡ alone (any_number word)
unfolding number_at
number_alone [] h = refl
number_alone (b ∷ bs) h = rw (whole (b ∷ bs) h (omega arith)) refl

pub number_read : (word line rest : List ℕ) (r : Result ℕ (Failure Bad)) → is_one_word word ≡ true → line ≡ word → Gives r rest (number_at line) → Answers r (any_number word)
number_read word line rest r h e g = answered r rest (any_number word) (subst (Gives r rest) (ap number_at e ∙ number_alone word h) g)

number_graphic : (limit n : ℕ) (word : List ℕ) → limit < 2 ^ 64 → number_of false limit word ≡ Some n → is_one_word word ≡ true
number_graphic limit n word l e =
    let was = number_was false limit n word e l in
    let small : n < 2 ^ 64 = omega arith in
    rw was.0 (graphic_word (digits (base false) false n) (digits_graphic false n small).0)

pub number_unread : (most : ℕ) (word : List ℕ) → most < 2 ^ 64 → is_one_word word ≡ false → number_within 1 most word ≡ None
number_unread most word l h = go (number_of false most word) refl
  where
    go : (o : Option ℕ) → number_of false most word ≡ o → (o >>= λ n. cond (nat_le 1 n) (Some n) None) ≡ None
    go None e = refl
    go (Some n) e = absurd (true≢false (sym (number_graphic most n word l e) ∙ h))

-- a number within a smaller limit
limited : (o : Option ℕ) (most limit : ℕ) → most ≤ limit → (o >>= at_most most) ≡ ((o >>= at_most limit) >>= at_most most)
limited None most limit l = refl
limited (Some n) most limit l = go (nat_le n most) (nat_le n limit) refl refl
  where
    go : (t u : Bool) → nat_le n most ≡ t → nat_le n limit ≡ u → cond {A = Option ℕ} t (Some n) None ≡ (cond u (Some n) None >>= at_most most)
    go true true e f = rw e refl
    go false true e f = rw e refl
    go false false e f = refl
    go true false e f = absurd (grind (arith, nat_tests, e, f, l))

pub number_limited : (most : ℕ) (word : List ℕ) → most ≤ 18446744073709551615 → number_of false most word ≡ (any_number word >>= at_most most)
number_limited most word l = go (is_short word)
  where
    go : (t : Bool) → cond t (figures_from false 0 word >>= at_most most) None ≡ (cond t (figures_from false 0 word >>= at_most 18446744073709551615) None >>= at_most most)
    go true = limited (figures_from false 0 word) most 18446744073709551615 l
    go false = refl

-- a number from 1 to the most, of one that was read
pub number_kept : (most : ℕ) (word : List ℕ) (n : ℕ) → most ≤ 18446744073709551615 → any_number word ≡ Some n → number_within 1 most word ≡ within 1 most n
number_kept most word n l e =
    ap (λ (p : Option ℕ). p >>= λ m. cond (nat_le 1 m) (Some m) None) (number_limited most word l ∙ ap (λ (p : Option ℕ). p >>= at_most most) e)
    ∙ go (nat_le n most) (nat_le 1 n) refl
  where
    go : (u t : Bool) → nat_le 1 n ≡ t → (cond {A = Option ℕ} u (Some n) None >>= λ m. cond (nat_le 1 m) (Some m) None) ≡ cond (t && u) (Some n) None
    go true true h = rw h refl
    go true false h = rw h refl
    go false true h = refl
    go false false h = refl

pub number_bad : (most : ℕ) (word : List ℕ) → most ≤ 18446744073709551615 → any_number word ≡ None → number_within 1 most word ≡ None
number_bad most word l e = ap (λ (p : Option ℕ). p >>= λ m. cond (nat_le 1 m) (Some m) None) (number_limited most word l ∙ ap (λ (p : Option ℕ). p >>= at_most most) e)

-- what is read of a word that was given
pub read_through : {Y E : Type 0} (r : Result (Option Y) E) (f : List ℕ → Option Y) (o : Option (List ℕ)) (bytes word : List ℕ) → Some word ≡ o → bytes ≡ word
    → IfOk r (λ y. y ≡ f bytes) → IfOk r (λ y. y ≡ (o >>= f))
read_through (Ok y) f o bytes word is same h = h ∙ ap f same ∙ ap (λ (p : Option (List ℕ)). p >>= f) is
read_through (Err e) f o bytes word is same h = h

pub nothing_through : {Y : Type 0} (f : List ℕ → Option Y) (o : Option (List ℕ)) → None ≡ o → None ≡ (o >>= f)
nothing_through f o is = ap (λ (p : Option (List ℕ)). p >>= f) is
