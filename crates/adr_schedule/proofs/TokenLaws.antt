-- A token that is spelled is read, and one that was read is spelled.
use Rattle.std.proofs.Common.{◌≡◌, ◌⊎◌, ℕ, suc, ◌+◌, ◌<◌, ◌≤◌, Bool, true, false, not, cond, List, [], ◌∷◌, length, length-append, Some, None, refl, sym, ap, subst, ◌∙◌, inl, inr, arith}
use Rattle.std.specs.Prelude.{◌&&◌, ◌==◌, nat_le, codes}
use Rattle.std.specs.Fmt.{decimal}
use Rattle.std.specs.List.{position_or_len}
use Rattle.std.specs.Str.{bytes_eq}
use Rattle.std.proofs.lemmas.Bool.{and_parts, le-leb, leb-true, ne_eqb}
use Rattle.std.proofs.lemmas.Slice.Eq.{bytes_eq-Decides}
use Rattle.adr_disk.specs.declared.memory.Crash.{Crash}
use Rattle.adr_disk.specs.declared.memory.Crash.TheVariants.{Kept, Lost, Torn}
use Rattle.adr_values.specs.Assignments.{Given}
use Rattle.adr_values.specs.declared.content.Value.{Value as Item}
use Rattle.adr_token.specs.Gives.{◌>>=◌}
use Rattle.adr_token.specs.Words.{is_space, unspaced, said, word_at, name_at}
use Rattle.adr_token.specs.Numbers.{number_at}
use Rattle.adr_token.specs.Identifiers.{identifier_at}
use Rattle.adr_token.specs.Classes.{attribute_at, class_at}
use Rattle.adr_token.specs.Texts.{text_at}
use Rattle.adr_token.specs.Values.{set_at}
use Rattle.adr_token.specs.Laws.{IsIdentifier, Stands, full_token}
use Rattle.adr_token.specs.Spelling.{identifier_token, text_token}
use Rattle.adr_token.proofs.Lists.{found}
use Rattle.adr_token.proofs.WordLaws.{bind_some, if_some, is_spaceless, names_again, names_spelled, word_again, word_was}
use Rattle.adr_token.proofs.DigitLaws.{numbers_again, numbers_spelled}
use Rattle.adr_token.proofs.IdentifierLaws.{identifiers_again, identifiers_spelled}
use Rattle.adr_token.proofs.TextLaws.{texts_again, texts_spelled}
use Rattle.adr_token.proofs.ClassLaws.{classes_again, classes_spelled, attributes_again, attributes_spelled}
use Rattle.adr_token.proofs.SetLaws.{sets_again, sets_spelled}
use Rattle.adr_schedule.specs.Limits.{ask_limit, plan_limit, rounds_limit}
use Rattle.adr_schedule.specs.Crashes.{crash_of, crash_word, crashes}
use Rattle.adr_schedule.specs.Forms.{bound_at, calls_at, crash_at, limit_at, number_between, rounds_at}
use Rattle.adr_schedule.specs.Grammar.{Word, Name, Number, Identifier, Class, Attribute, Quoted, Set, AreRounds, IsLimit, IsNext}

-- spaces in front say nothing
space_skips : (b : ℕ) (bs : List ℕ) → is_space b ≡ true → unspaced (b ∷ bs) ≡ unspaced bs
space_skips b bs h =
    let e : 1 + position_or_len (λ c. not (is_space c)) bs ≡ suc (position_or_len (λ c. not (is_space c)) bs) = omega arith in
    rw (h, e) refl

starts : (b : ℕ) (bs : List ℕ) → is_space b ≡ false → unspaced (b ∷ bs) ≡ b ∷ bs
starts b bs h = rw h refl

unspaced_by : (b : ℕ) (bs : List ℕ) (t : Bool) → is_space b ≡ t → unspaced (unspaced bs) ≡ unspaced bs → unspaced (unspaced (b ∷ bs)) ≡ unspaced (b ∷ bs)
unspaced_by b bs true h more = ap unspaced (space_skips b bs h) ∙ more ∙ sym (space_skips b bs h)
unspaced_by b bs false h more = ap unspaced (starts b bs h)

unspaced_again : (bytes : List ℕ) → unspaced (unspaced bytes) ≡ unspaced bytes
unspaced_again [] = refl
unspaced_again (b ∷ bs) = unspaced_by b bs (is_space b) refl (unspaced_again bs)

word_spaced : (bytes : List ℕ) → word_at (unspaced bytes) ≡ word_at bytes
word_spaced bytes = rw (unspaced_again bytes) refl

name_spaced : (bytes : List ℕ) → name_at (unspaced bytes) ≡ name_at bytes
unfolding name_at
name_spaced bytes = rw (word_spaced bytes) refl

number_spaced : (bytes : List ℕ) → number_at (unspaced bytes) ≡ number_at bytes
unfolding number_at
number_spaced bytes = rw (word_spaced bytes) refl

identifier_spaced : (bytes : List ℕ) → identifier_at (unspaced bytes) ≡ identifier_at bytes
unfolding identifier_at
identifier_spaced bytes = rw (word_spaced bytes) refl

-- the same bytes stand there
stands_as : (word word' bytes rest : List ℕ) → word ≡ word' → Stands word bytes rest → Stands word' bytes rest
stands_as word word' bytes rest e h = subst (λ (w : List ℕ). Stands w bytes rest) e h

-- a token that is spelled is read
pub word_read : (word bytes rest : List ℕ) → is_spaceless word ≡ true → 0 < length word → IsNext (Word word) bytes rest → word_at bytes ≡ Some (word, rest)
word_read word bytes rest h l w =
    let s = stands_as w.0 word bytes rest w.1 w.2 in
    sym (word_spaced bytes) ∙ ap word_at s.0 ∙ word_again word rest h l s.1

pub name_read : (name bytes rest : List ℕ) → IsNext (Name name) bytes rest → name_at bytes ≡ Some (name, rest)
name_read name bytes rest w =
    let s = stands_as w.0 name bytes rest w.1.1 w.2 in
    sym (name_spaced bytes) ∙ ap name_at s.0 ∙ names_again name rest w.1.0 s.1

pub number_read : (n : ℕ) (bytes rest : List ℕ) → IsNext (Number n) bytes rest → number_at bytes ≡ Some (n, rest)
number_read n bytes rest w =
    let s = stands_as w.0 (decimal n) bytes rest w.1.1 w.2 in
    sym (number_spaced bytes) ∙ ap number_at s.0 ∙ numbers_again n rest w.1.0 s.1

identifier_by : (id bytes rest spelled : List ℕ) → IsIdentifier id → (spelled ≡ identifier_token id) ⊎ (spelled ≡ full_token id) → Stands spelled bytes rest → identifier_at bytes ≡ Some (id, rest)
identifier_by id bytes rest spelled h (inl e) w =
    let s = stands_as spelled (identifier_token id) bytes rest e w in
    sym (identifier_spaced bytes) ∙ ap identifier_at s.0 ∙ (identifiers_again id rest h s.1).0
identifier_by id bytes rest spelled h (inr e) w =
    let s = stands_as spelled (full_token id) bytes rest e w in
    sym (identifier_spaced bytes) ∙ ap identifier_at s.0 ∙ (identifiers_again id rest h s.1).1

pub identifier_read : (id bytes rest : List ℕ) → IsNext (Identifier id) bytes rest → identifier_at bytes ≡ Some (id, rest)
identifier_read id bytes rest w = identifier_by id bytes rest w.0 w.1.0 w.1.1 w.2

class_spaced : (bytes : List ℕ) → class_at (unspaced bytes) ≡ class_at bytes
unfolding class_at
class_spaced bytes = rw (word_spaced bytes) refl

attribute_spaced : (bytes : List ℕ) → attribute_at (unspaced bytes) ≡ attribute_at bytes
unfolding attribute_at
attribute_spaced bytes = rw (word_spaced bytes) refl

set_spaced : (bytes : List ℕ) → set_at (unspaced bytes) ≡ set_at bytes
unfolding set_at
set_spaced bytes = rw (unspaced_again bytes) refl

pub class_read : (class : ℕ) (bytes rest : List ℕ) → IsNext (Class class) bytes rest → class_at bytes ≡ Some (class, rest)
class_read class bytes rest w = sym (class_spaced bytes) ∙ ap class_at w.2.0 ∙ classes_again class w.0 rest w.1 w.2.1

pub attribute_read : (attr : ℕ) (bytes rest : List ℕ) → IsNext (Attribute attr) bytes rest → attribute_at bytes ≡ Some (attr, rest)
attribute_read attr bytes rest w = sym (attribute_spaced bytes) ∙ ap attribute_at w.2.0 ∙ attributes_again attr w.0 rest w.1 w.2.1

pub set_read : (attr : ℕ) (values : List Item) (bytes rest : List ℕ) → IsNext (Set attr values) bytes rest → set_at bytes ≡ Some ((attr, values), rest)
set_read attr values bytes rest w = sym (set_spaced bytes) ∙ ap set_at w.2.0 ∙ sets_again attr values w.0 rest w.1 w.2.1

pub text_read : (text bytes rest : List ℕ) → IsNext (Quoted text) bytes rest → text_at (unspaced bytes) ≡ Some (text, rest)
text_read text bytes rest w =
    let s = stands_as w.0 (text_token text) bytes rest w.1.1 w.2 in
    ap text_at s.0 ∙ texts_again text rest w.1.0 s.1

-- and a number between two others
between_read : (least greatest n : ℕ) (bytes rest : List ℕ) → (least ≤ n) × (n ≤ greatest) → IsNext (Number n) bytes rest
    → number_between least greatest bytes ≡ Some (n, rest)
unfolding number_between
between_read least greatest n bytes rest h w = rw (number_read n bytes rest w, le-leb least n h.0, le-leb n greatest h.1) refl

pub limit_read : (n : ℕ) (bytes rest : List ℕ) → IsLimit n → IsNext (Number n) bytes rest → limit_at bytes ≡ Some (n, rest)
limit_read = between_read 1 ask_limit

pub rounds_read : (n : ℕ) (bytes rest : List ℕ) → AreRounds n → IsNext (Number n) bytes rest → rounds_at bytes ≡ Some (n, rest)
rounds_read = between_read 1 rounds_limit

pub bound_read : (name bytes between rest : List ℕ) → IsNext (Word (codes "as")) bytes between → IsNext (Name name) between rest → bound_at bytes ≡ Some (name, rest)
unfolding bound_at said
bound_read name bytes between rest w n = rw (word_read (codes "as") bytes between refl (omega arith) w, name_read name between rest n) refl

pub calls_read : (n : ℕ) (bytes between rest : List ℕ) → n ≤ plan_limit → IsNext (Word (codes "after")) bytes between → IsNext (Number n) between rest → calls_at bytes ≡ Some (n, rest)
unfolding calls_at said
calls_read n bytes between rest most w c = rw (word_read (codes "after") bytes between refl (omega arith) w, between_read 0 plan_limit n between rest (omega arith, most) c) refl

pub crash_read : (how : Crash) (bytes rest : List ℕ) → IsNext (Word (crash_word how)) bytes rest → crash_at bytes ≡ Some (how, rest)
unfolding crash_at
crash_read Kept bytes rest w = rw (word_read (codes "kept") bytes rest refl (omega arith) w) refl
crash_read Lost bytes rest w = rw (word_read (codes "lost") bytes rest refl (omega arith) w) refl
crash_read Torn bytes rest w = rw (word_read (codes "torn") bytes rest refl (omega arith) w) refl

-- a word is left
pub word_left : (word bytes rest : List ℕ) → 0 < length word → IsNext (Word word) bytes rest → (length (unspaced bytes) == 0) ≡ false
word_left word bytes rest some w =
    let s = stands_as w.0 word bytes rest w.1 w.2 in
    ne_eqb (length (unspaced bytes)) 0 (λ none. omega (arith, none, simp length-append at (ap length s.0)))

-- a token that was read is spelled
abbrev pub Read : Type 0
Read = List ℕ × List ℕ

pub same_bytes : (bs cs : List ℕ) → bytes_eq bs cs ≡ true → bs ≡ cs
same_bytes bs cs h = (bytes_eq-Decides bs cs).0 h

pub word_next : (word bytes : List ℕ) (t : Read) → word_at bytes ≡ Some t → bytes_eq t.0 word ≡ true → IsNext (Word word) bytes t.1
word_next word bytes t h e = (t.0, same_bytes t.0 word e, word_was bytes t.0 t.1 h)

pub name_next : (bytes : List ℕ) (t : Read) → name_at bytes ≡ Some t → IsNext (Name t.0) bytes t.1
name_next bytes t h = let w = names_spelled bytes t.0 t.1 h in (t.0, (w.0, refl), w.1)

pub number_next : (bytes : List ℕ) (t : ℕ × List ℕ) → number_at bytes ≡ Some t → IsNext (Number t.0) bytes t.1
number_next bytes t h = let w = numbers_spelled bytes t.0 t.1 h in (decimal t.0, (w.0, refl), w.1)

either_form : (id bytes rest : List ℕ) → IsIdentifier id → Stands (identifier_token id) bytes rest ⊎ Stands (full_token id) bytes rest → IsNext (Identifier id) bytes rest
either_form id bytes rest h (inl s) = (identifier_token id, (h, inl refl), s)
either_form id bytes rest h (inr s) = (full_token id, (h, inr refl), s)

pub identifier_next : (bytes : List ℕ) (t : Read) → identifier_at bytes ≡ Some t → IsNext (Identifier t.0) bytes t.1
identifier_next bytes t h = let w = identifiers_spelled bytes t.0 t.1 h in either_form t.0 bytes t.1 w.0 w.1

pub text_next : (bytes : List ℕ) (t : Read) → text_at (unspaced bytes) ≡ Some t → IsNext (Quoted t.0) bytes t.1
text_next bytes t h = let w = texts_spelled (unspaced bytes) t.0 t.1 h in (text_token t.0, (w.0, refl), (w.1, w.2))

-- a number between two others
abbrev Between : ℕ → ℕ → List ℕ → ℕ × List ℕ → Type 0
Between least greatest bytes t = ((least ≤ t.0) × (t.0 ≤ greatest)) × IsNext (Number t.0) bytes t.1

between_next : (least greatest : ℕ) (bytes : List ℕ) (t : ℕ × List ℕ) → number_between least greatest bytes ≡ Some t → Between least greatest bytes t
unfolding number_between
between_next least greatest bytes t h =
    let s = bind_some (number_at bytes) (λ number. cond (nat_le least number.0 && nat_le number.0 greatest) (Some number) None) t h in
    let w = if_some (nat_le least s.0.0 && nat_le s.0.0 greatest) s.0 t s.2 in
    let p = and_parts (nat_le least s.0.0) (nat_le s.0.0 greatest) w.0 in
    subst (Between least greatest bytes) w.1 ((leb-true least s.0.0 p.0, leb-true s.0.0 greatest p.1), number_next bytes s.0 s.1)

pub limit_next : (bytes : List ℕ) (t : ℕ × List ℕ) → limit_at bytes ≡ Some t → IsLimit t.0 × IsNext (Number t.0) bytes t.1
limit_next = between_next 1 ask_limit

pub rounds_next : (bytes : List ℕ) (t : ℕ × List ℕ) → rounds_at bytes ≡ Some t → AreRounds t.0 × IsNext (Number t.0) bytes t.1
rounds_next = between_next 1 rounds_limit

-- a name behind `as`
pub said_next : (what bytes : List ℕ) (t : Unit {0} × List ℕ) → said what bytes ≡ Some t → IsNext (Word what) bytes t.1
unfolding said
said_next what bytes t h =
    let s = bind_some (word_at bytes) (λ word. cond (bytes_eq word.0 what) (Some (tt, word.1)) None) t h in
    let w = if_some (bytes_eq s.0.0 what) (tt, s.0.1) t s.2 in
    let last : s.0.1 ≡ t.1 = ap (λ (x : Unit {0} × List ℕ). x.1) w.1 in
    subst (λ (rest : List ℕ). IsNext (Word what) bytes rest) last (word_next what bytes s.0 s.1 w.0)

pub bound_next : (bytes : List ℕ) (t : Read) → bound_at bytes ≡ Some t → (between : List ℕ) × IsNext (Word (codes "as")) bytes between × IsNext (Name t.0) between t.1
unfolding bound_at
bound_next bytes t h =
    let s = bind_some (said (codes "as") bytes) (λ word. name_at word.1) t h in
    (s.0.1, said_next (codes "as") bytes s.0 s.1, name_next s.0.1 t s.2)

-- a number of calls, behind `after`
pub calls_next : (bytes : List ℕ) (t : ℕ × List ℕ) → calls_at bytes ≡ Some t
    → (t.0 ≤ plan_limit) × ((between : List ℕ) × IsNext (Word (codes "after")) bytes between × IsNext (Number t.0) between t.1)
unfolding calls_at
calls_next bytes t h =
    let s = bind_some (said (codes "after") bytes) (λ word. number_between 0 plan_limit word.1) t h in
    let n = between_next 0 plan_limit s.0.1 t s.2 in
    (n.0.1, (s.0.1, said_next (codes "after") bytes s.0 s.1, n.1))

pub crash_next : (bytes : List ℕ) (t : Crash × List ℕ) → crash_at bytes ≡ Some t → IsNext (Word (crash_word t.0)) bytes t.1
unfolding crash_at
crash_next bytes t h =
    let s = bind_some (word_at bytes) (λ word. crash_of word.0 >>= λ how. Some (how, word.1)) t h in
    let k = bind_some (crash_of s.0.0) (λ how. Some (how, s.0.1)) t s.2 in
    let same : (k.0, s.0.1) ≡ t = cc in
    let is = found (λ (how : Crash). bytes_eq s.0.0 (crash_word how)) (λ how. true) crashes k.0 refl k.1 in
    subst (λ (x : Crash × List ℕ). IsNext (Word (crash_word x.0)) bytes x.1) same (word_next (crash_word k.0) bytes s.0 s.1 is.0)

pub class_next : (bytes : List ℕ) (t : ℕ × List ℕ) → class_at bytes ≡ Some t → IsNext (Class t.0) bytes t.1
class_next bytes t h = classes_spelled bytes t.0 t.1 h

pub attribute_next : (bytes : List ℕ) (t : ℕ × List ℕ) → attribute_at bytes ≡ Some t → IsNext (Attribute t.0) bytes t.1
attribute_next bytes t h = attributes_spelled bytes t.0 t.1 h

pub set_next : (bytes : List ℕ) (t : Given × List ℕ) → set_at bytes ≡ Some t → IsNext (Set t.0.0 t.0.1) bytes t.1
set_next bytes t h = sets_spelled bytes t.0.0 t.0.1 t.1 h
