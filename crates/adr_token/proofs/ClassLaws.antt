-- Classes and attributes are read again by name and by number, and what is read was one of the two.
use Rattle.std.proofs.Common.{◌≡◌, ℕ, ◌<◌, ◌≤◌, ◌^◌, Bool, true, false, not, ◌&&◌, List, [], ◌∷◌, length, Option, Some, None, refl, ap, subst, ◌∙◌, inl, inr, arith}
use Rattle.std.specs.Prelude.{◌==◌, nat_le}
use Rattle.std.specs.Fmt.{decimal}
use Rattle.std.specs.List.{find, list_all}
use Rattle.std.specs.Option.{option_map, option_or}
use Rattle.std.proofs.lemmas.Bool.{and_parts, leb-true}
use Rattle.std.proofs.lemmas.Bool.Decides.{nat_tests}
use Rattle.adr_values.specs.Names.{class_name, class_number, attribute_name, attribute_number}
use Rattle.adr_values.specs.Schemas.{spoken, schema_2}
use Rattle.adr_values.specs.Table.{Class, Attribute}
use Rattle.adr_values.proofs.Apart.{attributes_told_apart, classes_told_apart}
use Rattle.adr_token.specs.Words.{strip_byte}
use Rattle.adr_token.specs.Numbers.{figure, number_of}
use Rattle.adr_token.specs.Classes.{attribute_at, attribute_of, class_at, class_of, percent_number}
use Rattle.adr_token.specs.Values.{is_equals}
use Rattle.adr_token.specs.Room.{name_room}
use Rattle.adr_token.specs.Spelling.{attribute_token, class_token, name_or_number}
use Rattle.adr_token.specs.Spelled.{SpellsAttribute, SpellsClass, SpellsNumbered}
use Rattle.adr_token.specs.SetLaws.{AreReadAgain, AreSpelled, WereSpelled}
use Rattle.adr_token.proofs.Lists.{all_more, found, mapped}
use Rattle.adr_token.proofs.DigitLaws.{digits_pass, number_again, number_was}
use Rattle.adr_token.proofs.TextLaws.{strip_byte_was}
use Rattle.adr_token.proofs.WordLaws.{are_graphic, bind_some, graphic_word, is_graphic, word_again, word_as_was}

-- bytes of a token of a class or an attribute: they are seen, and none is a `=`
abbrev pub is_numbered_byte : ℕ → Bool
is_numbered_byte b = is_graphic b && not (is_equals b)

figure_numbered : (b d : ℕ) → figure false b ≡ Some d → is_numbered_byte b ≡ true
figure_numbered b d h = grind (arith, nat_tests)

-- a name of such bytes
abbrev is_seen_name : List ℕ → Bool
is_seen_name [] = false
is_seen_name (b ∷ bs) = list_all is_numbered_byte (b ∷ bs)

seen_name : (text : List ℕ) → is_seen_name text ≡ true → (list_all is_numbered_byte text ≡ true) × (0 < length text)
seen_name [] h = absurd (cc)
seen_name (b ∷ bs) h = (h, omega arith)

-- names of numbers, and the numbers that they name; no name begins with a `%`
record IsNaming (name : ℕ → Option (List ℕ)) (number : List ℕ → Option ℕ) : Type 0 where
  named : (n : ℕ) (text : List ℕ) → name n ≡ Some text → number text ≡ Some n
  numbered : (n : ℕ) (text : List ℕ) → number text ≡ Some n → name n ≡ Some text
  unnamed : (figures : List ℕ) → number (37 ∷ figures) ≡ None
  seen : (n : ℕ) (text : List ℕ) → name n ≡ Some text → is_seen_name text ≡ true

module _ (name : ℕ → Option (List ℕ)) (number : List ℕ → Option ℕ) (is : IsNaming name number) where
  of_again : (n : ℕ) (token : List ℕ) → SpellsNumbered (name n) n token → option_or (number token) (percent_number token) ≡ Some n
  of_again n token (inl e) = rw (is.named n token e) refl
  of_again n token (inr s) = rw (s.1, is.unnamed (decimal n)) (number_again false 65535 n (omega arith) (omega arith))

  of_was_by : (n : ℕ) (token : List ℕ) (o : Option ℕ) → number token ≡ o → option_or o (percent_number token) ≡ Some n → SpellsNumbered (name n) n token
  of_was_by n token (Some m) e h = inl (is.numbered n token (e ∙ h))
  of_was_by n token None e h =
      let s = bind_some (strip_byte 37 token) (number_of false 65535) n h in
      let was = number_was false 65535 n s.0 s.2 (omega arith) in
      let small : n < 2 ^ 16 = omega arith in
      inr (small, strip_byte_was 37 token s.0 s.1 ∙ ap (λ (bs : List ℕ). 37 ∷ bs) was.0)

  of_was : (n : ℕ) (token : List ℕ) → option_or (number token) (percent_number token) ≡ Some n → SpellsNumbered (name n) n token
  of_was n token h = of_was_by n token (number token) refl h

  token_by : (n : ℕ) (token : List ℕ) (o : Option (List ℕ)) → name n ≡ o → SpellsNumbered o n token → SpellsNumbered (name n) n (name_or_number o n)
  token_by n token (Some text) e s = inl e
  token_by n token None e (inl h) = absurd (cc)
  token_by n token None e (inr s) = inr (s.0, refl)

  token_spelled : (n : ℕ) (token : List ℕ) → SpellsNumbered (name n) n token → SpellsNumbered (name n) n (name_or_number (name n) n)
  token_spelled n token s = token_by n token (name n) refl s

  bytes_seen : (n : ℕ) (token : List ℕ) → SpellsNumbered (name n) n token → (list_all is_numbered_byte token ≡ true) × (0 < length token)
  bytes_seen n token (inl e) = seen_name token (is.seen n token e)
  bytes_seen n token (inr s) = rw s.1 (digits_pass is_numbered_byte false figure_numbered n (omega arith), omega arith)

numbered_graphic : (b : ℕ) → is_numbered_byte b ≡ true → is_graphic b ≡ true
numbered_graphic b h = (and_parts (is_graphic b) (not (is_equals b)) h).0

abbrev IsSeen : List ℕ → Type 0
IsSeen token = (are_graphic token ≡ true) × (0 < length token)

graphic_from : (token : List ℕ) → (list_all is_numbered_byte token ≡ true) × (0 < length token) → IsSeen token
graphic_from token h = (all_more is_numbered_byte is_graphic numbered_graphic token h.0, h.1)

-- the names of the schema
abbrev pub class_named : Class → List ℕ
class_named c = c.name

abbrev pub attribute_named : Attribute → List ℕ
attribute_named a = a.name

pub class_told : (n : ℕ) (text : List ℕ) → class_name n ≡ Some text → class_number text ≡ Some n
class_told n text = (classes_told_apart n text).0

class_unnamed : (figures : List ℕ) → class_number (37 ∷ figures) ≡ None
unfolding schema_2
class_unnamed figures = refl

pub attribute_told : (n : ℕ) (text : List ℕ) → attribute_name n ≡ Some text → attribute_number text ≡ Some n
attribute_told n text = (attributes_told_apart n text).0

attribute_unnamed : (figures : List ℕ) → attribute_number (37 ∷ figures) ≡ None
unfolding schema_2
attribute_unnamed figures = refl

-- a name that a search finds is seen
name_seen : {A : Type 0} (name : A → List ℕ) (test : A → Bool) (xs : List A) (text : List ℕ) → list_all (λ x. is_seen_name (name x)) xs ≡ true → option_map name (find test xs) ≡ Some text
    → is_seen_name text ≡ true
name_seen name test xs text h e =
    let there = mapped name (find test xs) text e in
    subst (λ (y : List ℕ). is_seen_name y ≡ true) there.2 (found test (λ x. is_seen_name (name x)) xs there.0 h there.1).1

names_seen : (list_all (λ (c : Class). is_seen_name c.name) spoken.classes ≡ true) × (list_all (λ (a : Attribute). is_seen_name a.name) spoken.attributes ≡ true)
unfolding schema_2
names_seen = (refl, refl)

class_seen : (n : ℕ) (text : List ℕ) → class_name n ≡ Some text → is_seen_name text ≡ true
class_seen n text e = name_seen class_named (λ c. c.number == n) spoken.classes text names_seen.0 e

attribute_seen : (n : ℕ) (text : List ℕ) → attribute_name n ≡ Some text → is_seen_name text ≡ true
attribute_seen n text e = name_seen attribute_named (λ a. a.number == n) spoken.attributes text names_seen.1 e

-- a name that a search finds is short
attributes_short : list_all (λ (a : Attribute). nat_le (length a.name) 32) spoken.attributes ≡ true
unfolding schema_2
attributes_short = refl

name_short : {A : Type 0} (name : A → List ℕ) (test : A → Bool) (xs : List A) (o : Option A) → list_all (λ x. nat_le (length (name x)) 32) xs ≡ true → find test xs ≡ o → name_room (option_map name o) ≤ 32
name_short name test xs None h e = omega arith
name_short name test xs (Some x) h e = leb-true (length (name x)) 32 (found test (λ x. nat_le (length (name x)) 32) xs x h e).1

pub attribute_room : (n : ℕ) → name_room (attribute_name n) ≤ 32
attribute_room n = name_short attribute_named (λ a. a.number == n) spoken.attributes _ attributes_short refl

class_naming : IsNaming class_name class_number
class_naming = record { named = class_told; numbered = λ n text. (classes_told_apart n text).1; unnamed = class_unnamed; seen = class_seen }

attribute_naming : IsNaming attribute_name attribute_number
attribute_naming = record { named = attribute_told; numbered = λ n text. (attributes_told_apart n text).1; unnamed = attribute_unnamed; seen = attribute_seen }

-- classes
pub classes_graphic : (class : ℕ) (token : List ℕ) → SpellsClass class token → (are_graphic token ≡ true) × (0 < length token)
classes_graphic class token s = graphic_from token (bytes_seen class_name class_number class_naming class token s)

pub classes_again : AreReadAgain SpellsClass class_at
unfolding class_at
classes_again class token rest s e =
    let w = classes_graphic class token s in
    let read : class_of token ≡ Some class = of_again class_name class_number class_naming class token s in
    rw (word_again token rest (graphic_word token w.0) w.1 e, read) refl

pub classes_spelled : WereSpelled SpellsClass class_at
unfolding class_at
classes_spelled bytes class rest h =
    let s = word_as_was class_of bytes class rest h in
    (s.0, of_was class_name class_number class_naming class s.0 s.1, s.2)

pub classes_token : AreSpelled SpellsClass class_token
unfolding class_token
classes_token class token s = token_spelled class_name class_number class_naming class token s

-- attributes
pub attributes_numbered : (attr : ℕ) (token : List ℕ) → SpellsAttribute attr token → (list_all is_numbered_byte token ≡ true) × (0 < length token)
attributes_numbered attr token s = bytes_seen attribute_name attribute_number attribute_naming attr token s

pub attributes_graphic : (attr : ℕ) (token : List ℕ) → SpellsAttribute attr token → (are_graphic token ≡ true) × (0 < length token)
attributes_graphic attr token s = graphic_from token (attributes_numbered attr token s)

pub attribute_of_again : (attr : ℕ) (token : List ℕ) → SpellsAttribute attr token → attribute_of token ≡ Some attr
attribute_of_again attr token s = of_again attribute_name attribute_number attribute_naming attr token s

pub attribute_of_was : (attr : ℕ) (token : List ℕ) → attribute_of token ≡ Some attr → SpellsAttribute attr token
attribute_of_was attr token h = of_was attribute_name attribute_number attribute_naming attr token h

pub attributes_again : AreReadAgain SpellsAttribute attribute_at
unfolding attribute_at
attributes_again attr token rest s e =
    let w = attributes_graphic attr token s in
    rw (word_again token rest (graphic_word token w.0) w.1 e, attribute_of_again attr token s) refl

pub attributes_spelled : WereSpelled SpellsAttribute attribute_at
unfolding attribute_at
attributes_spelled bytes attr rest h =
    let s = word_as_was attribute_of bytes attr rest h in
    (s.0, attribute_of_was attr s.0 s.1, s.2)

pub attributes_token : AreSpelled SpellsAttribute attribute_token
unfolding attribute_token
attributes_token attr token s = token_spelled attribute_name attribute_number attribute_naming attr token s
