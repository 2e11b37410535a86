-- What is written for a class or an attribute tells its number.
use Rattle.std.proofs.Common.{◌≡◌, ℕ, ◌<◌, ◌^◌, Bool, true, not, ◌&&◌, List, [], ◌∷◌, ◌++◌, Option, Some, None, refl, sym, subst, arith}
use Rattle.std.specs.Prelude.{◌==◌, nat_le, nat_lt, IsSome}
use Rattle.std.specs.List.{list_all, find}
use Rattle.std.specs.Option.{option_map}
use Rattle.std.specs.Fmt.{decimal}
use Rattle.std.proofs.lemmas.Bool.{and_parts, eqb-true, ltb-true}
use Rattle.std.proofs.lemmas.Bool.Decides.{nat_tests}
use Rattle.std.proofs.lemmas.Fmt.{decimal_injective}
use Rattle.adr_values.specs.Names.{class_name, class_number, attribute_name, attribute_number}
use Rattle.adr_values.specs.Schemas.{newest, schema_2, spoken}
use Rattle.adr_values.specs.Table.{Class, Attribute, attribute_at, class_at, is_link, kind_at}
use Rattle.adr_token.specs.Spelling.{name_or_number, class_token, attribute_token}
use Rattle.adr_token.proofs.ClassLaws.{class_named, class_told, attribute_named, attribute_told}
use Rattle.adr_token.proofs.Lists.{all_more, found, mapped}
use Rattle.adr_answers.proofs.Prefixes.{ends, words_divide}
use Rattle.adr_answers.proofs.Tokens.{is_figure, decimal_figures}

-- the bytes of names and of numbers behind a `%`: no space, line feed or `=`
abbrev pub is_word : ℕ → Bool
is_word b = nat_le 37 b && not (b == 61)

-- a name of such bytes, that is none of the written numbers
abbrev is_plain : List ℕ → Bool
is_plain [] = true
is_plain (b ∷ bs) = not (b == 37) && list_all is_word (b ∷ bs)

plain_words : (text : List ℕ) → is_plain text ≡ true → list_all is_word text ≡ true
plain_words [] h = refl
plain_words (b ∷ bs) h = (and_parts (not (b == 37)) (list_all is_word (b ∷ bs)) h).1

plain_first : (text number : List ℕ) → is_plain text ≡ true → text ≡ 37 ∷ number → ⊥
plain_first text number h e =
    let plain : is_plain (37 ∷ number) ≡ true = subst (λ (x : List ℕ). is_plain x ≡ true) e h in
    cc

figure_word : (b : ℕ) → is_figure b ≡ true → is_word b ≡ true
figure_word b h = grind (arith, nat_tests)

found_plain : {A : Type 0} (name : A → List ℕ) (test : A → Bool) (xs : List A) (text : List ℕ) → list_all (λ x. is_plain (name x)) xs ≡ true → option_map name (find test xs) ≡ Some text → is_plain text ≡ true
found_plain name test xs text h e =
    let there = mapped name (find test xs) text e in
    subst (λ (y : List ℕ). is_plain y ≡ true) there.2 (found test (λ x. is_plain (name x)) xs there.0 h there.1).1

-- numbers with names that are read back
module _ (name : ℕ → Option (List ℕ)) (number : List ℕ → Option ℕ)
    (again : (n : ℕ) (text : List ℕ) → name n ≡ Some text → number text ≡ Some n)
    (plain : (n : ℕ) (text : List ℕ) → name n ≡ Some text → is_plain text ≡ true) where
  words : (n : ℕ) (o : Option (List ℕ)) → name n ≡ o → list_all is_word (name_or_number o n) ≡ true
  words n None e = all_more is_figure is_word figure_word (decimal n) (decimal_figures n)
  words n (Some text) e = plain_words text (plain n text e)

  same : (m n : ℕ) (o p : Option (List ℕ)) → name m ≡ o → name n ≡ p → m < 2 ^ 64 → n < 2 ^ 64 → name_or_number o m ≡ name_or_number p n → m ≡ n
  same m n None None a b hm hn e =
      let figures : decimal m ≡ decimal n = cc in
      decimal_injective m n hm hn figures
  same m n None (Some text) a b hm hn e = absurd (plain_first text (decimal m) (plain n text b) (sym e))
  same m n (Some text) None a b hm hn e = absurd (plain_first text (decimal n) (plain m text a) e)
  same m n (Some text) (Some other) a b hm hn e =
      let first : number text ≡ Some m = again m text a in
      let second : number other ≡ Some n = again n other b in
      cc

  names_divide : (m n : ℕ) (r s : List ℕ) → m < 2 ^ 64 → n < 2 ^ 64 → ends is_word r ≡ true → ends is_word s ≡ true → name_or_number (name m) m ++ r ≡ name_or_number (name n) n ++ s → (m ≡ n) × (r ≡ s)
  names_divide m n r s hm hn er es e =
      let d = words_divide is_word (name_or_number (name m) m) (name_or_number (name n) n) r s (words m (name m) refl) (words n (name n) refl) er es e in
      (same m n (name m) (name n) refl refl hm hn d.0, d.1)

classes_plain : list_all (λ (c : Class). is_plain c.name) spoken.classes ≡ true
unfolding schema_2
classes_plain = refl

attributes_plain : list_all (λ (a : Attribute). is_plain a.name) spoken.attributes ≡ true
unfolding schema_2
attributes_plain = refl

pub classes_divide : (m n : ℕ) (r s : List ℕ) → m < 2 ^ 64 → n < 2 ^ 64 → ends is_word r ≡ true → ends is_word s ≡ true → class_token m ++ r ≡ class_token n ++ s → (m ≡ n) × (r ≡ s)
unfolding class_token
classes_divide = names_divide class_name class_number class_told (λ n text e. found_plain class_named (λ c. c.number == n) spoken.classes text classes_plain e)

pub attributes_divide : (m n : ℕ) (r s : List ℕ) → m < 2 ^ 64 → n < 2 ^ 64 → ends is_word r ≡ true → ends is_word s ≡ true → attribute_token m ++ r ≡ attribute_token n ++ s → (m ≡ n) × (r ≡ s)
unfolding attribute_token
attributes_divide = names_divide attribute_name attribute_number attribute_told (λ n text e. found_plain attribute_named (λ a. a.number == n) spoken.attributes text attributes_plain e)

-- the numbers of a schema are small
is_small : ℕ → Bool
is_small n = nat_lt n 18446744073709551616

small : (n m : ℕ) → is_small m ≡ true → (m == n) ≡ true → n < 2 ^ 64
unfolding is_small
small n m h e =
    let same = eqb-true m n e in
    let below = ltb-true m 18446744073709551616 h in
    omega arith

attributes_small : list_all (λ (a : Attribute). is_small a.number) newest.attributes ≡ true
unfolding is_small schema_2
attributes_small = refl

classes_small : list_all (λ (c : Class). is_small c.number) newest.classes ≡ true
unfolding is_small schema_2
classes_small = refl

pub attribute_small : (n : ℕ) (a : Attribute) → attribute_at newest n ≡ Some a → n < 2 ^ 64
attribute_small n a e =
    let there = found (λ (x : Attribute). x.number == n) (λ (x : Attribute). is_small x.number) newest.attributes a attributes_small e in
    small n a.number there.1 there.0

class_small_at : (n : ℕ) (o : Option Class) → class_at newest n ≡ o → IsSome o → n < 2 ^ 64
class_small_at n None e there = absurd (cc)
class_small_at n (Some c) e there =
    let is = found (λ (x : Class). x.number == n) (λ (x : Class). is_small x.number) newest.classes c classes_small e in
    small n c.number is.1 is.0

pub class_small : (n : ℕ) → IsSome (class_at newest n) → n < 2 ^ 64
class_small n there = class_small_at n (class_at newest n) refl there

link_small_at : (n : ℕ) (o : Option Attribute) → attribute_at newest n ≡ o → is_link (option_map (λ (a : Attribute). a.kind) o) ≡ true → n < 2 ^ 64
link_small_at n None e h = absurd (cc)
link_small_at n (Some a) e h = attribute_small n a e

pub link_small : (n : ℕ) → is_link (kind_at newest n) ≡ true → n < 2 ^ 64
link_small n h = link_small_at n (attribute_at newest n) refl h
