-- What was read of a text, and what is left of it.
use Rattle.std.proofs.Common.{◌≡◌, ℕ, zero, suc, ◌+◌, ◌<◌, ◌≤◌, ◌&&◌, length, get_or, drop, List, [], ◌∷◌, ◌++◌, Bool, true, false, Some, None, refl, sym, ap, ◌∙◌, append_assoc, arith}
use Rattle.std.specs.Str.{IsUtf8, is_utf8}
use Rattle.std.proofs.lemmas.Str.{IsUtf8-from_is_utf8}
use Rattle.std.specs.Prelude.{slice_index, nat_le}
use Rattle.std.specs.List.{list_all}
use Rattle.std.proofs.lemmas.Bool.{and_parts}
use Rattle.std.proofs.lemmas.List.{append-nil, at_drop_more, drop_all}
use Rattle.std.proofs.lemmas.Bool.Decides.{nat_tests}
use Rattle.std.proofs.lemmas.Str.{IsUtf8-from_ascii}
use Rattle.adr_token.specs.Words.{is_letter, is_name_byte, is_name}
use Rattle.adr_token.specs.Gives.{Reading, with_first}
use Rattle.adr_token.specs.declared.texts.Place.{Place}
use Rattle.adr_token.specs.declared.texts.Place.TheVariants.{Plain}
use Rattle.adr_token.specs.declared.texts.Move.{Move}
use Rattle.adr_token.specs.declared.texts.Move.TheVariants.{Close, Go, Byte, Stray}
use Rattle.adr_token.specs.Texts.{follow, is_text, move, quoted}

-- a front put before what is read behind it
abbrev pub onto : {X : Type 0} → List X → Reading (List X) → Reading (List X)
onto front None = None
onto front (Some t) = Some (front ++ t.0, t.1)

pub onto_push : {X : Type 0} (front : List X) (x : X) (t : Reading (List X)) → onto (front ++ x ∷ []) t ≡ onto front (with_first x t)
onto_push {X} front x None = refl
onto_push {X} front x (Some t) = ap (λ (xs : List X). Some (xs, t.1)) (append_assoc front (x ∷ []) t.0)

-- what the byte at a place does
pub quoted_at : (place : Place) (bs : List ℕ) (i : ℕ) (moved : Move) → i < length bs → moved ≡ move place (get_or bs i 0) → quoted place (drop i bs) ≡ follow moved (drop (i + 1) bs) (λ next. quoted next (drop (i + 1) bs))
quoted_at place bs i moved h e = at_drop_more (quoted place) bs i 0 h ∙ ap (λ (m : Move). follow m (drop (i + 1) bs) (λ next. quoted next (drop (i + 1) bs))) (sym e)

-- a byte that only changes the place
pub gone_on : (text bs : List ℕ) (place next : Place) (i : ℕ) (moved : Move) → i < length bs → moved ≡ move place (get_or bs i 0) → moved ≡ Go next → onto text (quoted next (drop (i + 1) bs)) ≡ onto text (quoted place (drop i bs))
gone_on text bs place next i moved h e g = ap (onto text) (sym (quoted_at place bs i (Go next) h (sym g ∙ e)))

-- a byte that adds one
pub grown : (text bs : List ℕ) (place : Place) (byte i : ℕ) (moved : Move) → i < length bs → moved ≡ move place (get_or bs i 0) → moved ≡ Byte byte → onto (text ++ byte ∷ []) (quoted Plain (drop (i + 1) bs)) ≡ onto text (quoted place (drop i bs))
grown text bs place byte i moved h e g = onto_push text byte (quoted Plain (drop (i + 1) bs)) ∙ ap (onto text) (sym (quoted_at place bs i (Byte byte) h (sym g ∙ e)))

-- a quote ends the text
pub closed : (text bs : List ℕ) (place : Place) (i : ℕ) (moved : Move) (all : Reading (List ℕ)) → i < length bs → moved ≡ move place (get_or bs i 0) → moved ≡ Close → onto text (quoted place (drop i bs)) ≡ all → all ≡ Some (text, drop (i + 1) bs)
closed text bs place i moved all h e g same = sym same ∙ ap (onto text) (quoted_at place bs i Close h (sym g ∙ e)) ∙ ap (λ (xs : List ℕ). Some (xs, drop (i + 1) bs)) (append-nil text)

-- a stray byte leaves no text
pub strayed : (text bs : List ℕ) (place : Place) (i : ℕ) (moved : Move) (all : Reading (List ℕ)) → i < length bs → moved ≡ move place (get_or bs i 0) → moved ≡ Stray → onto text (quoted place (drop i bs)) ≡ all → all ≡ None
strayed text bs place i moved all h e g same = sym same ∙ ap (onto text) (quoted_at place bs i Stray h (sym g ∙ e))

-- nor is there one without a closing quote
pub unclosed : (text bs : List ℕ) (place : Place) (i : ℕ) (all : Reading (List ℕ)) → length bs ≤ i → onto text (quoted place (drop i bs)) ≡ all → all ≡ None
unclosed text bs place i all past same = sym same ∙ ap (λ (left : List ℕ). onto text (quoted place left)) (drop_all i bs past)

-- a test that doesn't hold fails
fails : (b : Bool) → (b ≡ true → ⊥) → b ≡ false
fails true h = absurd (h refl)
fails false h = refl

pub not_utf8 : (bs : List ℕ) → (IsUtf8 bs → ⊥) → is_utf8 bs ≡ false
not_utf8 bs h = fails (is_utf8 bs) (λ e. h (IsUtf8-from_is_utf8 bs e))

-- a text that the language has room for
pub fits : (bs : List ℕ) → length bs ≤ 65535 → is_utf8 bs ≡ true → is_text bs ≡ true
fits bs small u = rw u (grind (arith, nat_tests))

neither : (b : Bool) → (b && false) ≡ false
neither true = refl
neither false = refl

pub unfit : (bs : List ℕ) → is_utf8 bs ≡ false → is_text bs ≡ false
unfit bs u = rw u (neither (nat_le (length bs) 65535))

-- names are ASCII
name_byte_ascii : (b : ℕ) → is_name_byte b ≡ true → b < 128
name_byte_ascii b h = grind (arith, nat_tests)

letter_ascii : (b : ℕ) → is_letter b ≡ true → b < 128
letter_ascii b h = grind (arith, nat_tests)

names_ascii : (bs : List ℕ) → list_all is_name_byte bs ≡ true → (i : ℕ) → slice_index bs i < 128
names_ascii [] h i = omega arith
names_ascii (b ∷ bs) h zero = name_byte_ascii b (and_parts _ _ h).0
names_ascii (b ∷ bs) h (suc i) = names_ascii bs (and_parts _ _ h).1 i

name_ascii : (word : List ℕ) → is_name word ≡ true → (i : ℕ) → slice_index word i < 128
name_ascii [] h i = omega arith
name_ascii (b ∷ bs) h zero = letter_ascii b (and_parts _ _ (and_parts _ _ h).0).0
name_ascii (b ∷ bs) h (suc i) = names_ascii bs (and_parts _ _ h).1 i

pub name_utf8 : (word : List ℕ) → is_name word ≡ true → IsUtf8 word
name_utf8 word h = IsUtf8-from_ascii word (name_ascii word h)
