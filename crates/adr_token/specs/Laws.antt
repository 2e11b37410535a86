-- The laws of the tokens: what is spelled is read again, and what is read was spelled so.
use Rattle.std.specs.Prelude.{◌≡◌, ◌⊎◌, ℕ, List, ◌++◌, ◌<◌, ◌^◌, length, All, true, Some, codes}
use Rattle.std.specs.Fmt.{decimal}
use Rattle.uuid.specs.Text.{hyphenated_text, lower}
use Rattle.adr_token.specs.Words.{unspaced, is_name, name_at}
use Rattle.adr_token.specs.Numbers.{number_at}
use Rattle.adr_token.specs.Identifiers.{identifier_at}
use Rattle.adr_token.specs.Texts.{ends_word, is_text, text_at}
use Rattle.adr_token.specs.Spelling.{identifier_token, text_token}

-- behind some spaces a token stands, and after it the end or a space
abbrev pub Stands : List ℕ → List ℕ → List ℕ → Type 0
Stands token bytes rest = (unspaced bytes ≡ token ++ rest) × (ends_word rest ≡ true)

abbrev pub NamesAreReadAgain : Type 0
NamesAreReadAgain = (name rest : List ℕ) → is_name name ≡ true → ends_word rest ≡ true → name_at (name ++ rest) ≡ Some (name, rest)

abbrev pub NamesWereSpelled : Type 0
NamesWereSpelled = (bytes name rest : List ℕ) → name_at bytes ≡ Some (name, rest) → (is_name name ≡ true) × Stands name bytes rest

abbrev pub NumbersAreReadAgain : Type 0
NumbersAreReadAgain = (n : ℕ) (rest : List ℕ) → n < 2 ^ 64 → ends_word rest ≡ true → number_at (decimal n ++ rest) ≡ Some (n, rest)

abbrev pub NumbersWereSpelled : Type 0
NumbersWereSpelled = (bytes : List ℕ) (n : ℕ) (rest : List ℕ) → number_at bytes ≡ Some (n, rest) → (n < 2 ^ 64) × Stands (decimal n) bytes rest

-- sixteen bytes
abbrev pub IsIdentifier : List ℕ → Type 0
IsIdentifier id = (length id ≡ 16) × All (λ b. b < 256) id

-- the full form, which every identifier may be written in
abbrev pub full_token : List ℕ → List ℕ
full_token id = codes "#" ++ hyphenated_text lower id

abbrev pub IdentifiersAreReadAgain : Type 0
IdentifiersAreReadAgain = (id rest : List ℕ) → IsIdentifier id → ends_word rest ≡ true
    → (identifier_at (identifier_token id ++ rest) ≡ Some (id, rest)) × (identifier_at (full_token id ++ rest) ≡ Some (id, rest))

abbrev pub IdentifiersWereSpelled : Type 0
IdentifiersWereSpelled = (bytes id rest : List ℕ) → identifier_at bytes ≡ Some (id, rest)
    → IsIdentifier id × (Stands (identifier_token id) bytes rest ⊎ Stands (full_token id) bytes rest)

abbrev pub TextsAreReadAgain : Type 0
TextsAreReadAgain = (text rest : List ℕ) → is_text text ≡ true → ends_word rest ≡ true → text_at (text_token text ++ rest) ≡ Some (text, rest)

abbrev pub TextsWereSpelled : Type 0
TextsWereSpelled = (bytes text rest : List ℕ) → text_at bytes ≡ Some (text, rest)
    → (is_text text ≡ true) × (bytes ≡ text_token text ++ rest) × (ends_word rest ≡ true)
