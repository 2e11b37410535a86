-- The laws of classes, attributes and sets: each spelling is read, what is read was spelled so, what is written is a spelling.
use Rattle.std.specs.Prelude.{◌≡◌, ℕ, List, ◌++◌, true, Some}
use Rattle.adr_values.specs.declared.content.Value.{Value as Item}
use Rattle.adr_token.specs.Gives.{Reading}
use Rattle.adr_token.specs.Values.{set_at}
use Rattle.adr_token.specs.Texts.{ends_word}
use Rattle.adr_token.specs.Laws.{Stands}
use Rattle.adr_token.specs.Spelling.{set_token}
use Rattle.adr_token.specs.Spelled.{SpellsSet}

-- numbers that tokens spell: how they are read, and how they are written
module _ (Spells : ℕ → List ℕ → Type 0) where
  abbrev pub AreReadAgain : (List ℕ → Reading ℕ) → Type 0
  AreReadAgain read = (n : ℕ) (token rest : List ℕ) → Spells n token → ends_word rest ≡ true
      → read (token ++ rest) ≡ Some (n, rest)

  abbrev pub WereSpelled : (List ℕ → Reading ℕ) → Type 0
  WereSpelled read = (bytes : List ℕ) (n : ℕ) (rest : List ℕ) → read bytes ≡ Some (n, rest)
      → (token : List ℕ) × Spells n token × Stands token bytes rest

  abbrev pub AreSpelled : (ℕ → List ℕ) → Type 0
  AreSpelled spelled = (n : ℕ) (token : List ℕ) → Spells n token → Spells n (spelled n)

abbrev pub SetsAreReadAgain : Type 0
SetsAreReadAgain = (attr : ℕ) (values : List Item) (token rest : List ℕ)
    → SpellsSet attr values token → ends_word rest ≡ true → set_at (token ++ rest) ≡ Some ((attr, values), rest)

abbrev pub SetsWereSpelled : Type 0
SetsWereSpelled = (bytes : List ℕ) (attr : ℕ) (values : List Item) (rest : List ℕ)
    → set_at bytes ≡ Some ((attr, values), rest)
    → (token : List ℕ) × SpellsSet attr values token × Stands token bytes rest

abbrev pub SetsAreSpelled : Type 0
SetsAreSpelled = (attr : ℕ) (values : List Item) (token : List ℕ)
    → SpellsSet attr values token → SpellsSet attr values (set_token attr values)
