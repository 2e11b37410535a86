-- What a line that asks for a search says: `search NAME ID SCOPE TEXT`, and in a session the same without the name.
use Rattle.std.specs.Prelude.{ℕ, List, Option, Some, None, if◌then◌else◌, codes}
use Rattle.std.specs.Str.{bytes_eq}
use Rattle.adr_token.specs.Gives.{Reading, ◌>>=◌}
use Rattle.adr_token.specs.Identifiers.{identifier_at}
use Rattle.adr_token.specs.Texts.{text_at}
use Rattle.adr_token.specs.Words.{ended, name_at, unspaced, word_as}
use Rattle.adr_filter.specs.declared.filter.Scope.{Scope}
use Rattle.adr_filter.specs.declared.filter.Scope.TheVariants.{Base, One, Sub}
use Rattle.adr_search.specs.declared.line.Asking.{Asking}

-- the word of a scope
abbrev pub word_of : Scope → List ℕ
word_of Base = codes "base"
word_of One = codes "one"
word_of Sub = codes "sub"

abbrev pub scope_of : List ℕ → Option Scope
scope_of word =
    if bytes_eq word (word_of Base) then Some Base
    else if bytes_eq word (word_of One) then Some One
    else if bytes_eq word (word_of Sub) then Some Sub
    else None

unfoldable pub scope_at : List ℕ → Reading Scope
scope_at bytes = word_as scope_of bytes

-- ID SCOPE TEXT
unfoldable pub asking_at : List ℕ → Reading Asking
asking_at bytes = do
  base ← identifier_at bytes
  scope ← scope_at base.1
  text ← text_at (unspaced scope.1)
  Some (record { base = base.0; scope = scope.0; text = text.0 }, text.1)

-- ID SCOPE TEXT, behind `search` in a session
unfoldable pub session_line : List ℕ → Option Asking
session_line bytes = do
  asking ← asking_at bytes
  ended asking.1 asking.0

-- NAME ID SCOPE TEXT, behind `search` in a schedule
unfoldable pub search_line : List ℕ → Option (List ℕ × Asking)
search_line bytes = do
  name ← name_at bytes
  asking ← asking_at name.1
  ended asking.1 (name.0, asking.0)
