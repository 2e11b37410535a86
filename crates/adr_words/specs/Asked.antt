-- What the matches of the parser ask for. The contract of the crate doesn't speak of it.
use Rattle.std.specs.Prelude.{ℕ, List, [], ◌∷◌, Bool, false, not, ◌&&◌, ◌==◌, nat_le, if◌then◌else◌, Option, Some, None}
use Rattle.std.specs.List.{list_all}
use Rattle.adr_token.specs.Gives.{◌>>=◌}
use Rattle.clap.specs.Words.{Row, first_of}
use Rattle.adr_token.specs.Words.{is_space}
use Rattle.adr_words.specs.declared.kinds.Command.{Command}
use Rattle.adr_words.specs.Commands.{Form, Makes, Value, entry_of, number_within, value_of}
use Rattle.adr_words.specs.Parser.{id_of}

-- the value that the rows give for an argument
abbrev pub given : (form : Form) → List Row → Option (Value form)
given form rows = first_of (id_of form) rows >>= value_of form

-- the number, from 1, that a word is, where one is given
abbrev pub number_given : ℕ → Option (List ℕ) → Option ℕ
number_given most o = o >>= number_within 1 most

abbrev pub asked_by : (forms : List Form) → Makes forms → List Row → Option Command
asked_by [] command rows = Some command
asked_by (form ∷ forms) make rows = given form rows >>= λ value. asked_by forms (make value) rows

-- what a subcommand and its rows ask for
abbrev pub asked_of : List ℕ → List Row → Option Command
asked_of word rows = entry_of word >>= λ e. asked_by e.forms e.makes rows

abbrev pub asked : Option (List ℕ × List Row) → Option Command
asked None = None
asked (Some p) = asked_of p.0 p.1

-- the bytes stand in a line as one word: they have no space
abbrev pub is_one_word : List ℕ → Bool
is_one_word bytes = list_all (λ b. not (is_space b)) bytes

-- the word begins with a hyphen
abbrev pub is_flag : List ℕ → Bool
is_flag [] = false
is_flag (b ∷ bs) = b == 45

-- the number, if it is between the two
abbrev pub within : ℕ → ℕ → ℕ → Option ℕ
within least most n = if nat_le least n && nat_le n most then Some n else None
