-- The parser of the words, as `clap` sees it: a command with a subcommand for each entry of the table.
use Rattle.std.specs.Prelude.{ℕ, List, [], true, false, fold, map, codes}
use Rattle.clap.specs.Words.{App, Rule, Shape, new_rule, with_subcommand}
use Rattle.clap.specs.Simple.{new_shape}
use Rattle.adr_words.specs.declared.parser.Subcommand.{Subcommand}
use Rattle.adr_words.specs.Commands.{COUNT, DSA, Entry, Form, N, NAME, PORT, commands}

-- the identifier of an argument
abbrev pub id_of : Form → List ℕ
id_of NAME = codes "NAME"
id_of DSA = codes "DSA"
id_of PORT = codes "PORT"
id_of COUNT = codes "COUNT"
id_of N = codes "N"

-- an argument that stands at its place, and has to be there
abbrev pub argument : List ℕ → Rule
argument id = record (new_rule id) { required = true }

abbrev pub leaf : List ℕ → List (List ℕ) → Shape
leaf word ids = record (new_shape word) { rules = map argument ids }

abbrev pub with_leaf : App → List ℕ → List (List ℕ) → App
with_leaf parser word ids = with_subcommand parser (leaf word ids)

abbrev pub with_leaves : App → List Subcommand → App
with_leaves parser leaves = fold (λ p l. with_leaf p l.word.now (map (λ id. id.now) l.ids.now)) parser leaves

-- no flag, no command but those of the table, and one of these is wanted
abbrev pub top : Shape
top = record (new_shape (codes "adrep")) {
  is_leaf = false;
  no_binary_name = true;
  disable_help_flag = true;
  disable_help_subcommand = true;
  subcommand_required = true;
}

abbrev pub entry_leaf : Entry → Shape
entry_leaf e = leaf e.word (map id_of e.forms)

unfoldable pub parser : App
parser = record { top = top; subs = map entry_leaf commands }

-- the same, with no subcommand yet
abbrev pub bare : App
bare = record { top = record top { is_leaf = true }; subs = [] }
