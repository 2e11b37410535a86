-- The words of the command line, and the commands that they are.
use Rattle.std.specs.Prelude.{ℕ, List, [], ◌∷◌, false, nat_le, if◌then◌else◌, Option, Some, None, codes}
use Rattle.std.specs.List.{find}
use Rattle.std.specs.Str.{bytes_eq}
use Rattle.adr_token.specs.Gives.{◌>>=◌}
use Rattle.adr_token.specs.Identifiers.{identifier_of}
use Rattle.adr_token.specs.Numbers.{number_of}
use Rattle.adr_token.specs.Words.{is_name}
use Rattle.adr_words.specs.declared.kinds.Command.{Command}
use Rattle.adr_words.specs.declared.kinds.Command.TheVariants.{Replay, Exercise, OnDisk, Serve, Pull, Send}
use Rattle.adr_words.specs.declared.kinds.DiskCommand.TheVariants.{Create, Install, Restore, Backup, Show, Export}

-- what a command asks of a word, as the usage line names it
pub data Form : Type 0 where
  NAME : Form
  DSA : Form
  PORT : Form
  COUNT : Form
  N : Form

-- what a word of the form stands for: a name, an identifier or a number
abbrev pub Value : Form → Type 0
Value NAME = List ℕ
Value DSA = List ℕ
Value PORT = ℕ
Value COUNT = ℕ
Value N = ℕ

-- a decimal number between two
abbrev pub number_within : ℕ → ℕ → List ℕ → Option ℕ
number_within least most word = number_of false most word >>= λ n. if nat_le least n then Some n else None

abbrev pub name_of : List ℕ → Option (List ℕ)
name_of word = if is_name word then Some word else None

abbrev pub value_of : (form : Form) → List ℕ → Option (Value form)
value_of NAME word = name_of word
value_of DSA word = identifier_of word
value_of PORT word = number_within 1 65535 word
value_of COUNT word = number_within 1 1000 word
value_of N word = number_within 1 1000 word

-- a command, as a function of its values
abbrev pub Makes : List Form → Type 0
Makes [] = Command
Makes (form ∷ forms) = Value form → Makes forms

pub record Entry : Type 0 where
  pub word : List ℕ
  pub forms : List Form
  pub makes : Makes forms

-- each command: its word, the forms of the words behind it, and what they make
abbrev pub commands : List Entry
commands =
    record { word = codes "replay"; forms = []; makes = Replay }
    ∷ record { word = codes "exercise"; forms = N ∷ []; makes = Exercise }
    ∷ record { word = codes "create"; forms = NAME ∷ []; makes = λ name. OnDisk (Create name) }
    ∷ record { word = codes "install"; forms = NAME ∷ []; makes = λ name. OnDisk (Install name) }
    ∷ record { word = codes "restore"; forms = NAME ∷ DSA ∷ []; makes = λ name dsa. OnDisk (Restore name dsa) }
    ∷ record { word = codes "backup"; forms = NAME ∷ []; makes = λ name. OnDisk (Backup name) }
    ∷ record { word = codes "show"; forms = NAME ∷ []; makes = λ name. OnDisk (Show name) }
    ∷ record { word = codes "export"; forms = NAME ∷ []; makes = λ name. OnDisk (Export name) }
    ∷ record { word = codes "serve"; forms = NAME ∷ PORT ∷ COUNT ∷ []; makes = Serve }
    ∷ record { word = codes "pull"; forms = NAME ∷ PORT ∷ []; makes = Pull }
    ∷ record { word = codes "send"; forms = PORT ∷ []; makes = Send }
    ∷ []

-- what just these words make
abbrev pub made : (forms : List Form) → Makes forms → List (List ℕ) → Option Command
made [] command [] = Some command
made [] command (word ∷ words) = None
made (form ∷ forms) make [] = None
made (form ∷ forms) make (word ∷ words) = value_of form word >>= λ value. made forms (make value) words

abbrev pub entry_of : List ℕ → Option Entry
entry_of word = find (λ e. bytes_eq word e.word) commands

-- the command of a command line, if it is one
unfoldable pub command_of : List (List ℕ) → Option Command
command_of [] = None
command_of (word ∷ words) = entry_of word >>= λ e. made e.forms e.makes words
