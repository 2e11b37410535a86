-- The kinds of what stands in a line, how each is read, and the form of a line: its kinds, one after the other, and the event that it says.
use Rattle.std.specs.Prelude.{ℕ, List, [], ◌∷◌, ◌&&◌, ◌==◌, nat_le, if◌then◌else◌, length, Option, Some, None, codes}
use Rattle.std.specs.Option.{option_map}
use Rattle.adr_disk.specs.declared.memory.Crash.{Crash}
use Rattle.adr_values.specs.Assignments.{Given}
use Rattle.adr_call.specs.declared.event.Event.{Event}
use Rattle.adr_token.specs.Gives.{Reading, ◌>>=◌}
use Rattle.adr_token.specs.Words.{unspaced, ended, said, word_at, name_at}
use Rattle.adr_token.specs.Numbers.{number_at}
use Rattle.adr_token.specs.Identifiers.{identifier_at}
use Rattle.adr_token.specs.Classes.{attribute_at, class_at}
use Rattle.adr_token.specs.Texts.{text_at}
use Rattle.adr_schedule.specs.Limits.{ask_limit, plan_limit, rounds_limit}
use Rattle.adr_schedule.specs.Crashes.{crash_of}
use Rattle.adr_schedule.specs.Members.{names_at}
use Rattle.adr_schedule.specs.Sets.{sets_at}

-- ---- how a kind is read, where it is more than a token

-- NUM, between a least and a greatest one
unfoldable pub number_between : ℕ → ℕ → List ℕ → Reading ℕ
number_between least greatest bytes = do
  number ← number_at bytes
  if nat_le least number.0 && nat_le number.0 greatest then Some number else None

-- MAX: how many items are asked for
abbrev pub limit_at : List ℕ → Reading ℕ
limit_at bytes = number_between 1 ask_limit bytes

-- how many rounds
abbrev pub rounds_at : List ℕ → Reading ℕ
rounds_at bytes = number_between 1 rounds_limit bytes

-- as NAME
unfoldable pub bound_at : List ℕ → Reading (List ℕ)
bound_at bytes = do
  word ← said (codes "as") bytes
  name_at word.1

-- after NUM: how many device calls a plan lets pass
unfoldable pub calls_at : List ℕ → Reading ℕ
calls_at bytes = do
  word ← said (codes "after") bytes
  number_between 0 plan_limit word.1

-- HOW
unfoldable pub crash_at : List ℕ → Reading Crash
crash_at bytes = do
  word ← word_at bytes
  how ← crash_of word.0
  Some (how, word.1)

-- the version of a request: `v1` says the first, and where nothing is left it is the second
abbrev pub first_version : List ℕ → Reading ℕ
first_version bytes = do
  word ← said (codes "v1") bytes
  Some (1, word.1)

unfoldable pub version_at : List ℕ → Reading ℕ
version_at bytes = if length (unspaced bytes) == 0 then Some (2, bytes) else first_version bytes

-- after NUM HOW
abbrev pub planned_at : List ℕ → Reading (Option (ℕ × Crash))
planned_at bytes = do
  calls ← calls_at bytes
  how ← crash_at calls.1
  Some (Some (calls.0, how.0), how.1)

-- a plan, where something is left
abbrev pub plan_at : List ℕ → Reading (Option (ℕ × Crash))
plan_at bytes = if length (unspaced bytes) == 0 then Some (None, bytes) else planned_at bytes

-- NAME NAME.., to the end: the first name and the others, each once
abbrev pub members_at : List ℕ → Reading (List ℕ × List (List ℕ))
members_at bytes = do
  name ← name_at bytes
  others ← names_at name.0 name.1
  if length others == 0 then None else Some ((name.0, others), [])

-- one set or more, to the end
abbrev pub some_sets_at : List ℕ → Reading (List Given)
some_sets_at bytes = do
  values ← sets_at bytes
  if length values == 0 then None else Some (values, [])

-- ---- kinds

pub data Kind : Type 0 where
  Name : Kind
  Number : Kind
  Identifier : Kind
  Class : Kind
  Attribute : Kind
  Quoted : Kind
  Limit : Kind
  Rounds : Kind
  Bound : Kind
  After : Kind
  Version : Kind
  Plan : Kind
  Members : Kind
  Sets : Kind
  SomeSets : Kind

-- what is read of a kind
abbrev pub Of : Kind → Type 0
Of Name = List ℕ
Of Number = ℕ
Of Identifier = List ℕ
Of Class = ℕ
Of Attribute = ℕ
Of Quoted = List ℕ
Of Limit = ℕ
Of Rounds = ℕ
Of Bound = List ℕ
Of After = ℕ
Of Version = ℕ
Of Plan = Option (ℕ × Crash)
Of Members = List ℕ × List (List ℕ)
Of Sets = List Given
Of SomeSets = List Given

abbrev pub kind_at : (kind : Kind) → List ℕ → Reading (Of kind)
kind_at Name bytes = name_at bytes
kind_at Number bytes = number_at bytes
kind_at Identifier bytes = identifier_at bytes
kind_at Class bytes = class_at bytes
kind_at Attribute bytes = attribute_at bytes
kind_at Quoted bytes = text_at (unspaced bytes)
kind_at Limit bytes = limit_at bytes
kind_at Rounds bytes = rounds_at bytes
kind_at Bound bytes = bound_at bytes
kind_at After bytes = calls_at bytes
kind_at Version bytes = version_at bytes
kind_at Plan bytes = plan_at bytes
kind_at Members bytes = members_at bytes
kind_at Sets bytes = option_map (λ values. (values, [])) (sets_at bytes)
kind_at SomeSets bytes = some_sets_at bytes

-- ---- forms

-- what is read of kinds, one after the other
abbrev pub Read : List Kind → Type 0
Read [] = Unit {0}
Read (kind ∷ kinds) = Of kind × Read kinds

-- what is made of what is read, to the end of the line
abbrev pub made_of : (kinds : List Kind) → (Read kinds → Event) → List ℕ → Option Event
made_of [] make bytes = ended bytes (make tt)
made_of (kind ∷ kinds) make bytes = kind_at kind bytes >>= λ part. made_of kinds (λ more. make (part.0, more)) part.1

-- the form of a line behind its verb
pub record Form : Type 0 where
  pub kinds : List Kind
  pub make : Read kinds → Event

-- the event that a line of a form says
unfoldable pub line_by : Form → List ℕ → Option Event
line_by form bytes = made_of form.kinds form.make bytes
