-- How much room the line of an answer takes, and where its sink may want memory.
use Rattle.std.specs.Prelude.{◌≡◌, ◌⊎◌, ℕ, ◌+◌, ◌-◌, ◌^◌, ◌≤◌, length}
use Rattle.std.specs.List.{sum_by}
use Rattle.adr_call.specs.declared.answer.Answer.{Answer}
use Rattle.adr_call.specs.declared.outcome.Field.{Field}
use Rattle.adr_call.specs.declared.outcome.Plainly.{Plainly}
use Rattle.adr_call.specs.declared.outcome.Plainly.TheVariants.{Word}
use Rattle.adr_call.specs.declared.outcome.Outcome.{Outcome}
use Rattle.adr_call.specs.declared.outcome.Outcome.TheVariants.{Show, Vector, Marks, Meta, Refused}

-- the most that a value of a refusal takes; a mark takes three numbers of at most twenty figures
abbrev pub plain_room : Plainly → ℕ
plain_room (Word word) = length word
plain_room _ = 62

abbrev pub field_room : Field → ℕ
field_room f = length f.name + plain_room f.value + 2

-- the most that stands behind the colon of an answer's line
abbrev pub result_room : Outcome → ℕ
result_room (Refused number label fields) = 29 + length label + sum_by field_room fields
result_room _ = 200

-- no lines stand behind the answer's own
abbrev pub HasNoReport : Outcome → Type 0
HasNoReport (Show entries) = ⊥
HasNoReport (Vector vector times) = ⊥
HasNoReport (Marks marks) = ⊥
HasNoReport (Meta lines) = ⊥
HasNoReport _ = Unit {0}

-- the most that the answer's own line takes
abbrev pub line_room : Answer → ℕ
line_room a = length a.verb + length a.name + result_room a.outcome + 4

-- so much room is enough for the line of an answer that is no report
pub record IsWithin (room : ℕ) (a : Answer) : Type 0 where
  pub alone : HasNoReport a.outcome
  pub enough : line_room a ≤ room

-- a sink may want memory itself: such sinks may keep bytes, or one more failure can't be counted
abbrev pub MayWant : {K : Type 0} → (K → Type 0) → ℕ → Type 0
MayWant {K = K} keeps faults = ((sink : K) × keeps sink) ⊎ (faults ≡ 2 ^ 64 - 1)
