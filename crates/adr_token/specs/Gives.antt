-- Reading from the front of a line: a value and the bytes after it, or nothing where the line doesn't begin so.
use Rattle.std.specs.Prelude.{◌≡◌, ℕ, List, ◌∷◌, Option, Some, None, Result, Ok, Err}
use Rattle.adr_values.specs.declared.failure.Failure.{Failure}
use Rattle.adr_values.specs.declared.failure.Failure.TheVariants.{Refused, NoMemory}
use Rattle.adr_token.specs.declared.stop.Bad.{Bad}

-- what stands at the front of some bytes, and what follows it
abbrev pub Reading : Type 0 → Type 0
Reading Y = Option (Y × List ℕ)

-- an element before those that are read
abbrev pub with_first : {X : Type 0} → X → Reading (List X) → Reading (List X)
with_first x None = None
with_first x (Some t) = Some (x ∷ t.0, t.1)

infixl 10 ◌>>=◌
abbrev pub ◌>>=◌ : {A B : Type 0} → Option A → (A → Option B) → Option B
(Some x) >>= f = f x
None >>= f = None

-- what a reader says where no such token stands
abbrev pub bad : Failure Bad
bad = Refused (record {})

-- what a stopped reader says of the reading: that there is none, unless memory ran out
abbrev pub Stops : {Y : Type 0} → Failure Bad → Option Y → Type 0
Stops NoMemory reading = Unit {0}
Stops (Refused told) reading = reading ≡ None

-- What a reader returned and left is the reading, unless memory ran out.
abbrev pub Gives : {Y : Type 0} → Result Y (Failure Bad) → List ℕ → Reading Y → Type 0
Gives (Ok y) rest reading = reading ≡ Some (y, rest)
Gives (Err stop) rest reading = Stops stop reading

-- What a function returned is the answer, unless memory ran out.
abbrev pub Answers : {Y : Type 0} → Result Y (Failure Bad) → Option Y → Type 0
Answers (Ok y) answer = answer ≡ Some y
Answers (Err stop) answer = Stops stop answer
