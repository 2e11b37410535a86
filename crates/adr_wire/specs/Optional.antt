-- What may be there or not: a flag, and where it is 1 the value.
use Rattle.std.specs.Prelude.{if◌then◌else◌, ℕ, List, [], ◌++◌, Bool, Option, None, Some, is_some, Ok, ⊤}
use Rattle.adr_wire.specs.Fields.{flag_at, flag}
use Rattle.adr_wire.specs.Reading.{Reading, ◌>>=◌, as_at}

abbrev pub behind_flag : {A : Type 0} → Reading A → Bool → Reading (Option A)
behind_flag a there = if there then as_at Some a else λ behind. Ok (None, behind)

unfoldable pub if_there_at : {A : Type 0} → Reading A → Reading (Option A)
if_there_at a rest = flag_at rest >>= λ there. behind_flag a there.0 there.1

abbrev pub told_if : {A : Type 0} → (A → List ℕ) → Option A → List ℕ
told_if s None = []
told_if s (Some x) = s x

abbrev pub if_there : {A : Type 0} → (A → List ℕ) → Option A → List ℕ
if_there s x = flag (is_some x) ++ told_if s x

abbrev pub IsIfThere : {A : Type 0} → (A → Type 0) → Option A → Type 0
IsIfThere P None = ⊤
IsIfThere P (Some x) = P x
