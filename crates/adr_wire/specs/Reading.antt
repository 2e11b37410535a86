-- Reading from left to right: what stands there and what is left, or the place of the first fault.
use Rattle.std.specs.Prelude.{◌≡◌, ℕ, zero, suc, ◌+◌, List, [], ◌∷◌, length, take, drop, Bool, Option, Some, Result, Ok, Err, nat_lt, if◌then◌else◌}
use Rattle.std.specs.declared.cmp.Ordering.{Ordering}
use Rattle.std.specs.Ordering.{is_lt}
use Rattle.std.specs.Option.{option_cmp}
use Rattle.adr_values.specs.declared.failure.Failure.{Failure}
use Rattle.adr_values.specs.declared.failure.Failure.TheVariants.{Refused, NoMemory}
use Rattle.adr_wire.specs.declared.refusal.Malformed.{Malformed}

-- what is left to read: the place of its first byte, and the bytes
pub record Rest : Type 0 where
  pub place : ℕ
  pub bytes : List ℕ

-- a value and what is left behind it, or the place of the first fault
abbrev pub Read : Type 0 → Type 0
Read X = Result (X × Rest) ℕ

abbrev pub Reading : Type 0 → Type 0
Reading X = Rest → Read X

infixl 10 ◌>>=◌
abbrev pub ◌>>=◌ : {A B : Type 0} → Result A ℕ → (A → Result B ℕ) → Result B ℕ
(Ok x) >>= f = f x
(Err place) >>= f = Err place

-- ---- what a reader of the program says of a reading

abbrev pub Refuses : {X : Type 0} → Failure Malformed → Read X → Type 0
Refuses (Refused malformed) read = read ≡ Err malformed.place
Refuses NoMemory read = Unit {0}

-- it gave the value and stands behind it, or it named the place, or memory ran out
abbrev pub Gives : {X : Type 0} → Result X (Failure Malformed) → Rest → Read X → Type 0
Gives (Ok x) rest read = read ≡ Ok (x, rest)
Gives (Err e) rest read = Refuses e read

abbrev pub Names : {X : Type 0} → Failure Malformed → Read X → Type 0
Names (Refused malformed) read = read ≡ Err malformed.place
Names NoMemory read = ⊥

-- the same, where no memory is taken
abbrev pub Tells : {X : Type 0} → Result X (Failure Malformed) → Rest → Read X → Type 0
Tells (Ok x) rest read = read ≡ Ok (x, rest)
Tells (Err e) rest read = Names e read

-- both, of a value that is seen by view
abbrev pub GivesAs : {X Y : Type 0} → (X → Y) → Result X (Failure Malformed) → Rest → Read Y → Type 0
GivesAs view (Ok x) rest read = read ≡ Ok (view x, rest)
GivesAs view (Err e) rest read = Refuses e read

abbrev pub TellsAs : {X Y : Type 0} → (X → Y) → Result X (Failure Malformed) → Rest → Read Y → Type 0
TellsAs view (Ok x) rest read = read ≡ Ok (view x, rest)
TellsAs view (Err e) rest read = Names e read

-- ---- readings made of readings

-- so many bytes
abbrev pub bytes_at : ℕ → Reading (List ℕ)
bytes_at n rest = if nat_lt (length rest.bytes) n then Err rest.place else Ok (take n rest.bytes, record { place = rest.place + n; bytes = drop n rest.bytes })

-- what is read, as another value
abbrev pub as_at : {A B : Type 0} → (A → B) → Reading A → Reading B
as_at f a rest = a rest >>= λ x. Ok (f x.0, x.1)

-- only what passes the test, else a fault at this place
abbrev pub passing_at : {A : Type 0} → ℕ → (A → Bool) → Reading A → Reading A
passing_at place test a rest = a rest >>= λ x. if test x.0 then Ok x else Err place

-- only what passes the test, else a fault at its first byte
abbrev pub where_at : {A : Type 0} → (A → Bool) → Reading A → Reading A
where_at test a rest = passing_at rest.place test a rest

-- one behind the other, where the first may say how the second is read
abbrev pub then_at : {A B : Type 0} → Reading A → (A → Reading B) → Reading (A × B)
then_at a b rest = a rest >>= λ x. b x.0 x.1 >>= λ y. Ok ((x.0, y.0), y.1)

-- so many elements, each read with what is known from those before it
abbrev pub gathered_at : {S E : Type 0} → (S → E → S) → (S → Reading E) → ℕ → S → Reading (List E)
gathered_at step element zero known rest = Ok ([], rest)
gathered_at step element (suc n) known rest = element known rest >>= λ e. gathered_at step element n (step known e.0) e.1 >>= λ es. Ok (e.0 ∷ es.0, es.1)

-- only the key of the last one is known
abbrev pub keyed : {K E : Type 0} → (E → K) → Option K → E → Option K
keyed key last e = Some (key e)

-- so many elements, each read with the key of the one before it
abbrev pub elements_at : {K E : Type 0} → (E → K) → (Option K → Reading E) → ℕ → Option K → Reading (List E)
elements_at key = gathered_at (keyed key)

-- whether a key is above the one before it, if there is one
abbrev pub is_above : {K : Type 0} → (K → K → Ordering) → Option K → K → Bool
is_above order last key = is_lt (option_cmp order last (Some key))

-- an element that begins with its key, above the one before it
abbrev pub above_at : {K E : Type 0} → (K → K → Ordering) → Reading K → (K → Reading E) → Option K → Reading E
above_at order key body last rest = where_at (is_above order last) key rest >>= λ k. body k.0 k.1
