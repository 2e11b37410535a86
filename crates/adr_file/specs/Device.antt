-- What is told of a file in a folder, and what its calls and a crash make of it. `None` is a file that isn't there.
use Rattle.std.specs.Prelude.{◌≡◌, ◌⊎◌, ◌↔◌, ℕ, ◌-◌, ◌≤◌, true, List, [], length, take, drop, Option, Some, None, IsSome}
use Rattle.std.specs.Option.{ForSome}
use Rattle.adr_disk.specs.Disk.{Torn, Among}
use Rattle.adr_file.specs.declared.folder.Identity.{Identity}
use Rattle.adr_file.specs.declared.folder.Found.{Found}

-- a file that isn't there has no bytes
abbrev pub bytes_of : Option (List ℕ) → List ℕ
bytes_of None = []
bytes_of (Some bytes) = bytes

-- what a crash may leave, as bytes
abbrev pub AsBytes : (Option (List ℕ) → Type 0) → List ℕ → Type 0
AsBytes outcomes bytes = (left : Option (List ℕ)) × outcomes left × (bytes ≡ bytes_of left)

-- what was left before, after a step
abbrev pub Behind : (Option (List ℕ) → Option (List ℕ) → Type 0) → (Option (List ℕ) → Type 0) → Option (List ℕ) → Type 0
Behind step outcomes new = (old : Option (List ℕ)) × outcomes old × step old new

-- it is as it was, or wasn't there and is there, with no bytes
abbrev pub Made : Option (List ℕ) → Option (List ℕ) → Type 0
Made old new = (new ≡ old) ⊎ ((old ≡ None) × (new ≡ Some []))

-- after a write of n bytes that was cut short; what isn't there isn't written
abbrev pub TornFile : ℕ → ℕ → Option (List ℕ) → Option (List ℕ) → Type 0
TornFile at n None new = new ≡ None
TornFile at n (Some old) new = (bytes : List ℕ) × (new ≡ Some bytes) × Torn at n old bytes

-- a crash leaves the name where the file is there, and nothing where it isn't
abbrev pub IsNamed : Option (List ℕ) → (Option (List ℕ) → Type 0) → Type 0
IsNamed there outcomes = (left : Option (List ℕ)) → outcomes left → IsSome left ↔ IsSome there

-- what a look at the name finds: this file, a regular one, or nothing
abbrev pub IsFound : Identity → Option (List ℕ) → Option Found → Type 0
IsFound named None found = found ≡ None
IsFound named (Some bytes) found = found ≡ Some (record { identity = named; is_regular = true })

-- of the bytes from a place on, n were read into the front of a buffer; none, only at the end or into no buffer
pub record ReadsAt (bytes : List ℕ) (at : ℕ) (buffer : List ℕ) (n : ℕ) : Type 0 where
  pub enough : n ≤ length bytes - at
  pub read : take n buffer ≡ take n (drop at bytes)
  pub end : n ≡ 0 → (length buffer ≡ 0) ⊎ (length bytes ≤ at)

-- Time goes on. What a crash might have left since an earlier moment is what it might have left before, or one of
-- the outcomes of the call.
pub record Passes (before now : ℕ) (past since : ℕ → Option (List ℕ) → Type 0) (outcomes : Option (List ℕ) → Type 0) : Type 0 where
  pub later : before ≤ now
  pub nothing_else : (t : ℕ) (left : Option (List ℕ)) → t ≤ before → since t left → past t left ⊎ outcomes left
  pub keeps : (t : ℕ) (left : Option (List ℕ)) → t ≤ before → past t left → since t left

-- A call that may change the file: a crash leaves one of these outcomes, behind it and at each moment of it.
pub record Changes {D : Type 0} (file : D → Option (Option (List ℕ))) (may_leave : D → Option (List ℕ) → Type 0) (moment : D → ℕ) (left_since : D → ℕ → Option (List ℕ) → Type 0) (old new : D) (outcomes : Option (List ℕ) → Type 0) : Type 0 where
  pub told : IsSome (file new) ↔ IsSome (file old)
  pub crash : Among outcomes (may_leave new)
  pub time : Passes (moment old) (moment new) (left_since old) (left_since new) outcomes

-- the same file has the name, the same is open, and what was sure is
pub record Stays {D : Type 0} (named : D → Identity) (opened : D → Option Identity) (is_sure : D → Type 0) (old new : D) : Type 0 where
  pub named_stays : named new ≡ named old
  pub opened_stays : opened new ≡ opened old
  pub sure_stays : is_sure old → is_sure new

-- where it is told, the file is there, and is the open one
abbrev pub IsOwn : {D : Type 0} → (D → Option (Option (List ℕ))) → (D → Identity) → (D → Option Identity) → D → Type 0
IsOwn {D} file named opened d = ForSome (file d) (λ there. IsSome there × (opened d ≡ Some (named d)))

-- where it is told, a look at the name has found the open file
abbrev pub IsSeen : {D : Type 0} → (D → Option (Option (List ℕ))) → (D → Option Identity) → (D → Option Identity) → D → Type 0
IsSeen {D} file opened seen d = ForSome (file d) (λ _. IsSome (opened d) × (seen d ≡ opened d))

-- of a folder that tells nothing
abbrev pub no_identity : Identity
no_identity = record { device = 0; number = 0; names = 0 }
