-- A refusal of a request as bytes: its number, and its fields.
use Rattle.std.specs.Prelude.{if◌then◌else◌, ℕ, List, [], ◌∷◌, ◌++◌, ◌==◌, Result, Ok, Err, ⊤}
use Rattle.adr_call.specs.declared.refusal.ServeRefusal.TheVariants.{Quarantined, WrongController, BadMark, RolledBack, SchemaMismatch, TooOld}
use Rattle.adr_wire.specs.declared.refusal.DecodeRefusal.{DecodeRefusal}
use Rattle.adr_wire.specs.Fields.{id_at, id, u8_at, u8, u32_at, u32, u64_at, u64}
use Rattle.adr_wire.specs.Ranges.{IsId, IsU32, IsU64}
use Rattle.adr_wire.specs.Reading.{Reading, ◌>>=◌, as_at, where_at, then_at}
use Rattle.adr_wire.specs.Headed.{Forms, first_form, head, read_message}
use Rattle.adr_packet.specs.declared.refusal.Refusal.{Refusal}
use Rattle.adr_packet.specs.declared.refusal.Refusal.TheVariants.{Serve, LogFull}

-- `ADRF`
abbrev pub magic : List ℕ
magic = 65 ∷ 68 ∷ 82 ∷ 70 ∷ []

-- the table whose limit a full log has passed
abbrev pub log_table : ℕ
log_table = 5

-- ---- fields that some of them share

-- an incarnation, and two numbers
abbrev pub shown_at : Reading (List ℕ × (ℕ × ℕ))
shown_at = then_at id_at (λ _. then_at u64_at (λ _. u64_at))

abbrev pub marked_at : Reading (ℕ × (ℕ × ℕ))
marked_at = then_at u64_at (λ _. then_at u64_at (λ _. u64_at))

abbrev pub table_at : Reading ℕ
table_at = where_at (λ n. n == log_table) u8_at

-- what stands behind a number; any other number is a fault at the number
abbrev pub told_at : ℕ → ℕ → Reading Refusal
told_at place number =
    if number == 23 then (λ rest. Ok (Serve Quarantined, rest))
    else if number == 30 then as_at (λ p. Serve (WrongController p.0 p.1)) (then_at id_at (λ _. id_at))
    else if number == 31 then as_at (λ p. Serve (SchemaMismatch p.0 p.1)) (then_at u32_at (λ _. u32_at))
    else if number == 32 then as_at (λ p. Serve (TooOld p.0 p.1.0 p.1.1)) shown_at
    else if number == 33 then as_at (λ p. Serve (RolledBack p.0 p.1.0 p.1.1)) shown_at
    else if number == 34 then as_at (λ p. Serve (BadMark p.0 p.1.0 p.1.1)) marked_at
    else if number == 22 then as_at (λ p. LogFull p.1) (then_at table_at (λ _. u64_at))
    else (λ rest. Err place)

unfoldable pub refusal_at : Reading Refusal
refusal_at rest = u8_at rest >>= λ number. told_at rest.place number.0 number.1

abbrev pub refusal_forms : Forms Refusal
refusal_forms = first_form refusal_at

-- what bytes say that are a refusal
abbrev pub decoded_refusal : List ℕ → Result Refusal DecodeRefusal
decoded_refusal bytes = read_message magic refusal_forms bytes

-- ---- spelled

abbrev pub number_of : Refusal → ℕ
number_of (Serve Quarantined) = 23
number_of (Serve (WrongController mine asked)) = 30
number_of (Serve (SchemaMismatch mine theirs)) = 31
number_of (Serve (TooOld inv purged has)) = 32
number_of (Serve (RolledBack inv mine shown)) = 33
number_of (Serve (BadMark prop obj seen)) = 34
number_of (LogFull limit) = 22

-- what stands behind the number
abbrev pub told : Refusal → List ℕ
told (Serve Quarantined) = []
told (Serve (WrongController mine asked)) = id mine ++ id asked
told (Serve (SchemaMismatch mine theirs)) = u32 mine ++ u32 theirs
told (Serve (TooOld inv purged has)) = id inv ++ (u64 purged ++ u64 has)
told (Serve (RolledBack inv mine shown)) = id inv ++ (u64 mine ++ u64 shown)
told (Serve (BadMark prop obj seen)) = u64 prop ++ (u64 obj ++ u64 seen)
told (LogFull limit) = u8 log_table ++ u64 limit

abbrev pub fields : Refusal → List ℕ
fields r = u8 (number_of r) ++ told r

abbrev pub refusal_bytes : Refusal → List ℕ
refusal_bytes r = head magic 1 ++ fields r

-- a refusal whose fields are in range
abbrev pub IsRefusal : Refusal → Type 0
IsRefusal (Serve Quarantined) = ⊤
IsRefusal (Serve (WrongController mine asked)) = IsId mine × IsId asked
IsRefusal (Serve (SchemaMismatch mine theirs)) = IsU32 mine × IsU32 theirs
IsRefusal (Serve (TooOld inv purged has)) = IsId inv × (IsU64 purged × IsU64 has)
IsRefusal (Serve (RolledBack inv mine shown)) = IsId inv × (IsU64 mine × IsU64 shown)
IsRefusal (Serve (BadMark prop obj seen)) = IsU64 prop × (IsU64 obj × IsU64 seen)
IsRefusal (LogFull limit) = IsU64 limit
