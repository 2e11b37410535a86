-- The body of a journal's record: a change as bytes.
use Rattle.std.specs.Prelude.{if◌then◌else◌, ◌≡◌, ◌==◌, ℕ, List, [], ◌++◌, length, Bool, true, false, Option, None, Some, Ok, ⊤}
use Rattle.std.specs.List.{flat_map}
use Rattle.std.specs.Ordering.{nat_cmp}
use Rattle.adr_values.specs.declared.stamp.Oid.{Oid}
use Rattle.adr_values.specs.Vector.{Cursors}
use Rattle.adr_wire.specs.Reading.{Reading, as_at, where_at, then_at, elements_at, is_above}
use Rattle.adr_wire.specs.Fields.{u32_at, usn_at, usn0_at, flag_at, u32, u64, flag}
use Rattle.adr_wire.specs.Composites.{oid_at, oid, vector_at, vector}
use Rattle.adr_wire.specs.Optional.{if_there_at, if_there, IsIfThere}
use Rattle.adr_wire.specs.Pieces.{Piece, piece_at, piece, IsPiece}
use Rattle.adr_wire.specs.Timed.{Timed, timed_at, timed, IsTimed}
use Rattle.adr_wire.specs.Ranges.{IsU32, IsUsn, IsUsn0, IsOid, IsCursors, InTurn}
use Rattle.adr_image.specs.Image.{Marked, kept_above, kept}
use Rattle.adr_image.specs.Ranged.{IsMarked}
use Rattle.adr_image.specs.Whole.{is_schema}

-- ---- writes, whose local USNs rise

abbrev pub Write : Type 0
Write = ℕ × Piece

unfoldable pub write_above : Option ℕ → Reading Write
write_above last = then_at (where_at (is_above nat_cmp last) usn_at) (λ _. piece_at)

abbrev pub write : Write → List ℕ
write w = u64 w.0 ++ piece w.1

abbrev pub IsWrite : Option ℕ → Write → Type 0
IsWrite last w = (IsUsn w.0 × (is_above nat_cmp last w.0 ≡ true)) × IsPiece w.1

-- ---- removed objects, in any order

abbrev pub one_name : Oid → Unit {0}
one_name o = tt

-- ---- a mark, if there is one

abbrev pub mark_if_at : Reading (Option Marked)
mark_if_at = if_there_at (kept_above None)

abbrev pub mark_if : Option Marked → List ℕ
mark_if = if_there kept

abbrev pub IsMarkIf : Option Marked → Type 0
IsMarkIf = IsIfThere (IsMarked None)

-- ---- the number of the schema. A body of the first version tells none: it is that of the state

unfoldable pub number_at : ℕ → ℕ → Reading ℕ
number_at version schema = if version == 1 then (λ rest. Ok (schema, rest)) else where_at is_schema u32_at

abbrev pub number : ℕ → ℕ → List ℕ
number version n = if version == 1 then [] else u32 n

abbrev pub NumberBy : Bool → ℕ → ℕ → Type 0
NumberBy true schema n = n ≡ schema
NumberBy false schema n = IsU32 n × (is_schema n ≡ true)

abbrev pub IsNumber : ℕ → ℕ → ℕ → Type 0
IsNumber version schema n = NumberBy (version == 1) schema n

-- ---- a body: the USN after, whether it quarantines, the schema, the mark, the vectors, the first with its times, the removed objects and the writes

abbrev pub Body : Type 0
Body = ℕ × (Bool × (ℕ × (Option Marked × (Timed × (Cursors × (List Oid × List Write))))))

unfoldable pub removed_at : Reading (List Oid)
removed_at = as_at (λ p. p.1) (then_at u32_at (λ n. elements_at one_name (λ _. oid_at) n None))

-- local USNs are above the USN before
unfoldable pub writes_at : ℕ → Reading (List Write)
writes_at before = as_at (λ p. p.1) (then_at u32_at (λ n. elements_at (λ (w : Write). w.0) write_above n (Some before)))

-- of a version, behind this USN and under this schema
unfoldable pub body_at : ℕ → ℕ → ℕ → Reading Body
body_at version before schema =
    then_at usn0_at (λ _. then_at flag_at (λ _. then_at (number_at version schema) (λ _. then_at mark_if_at (λ _.
    then_at (timed_at version) (λ _. then_at vector_at (λ _. then_at removed_at (λ _. writes_at before)))))))

abbrev pub body : ℕ → Body → List ℕ
body version b =
    u64 b.0 ++ (flag b.1.0 ++ (number version b.1.1.0 ++ (mark_if b.1.1.1.0 ++ (timed version b.1.1.1.1.0 ++ (vector b.1.1.1.1.1.0
    ++ ((u32 (length b.1.1.1.1.1.1.0) ++ flat_map oid b.1.1.1.1.1.1.0) ++ (u32 (length b.1.1.1.1.1.1.1) ++ flat_map write b.1.1.1.1.1.1.1)))))))

abbrev pub AreRemoved : List Oid → Type 0
AreRemoved os = IsU32 (length os) × InTurn one_name (λ _. IsOid) None os

abbrev pub AreWrites : ℕ → List Write → Type 0
AreWrites before ws = IsU32 (length ws) × InTurn (λ (w : Write). w.0) IsWrite (Some before) ws

abbrev pub IsBody : ℕ → ℕ → ℕ → Body → Type 0
IsBody version before schema b =
    IsUsn0 b.0 × (⊤ × (IsNumber version schema b.1.1.0 × (IsMarkIf b.1.1.1.0 × (IsTimed version b.1.1.1.1.0 × (IsCursors b.1.1.1.1.1.0
    × (AreRemoved b.1.1.1.1.1.1.0 × AreWrites before b.1.1.1.1.1.1.1))))))
