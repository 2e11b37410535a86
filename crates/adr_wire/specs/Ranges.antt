-- Which values have a spelling: those whose numbers, lengths and lists are in range.
use Rattle.std.specs.Prelude.{◌≡◌, ℕ, ◌<◌, ◌≤◌, ◌^◌, List, length, Bool, true, false, ◌==◌, ℤ, FitsSigned, Option, None, ⊤}
use Rattle.std.specs.List.{AllByRecursion}
use Rattle.std.specs.Int.{w64}
use Rattle.std.specs.Str.{is_utf8}
use Rattle.std.specs.Ordering.{nat_cmp}
use Rattle.adr_values.specs.declared.stamp.Oid.{Oid}
use Rattle.adr_values.specs.declared.stamp.Stamp.{Stamp}
use Rattle.adr_values.specs.declared.content.Value.{Value as Item}
use Rattle.adr_values.specs.declared.content.Value.TheVariants.{Text, Number, Flag, Octets, Ref}
use Rattle.adr_values.specs.declared.content.Content.{Content}
use Rattle.adr_values.specs.declared.content.Content.TheVariants.{Class, Name, Dead, Values}
use Rattle.adr_values.specs.declared.mark.Mark.{Mark}
use Rattle.adr_values.specs.Vector.{Cursors, IsVector}
use Rattle.adr_wire.specs.Reading.{is_above, keyed}
use Rattle.adr_wire.specs.Gathering.{Along}
use Rattle.adr_wire.specs.Composites.{Row, LinkItem, is_ordered}

abbrev pub IsU8 : ℕ → Type 0
IsU8 n = n < 256

abbrev pub IsU16 : ℕ → Type 0
IsU16 n = n < 2 ^ 16

abbrev pub IsU32 : ℕ → Type 0
IsU32 n = n < 2 ^ 32

abbrev pub IsU64 : ℕ → Type 0
IsU64 n = n < 2 ^ 64

abbrev pub IsI64 : ℤ → Type 0
IsI64 z = FitsSigned w64 z

abbrev pub IsId : List ℕ → Type 0
IsId guid = length guid ≡ 16

abbrev pub IsFlag : Bool → Type 0
IsFlag b = ⊤

abbrev pub IsUsn : ℕ → Type 0
IsUsn n = (1 ≤ n) × (n < 2 ^ 63)

abbrev pub IsUsn0 : ℕ → Type 0
IsUsn0 n = n < 2 ^ 63

abbrev pub IsVersion : ℕ → Type 0
IsVersion n = (1 ≤ n) × IsU32 n

abbrev pub IsOctets : List ℕ → Type 0
IsOctets bytes = IsU16 (length bytes)

abbrev pub IsText : List ℕ → Type 0
IsText bytes = IsOctets bytes × (is_utf8 bytes ≡ true)

abbrev pub IsMark : Mark → Type 0
IsMark m = IsUsn0 m.obj × (IsUsn0 m.prop × IsUsn0 m.seen)

abbrev pub IsOrderedMark : Mark → Type 0
IsOrderedMark m = IsMark m × (is_ordered m ≡ true)

abbrev pub IsOid : Oid → Type 0
IsOid o = IsId o.guid × (IsId o.birth.inv × IsUsn o.birth.usn)

abbrev pub IsStamp : Stamp → Type 0
IsStamp s = IsVersion s.version × (IsU64 s.time × (IsId s.inv × IsUsn s.usn))

abbrev pub IsValue : Item → Type 0
IsValue (Text t) = IsText t
IsValue (Number n) = IsI64 n
IsValue (Flag b) = ⊤
IsValue (Octets o) = IsOctets o
IsValue (Ref guid) = IsId guid

-- the content of a row of this attribute
abbrev pub IsContent : ℕ → Content → Type 0
IsContent attr (Class class) = ((attr == 1) ≡ true) × IsU16 class
IsContent attr (Name t parent) = ((attr == 2) ≡ true) × (IsId parent × IsText t)
IsContent attr Dead = (attr == 3) ≡ true
IsContent attr (Values vs) = ((attr == 1) ≡ false) × ((attr == 2) ≡ false) × ((attr == 3) ≡ false) × IsU8 (length vs) × AllByRecursion IsValue vs

abbrev pub IsRow : Row → Type 0
IsRow r = IsU16 r.0 × (IsStamp r.1 × IsContent r.0 r.2)

-- each element by the key of the one before it
abbrev pub InTurn : {K E : Type 0} → (E → K) → (Option K → E → Type 0) → Option K → List E → Type 0
InTurn key = Along (keyed key)

-- a row whose attribute is above the one before it
abbrev pub IsRowAbove : Option ℕ → Row → Type 0
IsRowAbove last r = IsRow r × (is_above nat_cmp last r.0 ≡ true)

abbrev pub RowsRise : List Row → Type 0
RowsRise rows = InTurn (λ r. r.0) IsRowAbove None rows

abbrev pub IsObject : Oid × List Row → Type 0
IsObject o = IsOid o.0 × (((1 ≤ length o.1) × IsU16 (length o.1)) × RowsRise o.1)

abbrev pub IsLink : LinkItem → Type 0
IsLink l = (IsOid l.0.from × (IsU16 l.0.attr × IsOid l.0.to)) × (IsU64 l.1.created × IsStamp l.1.stamp)

-- a vector whose identifiers and numbers are in range
abbrev pub IsCursor : List ℕ × ℕ → Type 0
IsCursor c = IsId c.0 × IsUsn c.1

abbrev pub IsCursors : Cursors → Type 0
IsCursors cursors = IsVector cursors × AllByRecursion IsCursor cursors
