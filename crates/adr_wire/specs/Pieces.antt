-- Pieces of messages and of journal records: an object with its rows, or a link, behind the kind that says which.
use Rattle.std.specs.Prelude.{ℕ, List, ◌++◌, ◌==◌, if◌then◌else◌, Err}
use Rattle.adr_values.specs.declared.stamp.Oid.{Oid}
use Rattle.adr_wire.specs.Reading.{Reading, ◌>>=◌, as_at}
use Rattle.adr_wire.specs.Fields.{u8_at, u8}
use Rattle.adr_wire.specs.Composites.{Row, LinkItem, object_at, object, link_at, link}
use Rattle.adr_wire.specs.Ranges.{IsObject, IsLink}

pub data Piece : Type 0 where
  OfRows : (object : Oid × List Row) → Piece
  OfLink : (link : LinkItem) → Piece

-- kinds: 1 an object with its rows, 2 a link; any other is a fault at the kind
abbrev pub piece_of : ℕ → ℕ → Reading Piece
piece_of place kind = if kind == 1 then as_at OfRows object_at else if kind == 2 then as_at OfLink link_at else λ rest. Err place

unfoldable pub piece_at : Reading Piece
piece_at rest = u8_at rest >>= λ kind. piece_of rest.place kind.0 kind.1

abbrev pub kind_of_piece : Piece → ℕ
kind_of_piece (OfRows o) = 1
kind_of_piece (OfLink l) = 2

-- what stands behind the kind
abbrev pub told_of_piece : Piece → List ℕ
told_of_piece (OfRows o) = object o
told_of_piece (OfLink l) = link l

abbrev pub piece : Piece → List ℕ
piece p = u8 (kind_of_piece p) ++ told_of_piece p

-- a piece that has a spelling
abbrev pub IsPiece : Piece → Type 0
IsPiece (OfRows o) = IsObject o
IsPiece (OfLink l) = IsLink l
