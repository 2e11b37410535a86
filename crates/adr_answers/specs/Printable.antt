-- What is needed of an entry, of a cursor, of a moment and of a mark so that no other one has its line.
use Rattle.std.specs.Prelude.{◌≡◌, ◌<◌, ◌^◌, ℕ, List, true, false, All}
use Rattle.std.specs.Int.Signed.{mag}
use Rattle.adr_values.specs.declared.content.Value.{Value as Item}
use Rattle.adr_values.specs.declared.content.Value.TheVariants.{Text, Number, Flag, Octets, Ref}
use Rattle.adr_values.specs.Schemas.{newest}
use Rattle.adr_values.specs.Table.{is_link, kind_at}
use Rattle.adr_values.specs.declared.mark.Mark.{Mark}
use Rattle.adr_call.specs.declared.directory.Entry.{Entry}
use Rattle.adr_token.specs.Laws.{IsIdentifier}

-- a value that its token tells: of a number above all of 64 bits figures may be lost; bytes of another length than sixteen, or
-- above 255, can make the same identifier
abbrev pub IsPrintableValue : Item → Type 0
IsPrintableValue (Number number) = mag number < 2 ^ 63
IsPrintableValue (Ref id) = IsIdentifier id
IsPrintableValue (Text text) = Unit {0}
IsPrintableValue (Flag flag) = Unit {0}
IsPrintableValue (Octets octets) = Unit {0}

-- an attribute with its values
pub record ArePrintableValues (v : ℕ × List Item) : Type 0 where
  -- references under an attribute are written as the other ends of a link are
  pub no_link : is_link (kind_at newest v.0) ≡ false
  -- an attribute that has no name is written by its number
  pub attribute : v.0 < 2 ^ 64
  -- each value is told by its token
  pub values : All IsPrintableValue v.1

-- a link attribute with the other ends; such an attribute is one of a schema, so its number is small
pub record ArePrintableLinks (l : ℕ × List (List ℕ)) : Type 0 where
  -- the other ends of a link are written as references under an attribute are
  pub link : is_link (kind_at newest l.0) ≡ true
  -- other bytes can make the same identifier
  pub ends : All IsIdentifier l.1

-- an entry; of its name nothing is needed, nor of how many values and links it has
pub record IsPrintableEntry (e : Entry) : Type 0 where
  -- other bytes can make the same identifier
  pub guid : IsIdentifier e.guid
  -- a class that has no name is written by its number
  pub class : e.class < 2 ^ 64
  -- other bytes can make the same identifier
  pub parent : IsIdentifier e.parent
  -- its attributes are told from its links
  pub values : All ArePrintableValues e.values
  -- its links are told from its attributes
  pub links : All ArePrintableLinks e.links

-- a directory
abbrev pub IsPrintable : List Entry → Type 0
IsPrintable d = All IsPrintableEntry d

-- an incarnation with the USN that was seen of it
pub record IsPrintableCursor (c : List ℕ × ℕ) : Type 0 where
  pub inv : IsIdentifier c.0
  pub usn : c.1 < 2 ^ 64

-- an incarnation with the moment at which it was last read whole; whose it is the vector's cursor tells
abbrev pub IsPrintableMoment : List ℕ × ℕ → Type 0
IsPrintableMoment m = m.1 < 2 ^ 64

-- a partner with the incarnation that was read, and how far
pub record IsPrintablePartner (p : List ℕ × List ℕ × Mark) : Type 0 where
  pub dsa : IsIdentifier p.0
  pub inv : IsIdentifier p.1
  pub obj : p.2.obj < 2 ^ 64
  pub prop : p.2.prop < 2 ^ 64
  pub seen : p.2.seen < 2 ^ 64
