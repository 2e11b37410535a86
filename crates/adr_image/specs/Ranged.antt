-- Which parts of an image have a spelling.
use Rattle.std.specs.Prelude.{◌≡◌, ℕ, List, length, Bool, true, not, ◌&&◌, nat_le, Option, None}
use Rattle.adr_values.specs.declared.stamp.Oid.{Oid}
use Rattle.adr_values.specs.declared.stamp.LinkKey.{LinkKey}
use Rattle.adr_values.specs.Order.{identifier_order, object_order, link_order}
use Rattle.adr_values.specs.Table.{Table, has, kind_at, is_forward}
use Rattle.adr_values.specs.Numbered.{numbered}
use Rattle.adr_values.specs.Vector.{at_most}
use Rattle.adr_wire.specs.Reading.{is_above}
use Rattle.adr_wire.specs.Ranges.{IsU16, IsU32, IsU64, IsId, IsUsn, IsUsn0, IsOrderedMark, IsOid, IsStamp, IsRowAbove, InTurn, IsCursors}
use Rattle.adr_wire.specs.Timed.{IsVector2}
use Rattle.adr_model.specs.Update.{Identifier}
use Rattle.adr_model.specs.Live.{is_among}
use Rattle.adr_model.specs.Write.{object_limit, link_limit}
use Rattle.adr_model.specs.Take.{mark_limit}
use Rattle.adr_image.specs.declared.rows.Before.{Before}
use Rattle.adr_wire.specs.Gathering.{Along}
use Rattle.adr_image.specs.Image.{HeldRow, Rows, HeldLink, no_rows, with_held, is_allowed, Earlier, no_objects, with_rows, is_whole, Linked, with_link, Marked}
use Rattle.adr_image.specs.Whole.{Parts, is_schema, dead_of, no_links}

-- from 1 to the USN of the image
abbrev pub IsLocal : ℕ → ℕ → Type 0
IsLocal usn n = IsUsn n × (nat_le n usn ≡ true)

abbrev pub IsHeldRow : ℕ → Table → Oid → Before → HeldRow → Type 0
IsHeldRow usn table o b h = (IsLocal usn h.0 × IsRowAbove b.attr h.1) × (is_allowed table o b h.1 ≡ true)

abbrev pub AreHeldRows : ℕ → Table → Oid → List HeldRow → Type 0
AreHeldRows usn table o rows = IsU16 (length rows) × Along with_held (IsHeldRow usn table o) no_rows rows

abbrev pub IsObjectIn : ℕ → Table → Earlier → Rows → Type 0
IsObjectIn usn table e o = ((IsOid o.0 × (is_above object_order e.last o.0 ≡ true)) × AreHeldRows usn table o.0 o.1) × (is_whole table e.used o.1 ≡ true)

-- a key whose attribute passes, above the last one and with no dead end
abbrev pub IsKeyIn : (ℕ → Bool) → List Oid → Option LinkKey → LinkKey → Type 0
IsKeyIn forward dead last k =
    ((IsOid k.from × (not (is_among dead k.from) ≡ true)) × ((IsU16 k.attr × (forward k.attr ≡ true)) × IsOid k.to))
    × ((is_above link_order last k && not (is_among dead k.to)) ≡ true)

abbrev pub IsForward : Table → ℕ → Bool
IsForward table attr = is_forward (kind_at table attr)

abbrev pub IsLinkIn : ℕ → Table → List Oid → Linked → HeldLink → Type 0
IsLinkIn usn table dead k l =
    ((IsLocal usn l.0 × (not (has k.used l.0) ≡ true)) × IsKeyIn (IsForward table) dead k.last l.1.0)
    × (IsU64 l.1.1.created × IsStamp l.1.1.stamp)

abbrev pub IsMarked : Option Identifier → Marked → Type 0
IsMarked last k = (IsId k.0 × (is_above identifier_order last k.0 ≡ true)) × (IsId k.1.inv × IsOrderedMark k.1.mark)

-- a count of a list
abbrev pub IsCount : ℕ → ℕ → Type 0
IsCount most n = IsU32 n × (nat_le n most ≡ true)

abbrev pub AreMarks : List Marked → Type 0
AreMarks ks = IsCount mark_limit (length ks) × InTurn (λ k. k.0) IsMarked None ks

abbrev pub AreObjects : ℕ → Table → List Rows → Type 0
AreObjects usn table os = IsCount object_limit (length os) × Along with_rows (IsObjectIn usn table) no_objects os

abbrev pub AreLinks : ℕ → Table → List Rows → List HeldLink → Type 0
AreLinks usn table os ls = IsCount link_limit (length ls) × Along with_link (IsLinkIn usn table (dead_of os)) (no_links os) ls

pub record AreParts (p : Parts) : Type 0 where
  pub schema : is_schema p.schema ≡ true
  pub usn : IsUsn0 p.usn
  pub seen : IsVector2 (p.vector, p.times)
  pub purged : IsCursors p.purged × (at_most p.purged p.vector ≡ true)
  pub marks : AreMarks p.marks
  pub objects : AreObjects p.usn (numbered p.schema) p.objects
  pub links : AreLinks p.usn (numbered p.schema) p.objects p.links
