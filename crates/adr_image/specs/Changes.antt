-- A change as the body of a journal's record, and back.
use Rattle.std.specs.Prelude.{if◌then◌else◌, ◌≡◌, ◌<◌, ◌^◌, ℕ, List, ◌++◌, All, Bool, true, false, ◌==◌, length, map, Option, Some, None, Ok, Err}
use Rattle.std.specs.List.{flat_map}
use Rattle.adr_values.specs.declared.stamp.Unit.{Unit as Named}
use Rattle.adr_values.specs.declared.stamp.Unit.TheVariants.{Object, Link}
use Rattle.adr_wire.specs.Composites.{oid, vector}
use Rattle.adr_wire.specs.Fields.{flag, u8, u16, u32, u64}
use Rattle.adr_wire.specs.Pieces.{Piece, OfRows, OfLink}
use Rattle.adr_wire.specs.Reading.{Read}
use Rattle.adr_wire.specs.Timed.{timed}
use Rattle.adr_model.specs.Change.{Change, Item, Written}
use Rattle.adr_model.specs.Serve.{is_quarantined}
use Rattle.adr_model.specs.Store.{Mode, Normal, Quarantined}
use Rattle.adr_model.specs.Update.{Update}
use Rattle.adr_law_lengths.specs.Written.{link_item, object_item}
use Rattle.adr_image.specs.Body.{Body, Write, body_at, mark_if, number, IsBody}
use Rattle.adr_image.specs.Written.{IsShortSaid, told}

-- ---- from a body to a change

abbrev pub item_of : Piece → Item
item_of (OfRows x) = object_item x
item_of (OfLink l) = link_item l

abbrev pub written_of : Write → Written
written_of w = record { local = w.0; item = item_of w.1 }

abbrev pub mode_of_flag : Bool → Mode
mode_of_flag true = Quarantined
mode_of_flag false = Normal

abbrev pub change_of : Body → Change
change_of b =
    record {
      usn = b.0;
      mode = mode_of_flag b.1.0;
      schema = b.1.1.0;
      mark = b.1.1.1.0;
      joined = b.1.1.1.1.0.0;
      times = b.1.1.1.1.0.1;
      purged = b.1.1.1.1.1.0;
      removed = b.1.1.1.1.1.1.0;
      writes = map written_of b.1.1.1.1.1.1.1;
    }

-- the change of a body behind which nothing is left
abbrev pub whole_change : Read Body → Option Change
whole_change (Ok x) = if length x.1.bytes == 0 then Some (change_of x.0) else None
whole_change (Err place) = None

-- what bytes say to a controller of this USN and this schema, if they are the body of a record of the version
abbrev pub decoded_change : (version before schema : ℕ) → List ℕ → Option Change
decoded_change version before schema bytes = whole_change (body_at version before schema (record { place = 0; bytes = bytes }))

-- ---- from a change to a body

abbrev pub update_bytes : Update → List ℕ
update_bytes u = told u.key u.stamp u.said

abbrev pub unit_bytes : Named → List Update → List ℕ
unit_bytes (Object o) rows = u8 1 ++ (oid o ++ (u16 (length rows) ++ flat_map update_bytes rows))
unit_bytes (Link l) rows = u8 2 ++ flat_map update_bytes rows

abbrev pub written_bytes : Written → List ℕ
written_bytes w = u64 w.local ++ unit_bytes w.item.unit w.item.rows

-- the body of a change, in a version
abbrev pub change_bytes : ℕ → Change → List ℕ
change_bytes version c =
    u64 c.usn ++ (flag (is_quarantined c.mode) ++ (number version c.schema ++ (mark_if c.mark ++ (timed version (c.joined, c.times) ++ (vector c.purged
    ++ ((u32 (length c.removed) ++ flat_map oid c.removed) ++ (u32 (length c.writes) ++ flat_map written_bytes c.writes)))))))

-- rows whose number and lengths have a spelling
pub record AreShort (rows : List Update) : Type 0 where
  pub few : length rows < 2 ^ 16
  pub short : All (λ (u : Update). IsShortSaid u.said) rows

-- a change whose lists have a spelling
pub record IsShortChange (c : Change) : Type 0 where
  pub removed : length c.removed < 2 ^ 32
  pub few : length c.writes < 2 ^ 32
  pub short : All (λ (w : Written). AreShort w.item.rows) c.writes

-- a change that a body of the version says that is in range, behind this USN and under this schema
pub record HasBody (version before schema : ℕ) (c : Change) : Type 0 where
  pub body : Body
  pub in_range : IsBody version before schema body
  pub says : c ≡ change_of body
