-- What a reader keeps of the parts that it has read.
use Rattle.std.specs.Prelude.{◌≡◌, ◌&&◌, ◌||◌, ℕ, Bool, List, fold, Result, Ok, Err}
use Rattle.std.specs.List.{flat_map}
use Rattle.adr_values.specs.declared.failure.Failure.{Failure}
use Rattle.adr_values.specs.declared.stamp.Oid.{Oid}
use Rattle.adr_values.specs.Table.{has}
use Rattle.adr_wire.specs.declared.refusal.Malformed.{Malformed}
use Rattle.adr_wire.specs.Reading.{Rest, Read, Refuses}
use Rattle.adr_model.specs.Update.{same_object}
use Rattle.adr_model.specs.Live.{is_among}
use Rattle.adr_image.specs.declared.gathered.Objects.{Objects}
use Rattle.adr_image.specs.declared.links.Links.{Links}
use Rattle.adr_image.specs.Image.{Rows, HeldLink, no_objects, with_rows, with_link}
use Rattle.adr_image.specs.Whole.{dead_of, no_links}
use Rattle.adr_image.specs.Stored.{rows_of_object, rows_of}

-- a reading gave what is seen in this way, or was refused, or memory ran out
abbrev pub GivesSeen : {X Y : Type 0} → (X → Y → Type 0) → Result X (Failure Malformed) → Rest → Read Y → Type 0
GivesSeen {X} {Y} Sees (Ok x) rest read = (y : Y) × (read ≡ Ok (y, rest)) × Sees x y
GivesSeen Sees (Err e) rest read = Refuses e read

-- the dead, with an object that may be dead
abbrev pub IsDeadToo : List Oid → List Oid → Bool → Oid → Type 0
IsDeadToo before after dead o = (p : Oid) → is_among after p ≡ (is_among before p || (dead && same_object o p))

-- of objects their rows are kept, the last name, their last local USNs, and which of them are dead
pub record KeepsObjects (k : Objects) (os : List Rows) : Type 0 where
  pub rows : k.rows.items ≡ flat_map rows_of_object os
  pub last : k.last ≡ (fold with_rows no_objects os).last
  pub used : (n : ℕ) → has k.used.keys n ≡ has (fold with_rows no_objects os).used n
  pub dead : (o : Oid) → is_among k.dead.keys o ≡ is_among (dead_of os) o

-- of links behind objects all rows are kept, and what they say of the next link
pub record KeepsLinks (os : List Rows) (k : Links) (ls : List HeldLink) : Type 0 where
  pub rows : k.rows.items ≡ rows_of (os, ls)
  pub last : k.last ≡ (fold with_link (no_links os) ls).last
  pub used : (n : ℕ) → has k.used.keys n ≡ has (fold with_link (no_links os) ls).used n
  pub dead : (o : Oid) → is_among k.dead.keys o ≡ is_among (dead_of os) o
