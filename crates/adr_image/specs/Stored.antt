-- A store as the parts of an image, and the image of a store.
use Rattle.std.specs.Prelude.{if◌then◌else◌, ◌≡◌, ℕ, List, [], ◌∷◌, ◌++◌, map, true, false, is_some, Result, ⊤}
use Rattle.std.specs.List.{flat_map, AllByRecursion}
use Rattle.std.specs.List.Sorted.{IsStrictlySortedBy}
use Rattle.adr_values.specs.Order.{identifier_order}
use Rattle.adr_values.specs.declared.stamp.Oid.{Oid}
use Rattle.adr_values.specs.declared.stamp.LinkStamp.{LinkStamp}
use Rattle.adr_values.specs.declared.content.Content.TheVariants.{Class}
use Rattle.adr_values.specs.Table.{class_at}
use Rattle.adr_values.specs.Numbered.{numbered}
use Rattle.adr_wire.specs.declared.refusal.DecodeRefusal.{DecodeRefusal}
use Rattle.adr_wire.specs.Headed.{headed_at, is_version, read_either}
use Rattle.adr_wire.specs.Reading.{Reading, as_at}
use Rattle.adr_wire.specs.Ranges.{IsU16, IsU64, IsId, IsUsn0, IsMark, IsOid, IsStamp, IsContent, IsCursor}
use Rattle.adr_model.specs.Member.{Each}
use Rattle.adr_model.specs.Update.{Key, RowOf, LinkOf, Said, Holds, IsPresent, same_object}
use Rattle.adr_model.specs.Store.{Held, Store}
use Rattle.adr_image.specs.Image.{HeldRow, Rows, HeldLink, Marked}
use Rattle.adr_image.specs.Whole.{Parts, IsOf, is_schema, magic, parts_at, image_of}

-- ---- from parts to a store

abbrev pub held_of : Oid → HeldRow → Held
held_of o h = record { update = record { key = RowOf o h.1.0; stamp = record { created = 0; stamp = h.1.1 }; said = Holds h.1.2 }; local = h.0 }

abbrev pub link_of : HeldLink → Held
link_of l = record { update = record { key = LinkOf l.1.0; stamp = l.1.1; said = IsPresent l.1.2 }; local = l.0 }

abbrev pub rows_of_object : Rows → List Held
rows_of_object o = map (held_of o.0) o.1

abbrev pub rows_of : List Rows × List HeldLink → List Held
rows_of p = flat_map rows_of_object p.0 ++ map link_of p.1

abbrev pub store_of : Parts → Store
store_of p = record { schema = p.schema; usn = p.usn; rows = rows_of (p.objects, p.links); vector = p.vector; times = p.times; purged = p.purged; marks = p.marks }

-- ---- from a store to parts

-- a row in front of objects, joined to the first where that is its own
abbrev pub put_row : Oid → HeldRow → List Rows → List Rows
put_row o h [] = (o, h ∷ []) ∷ []
put_row o h (x ∷ xs) = if same_object o x.0 then (o, h ∷ x.1) ∷ xs else (o, h ∷ []) ∷ x ∷ xs

abbrev pub with_one : Key → Said → LinkStamp → ℕ → List Rows × List HeldLink → List Rows × List HeldLink
with_one (RowOf o attr) (Holds c) stamp local p = (put_row o (local, (attr, stamp.stamp, c)) p.0, p.1)
with_one (RowOf o attr) (IsPresent b) stamp local p = p
with_one (LinkOf l) (Holds c) stamp local p = p
with_one (LinkOf l) (IsPresent b) stamp local p = (p.0, (local, (l, stamp, b)) ∷ p.1)

-- rows as objects with their rows, and links
abbrev pub apart : List Held → List Rows × List HeldLink
apart [] = ([], [])
apart (h ∷ hs) = with_one h.update.key h.update.said h.update.stamp h.local (apart hs)

-- the first object is another one
abbrev pub IsNotFirst : Oid → List Rows → Type 0
IsNotFirst o [] = ⊤
IsNotFirst o (y ∷ ys) = same_object o y.0 ≡ false

-- no object is empty, and neighbours differ
abbrev pub AreTidy : List Rows → Type 0
AreTidy [] = ⊤
AreTidy (x ∷ xs) = (x.1 ≡ [] → ⊥) × IsNotFirst x.0 xs × AreTidy xs

abbrev pub parts_in : Store → Parts
parts_in s = record { schema = s.schema; usn = s.usn; vector = s.vector; times = s.times; purged = s.purged; marks = s.marks; objects = (apart s.rows).0; links = (apart s.rows).1 }

-- ---- images of stores

-- the version of the images that are written
abbrev pub image_version : ℕ
image_version = 2

abbrev pub image : Store → List ℕ
image s = image_of image_version (parts_in s)

-- what stands behind the version of an image, as a store
abbrev pub store_at : ℕ → Reading Store
store_at version = as_at store_of (parts_at version)

abbrev pub decoded : List ℕ → Result Store DecodeRefusal
decoded = read_either magic store_at

-- an image of a version that stands in other bytes
unfoldable pub image_at : ℕ → Reading Store
image_at version = headed_at magic version (store_at version)

-- bytes are an image of the store, in a version that is read and can tell it
pub record WasImage (bytes : List ℕ) (s : Store) : Type 0 where
  pub version : ℕ
  pub known : is_version version ≡ true
  pub of : IsOf version (parts_in s)
  pub spelled_so : bytes ≡ image_of version (parts_in s)

-- ---- which stores have a spelling

-- an update whose fields are in range, and which says what its key can say
abbrev pub IsSpelledRow : Key → Said → LinkStamp → Type 0
IsSpelledRow (RowOf o attr) (Holds c) stamp = IsOid o × IsU16 attr × IsContent attr c × IsStamp stamp.stamp × (stamp.created ≡ 0)
IsSpelledRow (RowOf o attr) (IsPresent b) stamp = ⊥
IsSpelledRow (LinkOf l) (Holds c) stamp = ⊥
IsSpelledRow (LinkOf l) (IsPresent b) stamp = IsOid l.from × IsU16 l.attr × IsOid l.to × IsU64 stamp.created × IsStamp stamp.stamp

pub record IsSpelled (s : Store) : Type 0 where
  pub schema : is_schema s.schema ≡ true
  pub usn : IsUsn0 s.usn
  pub vector : AllByRecursion IsCursor s.vector
  -- whose they are, the vector tells
  pub times : AllByRecursion (λ t. IsU64 t.1) s.times
  pub purged : AllByRecursion IsCursor s.purged
  pub marks : Each (λ (k : Marked). IsId k.0 × (IsId k.1.inv × IsMark k.1.mark)) s.marks
  pub partners : IsStrictlySortedBy identifier_order (map (λ (k : Marked). k.0) s.marks)
  pub rows : Each (λ (h : Held). IsSpelledRow h.update.key h.update.said h.update.stamp) s.rows
  -- the class of a dead object is in the table too
  pub classes : Each (λ (h : Held). (class : ℕ) → h.update.said ≡ Holds (Class class) → is_some (class_at (numbered s.schema) class) ≡ true) s.rows
