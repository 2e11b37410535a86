-- Held rows as an image has them.
use Rattle.std.specs.Prelude.{if◌then◌else◌, ◌≡◌, ◌≤◌, ◌<◌, ◌^◌, ℕ, suc, List, [], ◌∷◌, ◌++◌, All, Option, Some, None, ⊤, drop, length, map, take}
use Rattle.std.specs.List.{filter_map, flat_map}
use Rattle.adr_values.specs.declared.stamp.Oid.{Oid}
use Rattle.adr_values.specs.declared.stamp.LinkStamp.{LinkStamp}
use Rattle.adr_wire.specs.Fields.{u16, u64}
use Rattle.adr_wire.specs.Composites.{IsShortContent, link, oid, row}
use Rattle.adr_model.specs.Live.{born}
use Rattle.adr_model.specs.Update.{Key, RowOf, LinkOf, Said, Holds, IsPresent}
use Rattle.adr_model.specs.Store.{Held, is_row_of}
use Rattle.adr_model.specs.Write.{object_limit, link_limit}
use Rattle.adr_image.specs.Image.{Rows, HeldLink, object}
use Rattle.adr_image.specs.Stored.{AreTidy, apart, link_of, rows_of}

abbrev pub told : Key → LinkStamp → Said → List ℕ
told (RowOf o attr) stamp (Holds c) = row (attr, stamp.stamp, c)
told (RowOf o attr) stamp (IsPresent b) = []
told (LinkOf l) stamp (Holds c) = []
told (LinkOf l) stamp (IsPresent b) = link (l, stamp, b)

-- a local USN, and the row or the link
abbrev pub held : Held → List ℕ
held h = u64 h.local ++ told h.update.key h.update.stamp h.update.said

-- what lengths of two bytes and counts of one can say
abbrev pub IsShortSaid : Said → Type 0
IsShortSaid (Holds c) = IsShortContent c
IsShortSaid (IsPresent b) = ⊤

-- how many rows at the front are the object's
abbrev pub own_rows : Oid → List Held → ℕ
own_rows o [] = 0
own_rows o (h ∷ hs) = if is_row_of o h.update.key then suc (own_rows o hs) else 0

-- the object of the first row, if it is one of an object
abbrev pub object_of : Key → Option Oid
object_of (RowOf o attr) = Some o
object_of (LinkOf l) = None

abbrev pub first_object : List Held → Option Oid
first_object [] = None
first_object (h ∷ hs) = object_of h.update.key

-- the object at the front with its rows
abbrev pub next_object : Oid → List Held → List ℕ
next_object o hs = oid o ++ (u16 (own_rows o hs) ++ flat_map held (take (own_rows o hs) hs))

-- no object has more rows than a count of two bytes can say
abbrev pub HaveFewRows : List Held → Type 0
HaveFewRows hs = (o : Oid) (k : ℕ) → own_rows o (drop k hs) < 2 ^ 16

-- behind what was there all objects are written, and the links are left
abbrev pub IsWritten : List ℕ → List ℕ → List Held → List Held → Type 0
IsWritten before after rows rest =
    (os : List Rows) (ls : List HeldLink) → AreTidy os → rows ≡ rows_of (os, ls) → (after ≡ before ++ flat_map object os) × (rest ≡ map link_of ls)

-- rows that are objects and links, few enough for their counts
pub record IsWritable (rows : List Held) : Type 0 where
  pub joined : rows ≡ rows_of (apart rows)
  pub tidy : AreTidy (apart rows).0
  pub births : length (filter_map (λ h. born h.update.key) rows) ≡ length (apart rows).0
  pub few_objects : length (apart rows).0 ≤ object_limit
  pub few_links : length (apart rows).1 ≤ link_limit
  pub few : HaveFewRows rows
  pub short : All (λ (h : Held). IsShortSaid h.update.said) rows
