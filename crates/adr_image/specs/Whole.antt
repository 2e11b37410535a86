-- A whole image: its parts as bytes, and the store that they are.
use Rattle.std.specs.Prelude.{if◌then◌else◌, ◌≡◌, ℕ, List, [], ◌∷◌, ◌++◌, ◌==◌, ◌||◌, Bool, true, length, map, nat_le, filter, fold, None, Result}
use Rattle.std.specs.List.{flat_map}
use Rattle.adr_values.specs.declared.stamp.Oid.{Oid}
use Rattle.adr_values.specs.Table.{Table}
use Rattle.adr_values.specs.Numbered.{numbered}
use Rattle.adr_values.specs.Vector.{Cursors, at_most}
use Rattle.adr_wire.specs.declared.refusal.DecodeRefusal.{DecodeRefusal}
use Rattle.adr_wire.specs.Headed.{head, read_either}
use Rattle.adr_wire.specs.Reading.{Reading, as_at, where_at, then_at, gathered_at}
use Rattle.adr_wire.specs.Fields.{u32_at, usn0_at, u32, u64}
use Rattle.adr_wire.specs.Composites.{vector_at, vector}
use Rattle.adr_wire.specs.Timed.{Timed, timed_at, timed}
use Rattle.adr_model.specs.Write.{object_limit, link_limit}
use Rattle.adr_model.specs.Take.{mark_limit}
use Rattle.adr_image.specs.Image.{Rows, HeldLink, Marked, no_objects, with_rows, object_at, object, is_dead, Linked, with_link, link_at, held_link, marks_of, kept}

-- the numbers of the schemas that there are
abbrev pub is_schema : ℕ → Bool
is_schema number = (number == 1) || (number == 2)

-- and those that an image of a version tells: the first version knows the first schema alone
abbrev pub is_schema_of : ℕ → ℕ → Bool
is_schema_of version number = if version == 1 then number == 1 else is_schema number

-- what an image says, in its order
pub record Parts : Type 0 where
  pub schema : ℕ
  pub usn : ℕ
  pub vector : Cursors
  pub times : Cursors
  pub purged : Cursors
  pub marks : List Marked
  pub objects : List Rows
  pub links : List HeldLink

-- ---- read

abbrev pub count_at : ℕ → Reading ℕ
count_at most = where_at (λ n. nat_le n most) u32_at

unfoldable pub marks_at : Reading (List Marked)
marks_at = as_at (λ p. p.1) (then_at (count_at mark_limit) marks_of)

unfoldable pub objects_at : ℕ → Table → Reading (List Rows)
objects_at usn table = as_at (λ p. p.1) (then_at (count_at object_limit) (λ count. gathered_at with_rows (object_at usn table) count no_objects))

abbrev pub dead_of : List Rows → List Oid
dead_of objects = map (λ (o : Rows). o.0) (filter is_dead objects)

-- what is known before the first link
abbrev pub no_links : List Rows → Linked
no_links objects = record { last = None; used = (fold with_rows no_objects objects).used }

unfoldable pub links_at : ℕ → Table → List Rows → Reading (List HeldLink)
links_at usn table objects =
    as_at (λ p. p.1) (then_at (count_at link_limit) (λ count. gathered_at with_link (link_at usn table (dead_of objects)) count (no_links objects)))

abbrev pub Tuple : Type 0
Tuple = ℕ × (ℕ × (Timed × (Cursors × (List Marked × (List Rows × List HeldLink)))))

-- what stands behind the version
unfoldable pub tuple_at : ℕ → Reading Tuple
tuple_at version =
    then_at (where_at (is_schema_of version) u32_at) (λ schema.
    then_at usn0_at (λ usn.
    then_at (timed_at version) (λ seen.
    then_at (where_at (λ p. at_most p seen.0) vector_at) (λ _.
    then_at marks_at (λ _.
    then_at (objects_at usn (numbered schema)) (λ objects.
    links_at usn (numbered schema) objects))))))

abbrev pub parts_of : Tuple → Parts
parts_of t =
    record {
      schema = t.0;
      usn = t.1.0;
      vector = t.1.1.0.0;
      times = t.1.1.0.1;
      purged = t.1.1.1.0;
      marks = t.1.1.1.1.0;
      objects = t.1.1.1.1.1.0;
      links = t.1.1.1.1.1.1;
    }

unfoldable pub parts_at : ℕ → Reading Parts
parts_at version = as_at parts_of (tuple_at version)

-- `ADIM`
abbrev pub magic : List ℕ
magic = 65 ∷ 68 ∷ 73 ∷ 77 ∷ []

-- what bytes say, or that they are of another version, or the least place that breaks a rule
abbrev pub read_parts : List ℕ → Result Parts DecodeRefusal
read_parts = read_either magic parts_at

-- ---- spelled

abbrev pub marks : List Marked → List ℕ
marks ks = u32 (length ks) ++ flat_map kept ks

abbrev pub objects : List Rows → List ℕ
objects os = u32 (length os) ++ flat_map object os

abbrev pub links : List HeldLink → List ℕ
links ls = u32 (length ls) ++ flat_map held_link ls

abbrev pub body : ℕ → Parts → List ℕ
body version p =
    u32 p.schema ++ (u64 p.usn ++ (timed version (p.vector, p.times) ++ (vector p.purged ++ (marks p.marks ++ (objects p.objects ++ links p.links)))))

abbrev pub image_of : ℕ → Parts → List ℕ
image_of version p = head magic version ++ body version p

-- parts that an image of the version can tell: the first tells the first schema, and no times
abbrev pub IsOf : ℕ → Parts → Type 0
IsOf version p = (version == 1) ≡ true → (p.schema ≡ 1) × (p.times ≡ [])
