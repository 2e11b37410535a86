-- How many bytes an image has.
use Rattle.std.specs.Prelude.{ℕ, ◌+◌, ◌*◌, List, [], ◌∷◌, length}
use Rattle.adr_model.specs.Update.{Holds}
use Rattle.adr_model.specs.Lengths.{timed_length}
use Rattle.adr_model.specs.Serve.{content_length, vector_length}
use Rattle.adr_image.specs.Image.{HeldRow, Rows}
use Rattle.adr_image.specs.Whole.{Parts}

abbrev pub total : {E : Type 0} → (E → ℕ) → List E → ℕ
total f [] = 0
total f (e ∷ es) = f e + total f es

-- a local USN, an attribute and a stamp have 46 bytes
abbrev pub held_length : HeldRow → ℕ
held_length h = 46 + content_length (Holds h.1.2)

-- a name and a count have 42
abbrev pub object_length : Rows → ℕ
object_length o = 42 + total held_length o.1

abbrev pub parts_length : Parts → ℕ
parts_length p = 30 + timed_length p.vector + vector_length p.purged + 56 * length p.marks + total object_length p.objects + 135 * length p.links
