-- The front of a log, which says whose it is, and an area, which has the image of a state.
use Rattle.std.specs.Prelude.{if◌then◌else◌, ◌==◌, ℕ, ◌+◌, List, [], ◌∷◌, ◌++◌, length, take, drop, nat_lt, Ok, Err}
use Rattle.adr_values.specs.Vector.{at}
use Rattle.adr_wire.specs.Reading.{Reading, ◌>>=◌, as_at, then_at, where_at}
use Rattle.adr_wire.specs.Headed.{is_version}
use Rattle.adr_wire.specs.Fields.{format_version_at, id_at, magic_at, u16_at, u32_at, u16, u32, id}
use Rattle.adr_model.specs.Lengths.{area_version}
use Rattle.adr_model.specs.Update.{Identifier}
use Rattle.adr_model.specs.Store.{Normal, State, Store}
use Rattle.adr_law_journal.specs.Areas.{Began}
use Rattle.adr_image.specs.Stored.{image, image_at}

-- ---- whose log it is: the controller and its database

-- `ADJL`
abbrev pub magic : List ℕ
magic = 65 ∷ 68 ∷ 74 ∷ 76 ∷ []

unfoldable pub front_at : Reading (Identifier × Identifier)
front_at =
    as_at (λ p. p.1.1)
    (then_at (magic_at magic) (λ _.
    then_at (format_version_at 2) (λ _.
    then_at id_at (λ _. id_at))))

abbrev pub front : Identifier × Identifier → List ℕ
front o = magic ++ (u16 2 ++ (id o.0 ++ id o.1))

-- ---- an image of so many bytes

-- what so many bytes are as a whole, as far as they are there
unfoldable pub within_at : {X : Type 0} → Reading X → ℕ → Reading X
within_at read n rest =
    read (record { place = rest.place; bytes = take n rest.bytes }) >>= λ x.
    if nat_lt 0 (length x.1.bytes) then Err x.1.place else Ok x

-- the same, and then all of them must be there
unfoldable pub framed_at : {X : Type 0} → Reading X → ℕ → Reading X
framed_at read n rest =
    within_at read n rest >>= λ x.
    if nat_lt (length rest.bytes) n then Err (rest.place + length rest.bytes)
    else Ok (x.0, record { place = rest.place + n; bytes = drop n rest.bytes })

-- an image of a version whose own cursor is its USN
unfoldable pub own_image_at : ℕ → Identifier → ℕ → Reading Store
own_image_at version inv n = where_at (λ (s : Store). at s.vector inv == s.usn) (framed_at (image_at version) n)

-- ---- an area: its version, how many bytes its image has, and the image, which is of the same version

unfoldable pub sized_at : Reading (ℕ × ℕ)
sized_at = then_at (where_at is_version u16_at) (λ _. u32_at)

abbrev pub sized : ℕ × ℕ → List ℕ
sized p = u16 p.0 ++ u32 p.1

abbrev pub state_of : Identifier × Identifier → Store → State
state_of o s = record { dsa = o.0; inv = o.1; mode = Normal; store = s }

abbrev pub began : ℕ → State → Began State
began version s = record { version = version; state = s }

unfoldable pub area_at : Identifier × Identifier → Reading (Began State)
area_at o = as_at (λ p. began p.0.0 (state_of o p.1)) (then_at sized_at (λ p. own_image_at p.0 o.1 p.1))

-- an area of a version that has these bytes as its image
abbrev pub area_of : ℕ → List ℕ → List ℕ
area_of version bytes = sized (version, length bytes) ++ bytes

-- the area of a state that is written
abbrev pub area : State → List ℕ
area s = area_of area_version (image s.store)
