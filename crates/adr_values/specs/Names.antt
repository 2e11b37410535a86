-- The names of classes and attributes, and what is wrong with the name of an object.
use Rattle.std.specs.Prelude.{ℕ, ◌+◌, List, length, slice_index, Bool, ◌==◌, ◌&&◌, ◌||◌, nat_lt, if◌then◌else◌, Option, Some}
use Rattle.std.specs.Option.{option_map}
use Rattle.adr_values.specs.Places.{first_place}
use Rattle.adr_values.specs.Table.{class_at, class_named, attribute_at, attribute_named}
use Rattle.adr_values.specs.Schemas.{spoken}

abbrev pub class_name : ℕ → Option (List ℕ)
class_name number = option_map (λ c. c.name) (class_at spoken number)

abbrev pub class_number : List ℕ → Option ℕ
class_number name = option_map (λ c. c.number) (class_named spoken name)

abbrev pub attribute_name : ℕ → Option (List ℕ)
attribute_name number = option_map (λ a. a.name) (attribute_at spoken number)

abbrev pub attribute_number : List ℕ → Option ℕ
attribute_number name = option_map (λ a. a.number) (attribute_named spoken name)

-- a space at the front or the end
abbrev pub is_outer_space : List ℕ → ℕ → Bool
is_outer_space bytes place = (slice_index bytes place == 32) && ((place == 0) || (place + 1 == length bytes))

-- a control byte, or a space at the front or the end
abbrev pub is_wrong_byte : List ℕ → ℕ → Bool
is_wrong_byte bytes place = nat_lt (slice_index bytes place) 32 || (slice_index bytes place == 127) || is_outer_space bytes place

-- the place at which a name of an object is wrong: 0 where it is empty, 128 where it is longer than that
unfoldable pub name_fault : List ℕ → Option ℕ
name_fault bytes =
    if length bytes == 0 then Some 0
    else (if nat_lt 128 (length bytes) then Some 128 else first_place (is_wrong_byte bytes) (length bytes))
