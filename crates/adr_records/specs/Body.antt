-- What a record makes of a state.
use Rattle.std.specs.Prelude.{if◌then◌else◌, ◌&&◌, ℕ, nat_le, List, Bool, Option, Some, None}
use Rattle.std.specs.List.{list_all}
use Rattle.adr_model.specs.Change.{Change, Written, after}
use Rattle.adr_model.specs.Store.{State}
use Rattle.adr_law_calls.specs.Tested.{can_follow}
use Rattle.adr_model.specs.Lengths.{area_version}
use Rattle.adr_image.specs.Changes.{change_bytes, decoded_change}
use Rattle.adr_wire.specs.Headed.{is_version}

-- whether what is written has local USNs up to the USN after
abbrev pub are_locals_within : Change → Bool
are_locals_within c = list_all (λ (w : Written). nat_le w.local c.usn) c.writes

abbrev pub by_change : State → Option Change → Option State
by_change s None = None
by_change s (Some c) = if are_locals_within c && can_follow s c then Some (after s c) else None

-- the state after the change whose body of a version these bytes are, under the schema of the state, where it can follow
abbrev pub following : ℕ → State → List ℕ → Option State
following version s bytes = by_change s (decoded_change version s.store.usn s.store.schema bytes)

-- the same, by the version of the area in which the record stands, if it is one that is read
abbrev pub following_in : ℕ → State → List ℕ → Option State
following_in version s bytes = if is_version version then following version s bytes else None

-- the body of the record that is written of a change
abbrev pub body_of : Change → List ℕ
body_of = change_bytes area_version
