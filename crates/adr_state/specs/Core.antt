-- The rows that decide whether an object is live, and how it is named: class, name and death.
use Rattle.std.specs.Prelude.{List, Bool, false, Option, Some, None, not, nat_lt, filter, if◌then◌else◌}
use Rattle.adr_values.specs.declared.stamp.Oid.{Oid}
use Rattle.adr_model.specs.Update.{Identifier, Key, RowOf, LinkOf, deleted_attr}
use Rattle.adr_model.specs.Store.{Held}
use Rattle.adr_model.specs.Write.{is_of_guid}

-- the key is that of a row that stays beside a death: attribute 0 to 3, of which 0 stands in no formed store
abbrev pub is_core : Key → Bool
is_core (RowOf o attr) = not (nat_lt deleted_attr attr)
is_core (LinkOf l) = false

-- the object of which a row of the key says the class, the name or the death
abbrev pub core_object : Key → Option Oid
core_object (RowOf o attr) = if nat_lt deleted_attr attr then None else Some o
core_object (LinkOf l) = None

-- the reserved rows of the objects of a GUID
abbrev pub core_of : Identifier → List Held → List Held
core_of guid rows = filter (λ h. is_core h.update.key) (filter (λ h. is_of_guid guid h.update.key) rows)
