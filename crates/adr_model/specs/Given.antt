-- Writes that a client can send.
use Rattle.std.specs.Prelude.{◌≢◌, List, []}
use Rattle.std.specs.List.Sorted.{IsStrictlySortedBy}
use Rattle.std.specs.Ordering.{nat_cmp}
use Rattle.adr_values.specs.Assignments.{Given, attributes}
use Rattle.adr_model.specs.Write.{Write, AddObject, Modify, Rename, Delete, AddLink, RemoveLink, Revive}
use Rattle.adr_model.specs.Formed.{IsFormedStore}

-- values by attribute, rising
abbrev pub AreInOrder : List Given → Type 0
AreInOrder values = IsStrictlySortedBy nat_cmp (attributes values)

-- each attribute is given once, and a modification gives some; an image is formed
abbrev pub IsWellGiven : Write → Type 0
IsWellGiven (AddObject guid class parent text values) = AreInOrder values
IsWellGiven (Modify guid values) = AreInOrder values × (values ≢ [])
IsWellGiven (Rename guid parent text) = Unit {0}
IsWellGiven (Delete guid) = Unit {0}
IsWellGiven (AddLink from attr to) = Unit {0}
IsWellGiven (RemoveLink from attr to) = Unit {0}
IsWellGiven (Revive image guid parent text) = IsFormedStore image
