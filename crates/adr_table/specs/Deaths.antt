-- Hints of the objects that are held dead.
use Rattle.std.specs.Prelude.{◌≡◌, IfSome, true}
use Rattle.std.specs.BTreeSet.{BTreeSet, contains}
use Rattle.adr_values.specs.Order.{object_order}
use Rattle.adr_values.specs.declared.stamp.Oid.{Oid}
use Rattle.adr_model.specs.Change.{killed_by}
use Rattle.adr_model.specs.Member.{Each}
use Rattle.adr_model.specs.Update.{Key}
use Rattle.adr_table.specs.declared.slots.Slots.{Slots}
use Rattle.adr_table.specs.Slots.{rows_seen}

-- the object of a death is listed
abbrev pub IsListed : BTreeSet Oid → Key → Type 0
IsListed dead k = IfSome (killed_by k) (λ o. contains object_order dead o ≡ true)

-- the object of each death that is seen is listed; an object that is listed may have none
abbrev pub AreListed : Slots → BTreeSet Oid → Type 0
AreListed slots dead = Each (λ h. IsListed dead h.update.key) (rows_seen slots)
