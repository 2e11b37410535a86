-- What is looked for among rows: the links at an object, and units by their last local USNs.
use Rattle.std.specs.Prelude.{◌≡◌, ◌<◌, ◌≤◌, ℕ, List, Bool, true, false, Option, Some, None, ◌==◌, filter}
use Rattle.std.specs.List.{list_any}
use Rattle.adr_values.specs.declared.stamp.Oid.{Oid}
use Rattle.adr_values.specs.declared.stamp.Unit.{Unit as Named}
use Rattle.adr_model.specs.Update.{Key, RowOf, LinkOf, same_object, same_unit, unit_of}
use Rattle.adr_model.specs.Store.{Held}
use Rattle.adr_model.specs.Serve.{last_local, units_of}

-- whether the key is that of a link from the object, and of a link to it
abbrev pub is_link_from : Oid → Key → Bool
is_link_from o (RowOf p attr) = false
is_link_from o (LinkOf l) = same_object l.from o

abbrev pub is_link_to : Oid → Key → Bool
is_link_to o (RowOf p attr) = false
is_link_to o (LinkOf l) = same_object l.to o

-- the rows of a unit
abbrev pub rows_of_unit : List Held → Named → List Held
rows_of_unit rows unit = filter (λ h. same_unit (unit_of h.update.key) unit) rows

-- the units that are held whose last local USN is this, rising
abbrev pub units_at : List Held → ℕ → List Named
units_at rows usn = filter (λ unit. last_local rows unit == usn) (units_of rows)

-- A number behind this one, with the last local USN of no unit that is held between them; or there is none behind it.
abbrev pub IsNextLocal : List Held → ℕ → Option ℕ → Type 0
IsNextLocal rows usn None = (unit : Named) → list_any (λ h. same_unit (unit_of h.update.key) unit) rows ≡ true → usn < last_local rows unit → ⊥
IsNextLocal rows usn (Some next) =
    (usn < next) × ((unit : Named) → list_any (λ h. same_unit (unit_of h.update.key) unit) rows ≡ true → usn < last_local rows unit → next ≤ last_local rows unit)
