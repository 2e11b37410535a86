-- Which rows of an item are written, told row by row.
use Rattle.std.specs.Prelude.{List, Bool, true, false, ◌&&◌, not}
use Rattle.adr_model.specs.Update.{Update, class_attr, deleted_attr}
use Rattle.adr_model.specs.Store.{Held as Row}
use Rattle.adr_model.specs.Take.{is_above, is_of_attr}
use Rattle.adr_overlay.specs.declared.presence.Presence.TheVariants.{Dead, Held, Gone, New}
use Rattle.adr_overlay.specs.declared.standing.Standing.{Standing}
use Rattle.adr_overlay.specs.declared.standing.Standing.TheVariants.{OfObject, OfLink}

-- whether a row is taken, by what stands of its unit
abbrev pub is_taken : List Row → Standing → Update → Bool
is_taken rows (OfObject Dead class) u = is_of_attr deleted_attr u.key && is_above rows u
is_taken rows (OfObject Held class) u = not (is_of_attr class_attr u.key) && is_above rows u
is_taken rows (OfObject Gone class) u = false
is_taken rows (OfObject New class) u = true
is_taken rows (OfLink is_lost) u = not is_lost && is_above rows u

-- an object that lives or is new, which may die by its rows
abbrev pub can_die : Standing → Bool
can_die (OfObject Dead class) = false
can_die (OfObject Held class) = true
can_die (OfObject Gone class) = false
can_die (OfObject New class) = true
can_die (OfLink is_lost) = false
