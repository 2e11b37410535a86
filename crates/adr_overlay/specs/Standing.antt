-- What stands of a unit before its item.
use Rattle.std.specs.Prelude.{◌≡◌, ℕ, List, ◌||◌, Option, Some, None}
use Rattle.std.specs.Option.{option_and_then}
use Rattle.adr_values.specs.declared.stamp.Oid.{Oid}
use Rattle.adr_values.specs.declared.stamp.Unit.{Unit as Named}
use Rattle.adr_values.specs.declared.stamp.Unit.TheVariants.{Object, Link}
use Rattle.adr_values.specs.Vector.{Cursors}
use Rattle.adr_model.specs.Update.{RowOf, class_attr}
use Rattle.adr_model.specs.Store.{Held as Row, row_held}
use Rattle.adr_model.specs.Take.{class_said, is_lost_end, presence_of}
use Rattle.adr_overlay.specs.Presence.{defined}
use Rattle.adr_overlay.specs.declared.presence.Presence.TheVariants.{Dead, Held, Gone, New}
use Rattle.adr_overlay.specs.declared.standing.Standing.{Standing}
use Rattle.adr_overlay.specs.declared.standing.Standing.TheVariants.{OfObject, OfLink}

-- the class of an object that is held
abbrev pub class_held : List Row → Oid → Option ℕ
class_held rows o = option_and_then (λ h. class_said h.update.said) (row_held rows (RowOf o class_attr))

-- it stands so of the unit: of an object its presence and its class, of a link whether an end is dead or gone
abbrev pub IsStanding : Cursors → List Row → Named → Standing → Type 0
IsStanding vector rows (Object o) (OfObject presence class) = (defined presence ≡ presence_of vector rows o) × (class ≡ class_held rows o)
IsStanding vector rows (Object o) (OfLink is_lost) = ⊥
IsStanding vector rows (Link l) (OfObject presence class) = ⊥
IsStanding vector rows (Link l) (OfLink is_lost) = is_lost ≡ (is_lost_end vector rows l.from || is_lost_end vector rows l.to)

-- the object of a unit, if it is new
abbrev pub new_object : Named → Standing → Option Oid
new_object (Object o) (OfObject New class) = Some o
new_object (Object o) (OfObject Dead class) = None
new_object (Object o) (OfObject Held class) = None
new_object (Object o) (OfObject Gone class) = None
new_object (Object o) (OfLink is_lost) = None
new_object (Link l) standing = None
