-- Slots of rows: what is seen of them, and how many rows of a kind there are.
use Rattle.std.specs.Prelude.{◌≡◌, List, [], ◌∷◌, true, Option, Some, None, IfSome, IsSome, filter}
use Rattle.std.specs.List.{filter_map}
use Rattle.std.specs.List.Sorted.{IsStrictlySortedBy}
use Rattle.std.specs.Map.{keys_of, lookup}
use Rattle.std.specs.BTreeMap.{is_at}
use Rattle.adr_model.specs.Store.{Held}
use Rattle.adr_values.specs.declared.stamp.Oid.{Oid}
use Rattle.adr_shelves.specs.declared.place.Place.{Place}
use Rattle.adr_table.specs.declared.slots.Slots.{Slots}
use Rattle.adr_shelves.specs.Shelves.{flat, tally}
use Rattle.adr_shelves.specs.Place.{is_in_run, is_of_class, is_of_link, place_of, place_order, rows_start}

-- the rows in slots, in their order; an empty slot isn't seen
abbrev pub seen : List (Place × Option Held) → List Held
seen es = filter_map (λ e. e.1) es

abbrev pub rows_seen : Slots → List Held
rows_seen slots = seen slots.map

-- each row stands at the place of its key
abbrev pub AreAtHome : List (Place × Option Held) → Type 0
AreAtHome [] = Unit {0}
AreAtHome (e ∷ es) = IfSome e.1 (λ h. place_of h.update.key ≡ e.0) × AreAtHome es

-- places rise, each row stands at its own, and the rows are counted
pub record IsTidy (slots : Slots) : Type 0 where
  pub ordered : IsStrictlySortedBy place_order (keys_of slots.map)
  pub home : AreAtHome slots.map
  pub objects : slots.objects ≡ tally is_of_class slots.map
  pub links : slots.links ≡ tally is_of_link slots.map

-- what is in the slot of a place, if there is one
abbrev pub row_at : Slots → Place → Option Held
row_at slots place = flat (lookup (is_at (place_order place)) slots.map)

-- there is a slot at the place
abbrev pub HasSlot : Slots → Place → Type 0
HasSlot slots place = IsSome (lookup (is_at (place_order place)) slots.map)

-- no slot of an object is empty
abbrev pub AreFull : Slots → Oid → Type 0
AreFull slots o = (q : Place) → is_in_run (rows_start o) q ≡ true → lookup (is_at (place_order q)) slots.map ≡ Some None → ⊥

-- the places that have slots
abbrev pub places : Slots → List Place
places slots = keys_of slots.map

-- the rows whose places are in a run
abbrev pub rows_in_run : Place → List Held → List Held
rows_in_run start rows = filter (λ h. is_in_run start (place_of h.update.key)) rows
