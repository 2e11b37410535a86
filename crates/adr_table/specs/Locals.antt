-- Hints of the units that may have a row with a local USN.
use Rattle.std.specs.Prelude.{◌≡◌, ℕ, List, [], ◌∷◌, Bool, true, false, cond, Option, Some, None, ◌==◌, max, filter}
use Rattle.std.specs.Ordering.{nat_cmp, ordering_then}
use Rattle.std.specs.Option.{option_cmp}
use Rattle.std.specs.declared.cmp.Ordering.{Ordering}
use Rattle.std.specs.BTreeMap.{is_at}
use Rattle.std.specs.BTreeSet.{BTreeSet, contains}
use Rattle.adr_values.specs.declared.stamp.Unit.{Unit as Named}
use Rattle.adr_values.specs.declared.stamp.Unit.TheVariants.{Object, Link}
use Rattle.adr_values.specs.declared.stamp.Birth.{Birth}
use Rattle.adr_values.specs.declared.stamp.Oid.{Oid}
use Rattle.adr_model.specs.Member.{Each}
use Rattle.adr_model.specs.Update.{unit_of}
use Rattle.adr_model.specs.Store.{Held}
use Rattle.adr_shelves.specs.declared.place.Place.{Place}
use Rattle.adr_table.specs.declared.slots.Slots.{Slots}
use Rattle.adr_table.specs.declared.locals.Local.{Local}
use Rattle.adr_shelves.specs.Place.{place_of, place_order, rows_start, seat_at}
use Rattle.adr_table.specs.Slots.{rows_seen}

abbrev pub local_order : Local → Local → Ordering
local_order a b = ordering_then (nat_cmp a.usn b.usn) (option_cmp place_order a.unit b.unit)

-- the place of a unit
abbrev pub unit_place : Named → Place
unit_place (Object o) = record { is_link = false; guid = o.guid; birth = Some o.birth; attr = 0; other = None }
unit_place (Link l) = record { is_link = true; guid = l.from.guid; birth = Some l.from.birth; attr = l.attr; other = Some l.to }

-- the unit of a place, if it is that of one
abbrev pub unit_at : Place → Option Named
unit_at p = by p.is_link p.birth p.other
  where
    by : Bool → Option Birth → Option Oid → Option Named
    by b None other = None
    by true (Some birth) None = None
    by true (Some birth) (Some to) = Some (Link (record { from = record { guid = p.guid; birth = birth }; attr = p.attr; to = to }))
    by false (Some birth) other = Some (Object (record { guid = p.guid; birth = birth }))

-- the hint of a row
abbrev pub local_of : Held → Local
local_of h = record { usn = h.local; unit = Some (unit_place (unit_of h.update.key)) }

-- the row has its hint
abbrev pub IsLocated : BTreeSet Local → Held → Type 0
IsLocated locals h = contains local_order locals (local_of h) ≡ true

-- an object has its hint under a number
abbrev pub IsNamed : BTreeSet Local → Oid → ℕ → Type 0
IsNamed locals o usn = contains local_order locals (record { usn = usn; unit = Some (rows_start o) }) ≡ true

-- each row that is seen has its hint; a hint may have no row
abbrev pub AreLocated : Slots → BTreeSet Local → Type 0
AreLocated slots locals = Each (IsLocated locals) (rows_seen slots)

-- whether the row is of the unit of a place
abbrev pub is_of_seat : Place → Held → Bool
is_of_seat p h = is_at (place_order p) (seat_at (place_of h.update.key))

abbrev pub rows_of_seat : Place → List Held → List Held
rows_of_seat p rows = filter (is_of_seat p) rows

-- the greater one of a number so far and another
abbrev pub above : Option ℕ → ℕ → ℕ
above None n = n
above (Some m) n = max m n

-- the greatest local USN of rows and of what is found so far
abbrev pub greatest : Option ℕ → List Held → Option ℕ
greatest so_far [] = so_far
greatest so_far (h ∷ hs) = greatest (Some (above so_far h.local)) hs

-- whether the number is the one that is given
abbrev pub is_number : Option ℕ → ℕ → Bool
is_number None n = false
is_number (Some m) n = m == n

-- whether the unit of a hint has a row, and the hint's number is its last
abbrev pub is_last : List Held → Local → Bool
is_last rows hint = by hint.unit
  where
    by : Option Place → Bool
    by None = false
    by (Some p) = is_number (greatest None (rows_of_seat p rows)) hint.usn

-- the unit of a hint whose number is its last
abbrev pub unit_hinted : List Held → Local → Option Named
unit_hinted rows hint = by hint.unit
  where
    by : Option Place → Option Named
    by None = None
    by (Some p) = cond (is_last rows hint) (unit_at p) None
