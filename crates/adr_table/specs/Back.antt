-- Hints of the links that end at an object.
use Rattle.std.specs.Prelude.{◌≡◌, Option, Some, None, IsSome, Bool, true, false}
use Rattle.std.specs.Ordering.{nat_cmp, ordering_then}
use Rattle.std.specs.Option.{option_cmp}
use Rattle.std.specs.declared.cmp.Ordering.{Ordering}
use Rattle.std.specs.BTreeMap.{is_at}
use Rattle.std.specs.BTreeSet.{BTreeSet, contains}
use Rattle.adr_values.specs.Order.{object_order}
use Rattle.adr_values.specs.declared.stamp.LinkKey.{LinkKey}
use Rattle.adr_model.specs.Update.{Key, RowOf, LinkOf}
use Rattle.adr_model.specs.Store.{Held}
use Rattle.adr_shelves.specs.declared.place.Place.{Place}
use Rattle.adr_table.specs.declared.slots.Slots.{Slots}
use Rattle.adr_table.specs.declared.back.Source.{Source}
use Rattle.adr_table.specs.declared.back.Behind.{Behind}
use Rattle.adr_shelves.specs.Place.{place_of, place_order}
use Rattle.adr_table.specs.Slots.{row_at}

abbrev pub source_order : Source → Source → Ordering
source_order a b = ordering_then (object_order a.object b.object) (nat_cmp a.attr b.attr)

abbrev pub behind_order : Behind → Behind → Ordering
behind_order a b = ordering_then (object_order a.to b.to) (option_cmp source_order a.from b.from)

abbrev pub hint : LinkKey → Behind
hint l = record { to = l.to; from = Some (record { object = l.from; attr = l.attr }) }

-- the link of a hint
abbrev pub link_behind : Behind → Option LinkKey
link_behind b = by b.from
  where
    by : Option Source → Option LinkKey
    by None = None
    by (Some s) = Some (record { from = s.object; attr = s.attr; to = b.to })

-- each link row that is seen has its hint
abbrev pub AreBacked : Slots → BTreeSet Behind → Type 0
AreBacked slots back = (l : LinkKey) → IsSome (row_at slots (place_of (LinkOf l))) → contains behind_order back (hint l) ≡ true

-- whether the place is that of the link
abbrev pub is_place_of : Option LinkKey → Place → Bool
is_place_of None q = false
is_place_of (Some l) q = is_at (place_order (place_of (LinkOf l))) q

-- the row of a link
abbrev pub row_of_link : Slots → Option LinkKey → Option Held
row_of_link slots None = None
row_of_link slots (Some l) = row_at slots (place_of (LinkOf l))

-- a link has its hint
abbrev pub IsHinted : BTreeSet Behind → Key → Type 0
IsHinted back (RowOf o a) = Unit {0}
IsHinted back (LinkOf l) = contains behind_order back (hint l) ≡ true
