-- Where the row of a key stands, and runs of places.
use Rattle.std.specs.Prelude.{◌≡◌, Some, None, Bool, true, false, ◌&&◌, ◌||◌, nat_le, nat_lt, ◌==◌, not, cond, ℕ}
use Rattle.std.specs.Ordering.{nat_cmp, bool_cmp, is_eq, ordering_then}
use Rattle.std.specs.Option.{is_none, option_cmp}
use Rattle.std.specs.declared.cmp.Ordering.{Ordering}
use Rattle.std.specs.BTreeMap.{is_at}
use Rattle.adr_values.specs.Order.{identifier_order, birth_order, object_order}
use Rattle.adr_values.specs.declared.stamp.Oid.{Oid}
use Rattle.adr_model.specs.Update.{Identifier, Key, RowOf, LinkOf, class_attr, same_identifier}
use Rattle.adr_shelves.specs.declared.place.Place.{Place}
use Rattle.adr_shelves.specs.declared.place.ObjectSeat.{ObjectSeat}
use Rattle.adr_shelves.specs.declared.place.LinkSeat.{LinkSeat}

abbrev pub place_of : Key → Place
place_of (RowOf o a) = record { is_link = false; guid = o.guid; birth = Some o.birth; attr = a; other = None }
place_of (LinkOf l) = record { is_link = true; guid = l.from.guid; birth = Some l.from.birth; attr = l.attr; other = Some l.to }

abbrev pub place_order : Place → Place → Ordering
place_order p q =
    ordering_then (bool_cmp p.is_link q.is_link)
    (ordering_then (identifier_order p.guid q.guid)
    (ordering_then (option_cmp birth_order p.birth q.birth)
    (ordering_then (nat_cmp p.attr q.attr) (option_cmp object_order p.other q.other))))

abbrev pub object_seat_order : ObjectSeat → ObjectSeat → Ordering
object_seat_order s t = ordering_then (identifier_order s.guid t.guid) (option_cmp birth_order s.birth t.birth)

abbrev pub link_seat_order : LinkSeat → LinkSeat → Ordering
link_seat_order s t =
    ordering_then (identifier_order s.guid t.guid)
    (ordering_then (option_cmp birth_order s.birth t.birth)
    (ordering_then (nat_cmp s.attr t.attr) (option_cmp object_order s.other t.other)))

-- whether the place is of the object of the first one, with its attribute or a greater one; a first one without a birth
-- stands for all objects of its GUID
abbrev pub is_in_run : Place → Place → Bool
is_in_run start p =
    is_eq (bool_cmp start.is_link p.is_link)
    && (same_identifier start.guid p.guid
    && (is_none start.birth || (is_eq (option_cmp birth_order start.birth p.birth) && nat_le start.attr p.attr)))

-- the place comes before all of its run
abbrev pub IsStart : Place → Type 0
IsStart start = (start.other ≡ None) × ((is_none start.birth && nat_lt 0 start.attr) ≡ false)

-- where the rows of a GUID begin, those of an object, those of it that aren't reserved, and the links from it
abbrev pub guid_start : Identifier → Place
guid_start guid = record { is_link = false; guid = guid; birth = None; attr = 0; other = None }

abbrev pub rows_start : Oid → Place
rows_start o = record { is_link = false; guid = o.guid; birth = Some o.birth; attr = 0; other = None }

abbrev pub values_start : Oid → Place
values_start o = record { is_link = false; guid = o.guid; birth = Some o.birth; attr = 4; other = None }

abbrev pub links_start : Oid → Place
links_start o = record { is_link = true; guid = o.guid; birth = Some o.birth; attr = 0; other = None }

-- whether class rows stand at the place, and whether link rows do
abbrev pub is_of_class : Place → Bool
is_of_class p = not p.is_link && (p.attr == class_attr)

abbrev pub is_of_link : Place → Bool
is_of_link p = p.is_link

-- the place of the unit whose row stands at a place
abbrev pub seat_at : Place → Place
seat_at p = record { is_link = p.is_link; guid = p.guid; birth = p.birth; attr = cond p.is_link p.attr 0; other = cond p.is_link p.other None }

-- whether the place is of the unit at a seat
abbrev pub is_of_unit : Place → Place → Bool
is_of_unit seat p = is_at (place_order seat) (seat_at p)

-- the place of an attribute of the unit at a seat
abbrev pub place_in : Place → ℕ → Place
place_in seat attr = record seat { attr = attr }

-- whether a unit stands at the place: an object stands at its attribute 0
abbrev pub is_seat : Place → Bool
is_seat p = p.is_link || ((p.attr == 0) && is_none p.other)

-- the seat of the object whose row stands at a place, and the place of a seat
abbrev pub object_seat : Place → ObjectSeat
object_seat p = record { guid = p.guid; birth = p.birth }

abbrev pub object_place : ObjectSeat → Place
object_place s = record { is_link = false; guid = s.guid; birth = s.birth; attr = 0; other = None }

-- the same of links
abbrev pub link_seat : Place → LinkSeat
link_seat p = record { guid = p.guid; birth = p.birth; attr = p.attr; other = p.other }

abbrev pub link_place : LinkSeat → Place
link_place s = record { is_link = true; guid = s.guid; birth = s.birth; attr = s.attr; other = s.other }

-- whether a row may stand at the place: only a link's has another end
abbrev pub is_proper : Place → Bool
is_proper p = p.is_link || is_none p.other
