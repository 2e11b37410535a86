-- Shelves: the slots of a unit stand side by side, each at the place of its attribute.
use Rattle.std.specs.Prelude.{◌≡◌, ℕ, ◌+◌, List, [], ◌∷◌, ◌++◌, Bool, true, false, cond, not, ◌&&◌, ◌||◌, Option, Some, None, is_some, nat_le, nat_lt, filter, map}
use Rattle.std.specs.List.{AllByRecursion}
use Rattle.std.specs.List.Sorted.{IsStrictlySortedBy}
use Rattle.std.specs.Map.{keys_of, lookup}
use Rattle.std.specs.Ordering.{nat_cmp}
use Rattle.std.specs.declared.ops.Bound.{Bound}
use Rattle.std.specs.declared.ops.Bound.TheVariants.{Included, Excluded}
use Rattle.std.specs.BTreeMap.{insert_entry, is_at}
use Rattle.std.specs.Option.{is_none, unwrap_or}
use Rattle.adr_values.specs.declared.stamp.Oid.{Oid}
use Rattle.adr_model.specs.Change.{killed_by}
use Rattle.adr_model.specs.Store.{Held, is_row_of}
use Rattle.adr_model.specs.Update.{Update}
use Rattle.adr_shelves.specs.declared.place.Place.{Place}
use Rattle.adr_shelves.specs.declared.place.ObjectSeat.{ObjectSeat}
use Rattle.adr_shelves.specs.declared.place.LinkSeat.{LinkSeat}
use Rattle.adr_shelves.specs.Place.{is_of_unit, link_place, object_place, place_in, place_of, place_order, seat_at}

-- the slots of a shelf, each at its place
abbrev pub shelf_entries : Place → List (ℕ × Option Held) → List (Place × Option Held)
shelf_entries seat [] = []
shelf_entries seat (s ∷ ss) = (place_in seat s.0, s.1) ∷ shelf_entries seat ss

-- the slots of all shelves, in order
abbrev pub entries_of : List (Place × List (ℕ × Option Held)) → List (Place × Option Held)
entries_of [] = []
entries_of (u ∷ us) = shelf_entries u.0 u.1 ++ entries_of us

-- shelves at the places of their seats
abbrev pub placed : {S : Type 0} → (S → Place) → List (S × List (ℕ × Option Held)) → List (Place × List (ℕ × Option Held))
placed place us = map (λ u. (place u.0, u.1)) us

-- those of objects, and behind them those of links
abbrev pub all_shelves : List (ObjectSeat × List (ℕ × Option Held)) → List (LinkSeat × List (ℕ × Option Held)) → List (Place × List (ℕ × Option Held))
all_shelves objects links = placed object_place objects ++ placed link_place links

-- a shelf stands at the seat of its unit, its slots rise, and that of a link has the link's attribute alone
pub record IsShelf (seat : Place) (slots : List (ℕ × Option Held)) : Type 0 where
  pub seated : seat_at seat ≡ seat
  pub rising : IsStrictlySortedBy nat_cmp (keys_of slots)
  pub own : seat.is_link ≡ true → AllByRecursion (λ a. a ≡ seat.attr) (keys_of slots)

abbrev pub AreAllShelves : List (Place × List (ℕ × Option Held)) → Type 0
AreAllShelves [] = Unit {0}
AreAllShelves (u ∷ us) = IsShelf u.0 u.1 × AreAllShelves us

-- shelves in order of their seats
pub record AreShelves (us : List (Place × List (ℕ × Option Held))) : Type 0 where
  pub ordered : IsStrictlySortedBy place_order (keys_of us)
  pub each : AreAllShelves us

-- from a place on, or only behind it
abbrev pub start_at : Bool → Place → Bound Place
start_at true p = Included p
start_at false p = Excluded p

-- whether an attribute is behind another, or may be the same
abbrev pub is_behind : Bool → ℕ → ℕ → Bool
is_behind true a b = nat_le a b
is_behind false a b = nat_lt a b

abbrev pub flat : Option (Option Held) → Option Held
flat None = None
flat (Some o) = o

abbrev pub one_more_if : Bool → ℕ → ℕ
one_more_if b n = cond b (1 + n) n

-- how many rows stand at places of a kind
abbrev pub tally : (Place → Bool) → List (Place × Option Held) → ℕ
tally test [] = 0
tally test (e ∷ es) = one_more_if (is_some e.1 && test e.0) (tally test es)

-- the slots whose keys pass are emptied
abbrev pub emptied : {K : Type 0} → (K → Bool) → List (K × Option Held) → List (K × Option Held)
emptied test es = map (λ e. (e.0, cond (test e.0) None e.1)) es

-- what is left of slots once the empty ones at places of a kind go
abbrev pub freed : (Place → Bool) → List (Place × Option Held) → List (Place × Option Held)
freed test es = filter (λ e. is_some e.1 || not (test e.0)) es

-- what is left of slots once those of a unit go
abbrev pub without_unit : Place → List (Place × Option Held) → List (Place × Option Held)
without_unit seat es = filter (λ e. not (is_of_unit seat e.0)) es

-- an update as it is held, under a local USN
abbrev pub held_at : ℕ → Update → Held
held_at local u = record { update = u; local = local }

-- slots with a row in that of its key
abbrev pub with_held : List (Place × Option Held) → Held → List (Place × Option Held)
with_held es h = insert_entry place_order es (place_of h.update.key) (Some h)

-- slots with an update in that of its key
abbrev pub with_update : ℕ → List (Place × Option Held) → Update → List (Place × Option Held)
with_update local es u = with_held es (held_at local u)

-- slots with one for the key of a row, which keeps what is in it
abbrev pub with_slot : List (Place × Option Held) → Held → List (Place × Option Held)
with_slot es h =
    let place = place_of h.update.key in
    insert_entry place_order es place (unwrap_or (lookup (is_at (place_order place)) es) None)

-- whether an update is of a row of an object, and no death
abbrev pub is_life_of : Oid → Update → Bool
is_life_of o u = is_row_of o u.key && is_none (killed_by u.key)

-- the same of a row that is held
abbrev pub is_life : Oid → Held → Bool
is_life o h = is_life_of o h.update

-- the items at the front that pass, and the others
abbrev pub front : {X : Type 0} → (X → Bool) → List X → List X
front test [] = []
front test (x ∷ xs) = cond (test x) (x ∷ front test xs) []

abbrev pub behind_front : {X : Type 0} → (X → Bool) → List X → List X
behind_front test [] = []
behind_front test (x ∷ xs) = cond (test x) (behind_front test xs) (x ∷ xs)
