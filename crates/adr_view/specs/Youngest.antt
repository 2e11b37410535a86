-- Of the names that live objects have in a place and in one folded form, the youngest.
use Rattle.std.specs.Prelude.{◌≡◌, List, Bool, ◌&&◌, Option, Some, None, fold, if◌then◌else◌}
use Rattle.std.specs.BTreeMap.{BTreeMap, get}
use Rattle.std.specs.Ordering.{is_lt, ordering_then}
use Rattle.std.specs.Str.{bytes_eq}
use Rattle.adr_values.specs.declared.stamp.LinkStamp.{LinkStamp}
use Rattle.adr_values.specs.Order.{link_stamp_order, identifier_order}
use Rattle.adr_values.specs.Folding.{folded}
use Rattle.adr_model.specs.Update.{Identifier, same_identifier}
use Rattle.adr_model.specs.Place.{Node, place}
use Rattle.adr_view.specs.Slots.{Slot, slot_order}

-- the stamp of a name and the GUID of the object that has it
abbrev pub Rank : Type 0
Rank = LinkStamp × Identifier

abbrev pub rank_of : Node → Rank
rank_of n = (n.stamp, n.object.guid)

-- whether the second name is the younger one, or at equal stamps that of the greater GUID
abbrev pub is_before : Rank → Rank → Bool
is_before r s = is_lt (ordering_then (link_stamp_order r.0 s.0) (identifier_order r.1 s.1))

abbrev pub later : Option Rank → Rank → Rank
later None r = r
later (Some s) r = if is_before s r then r else s

-- the youngest so far, with one name more if it is one of them
abbrev pub with_rank : Bool → Rank → Option Rank → Option Rank
with_rank is r youngest = if is then Some (later youngest r) else youngest

-- whether an object has this name in this place
abbrev pub is_in : List Node → Slot → Node → Bool
is_in all slot n = same_identifier (place all n) slot.0 && bytes_eq (folded n.text) slot.1

-- the youngest name of these objects there
abbrev pub youngest_from : List Node → Slot → Option Rank → List Node → Option Rank
youngest_from all slot youngest ns = fold (λ best n. with_rank (is_in all slot n) (rank_of n) best) youngest ns

-- the youngest name wherever there is one
abbrev pub AreYoungest : List Node → BTreeMap Slot Rank → Type 0
AreYoungest all names = (slot : Slot) → get slot_order names slot ≡ youngest_from all slot None all
