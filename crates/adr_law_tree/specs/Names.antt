-- Places, children and names by look-ups.
use Rattle.std.specs.Prelude.{◌≡◌, ◌&&◌, ◌||◌, ℕ, List, Bool, true, false, not, Some, None, is_some}
use Rattle.std.specs.List.{find}
use Rattle.std.specs.declared.cmp.Ordering.TheVariants.{Less}
use Rattle.adr_values.specs.Order.{identifier_order}
use Rattle.adr_model.specs.Update.{Identifier, same_identifier}
use Rattle.adr_model.specs.Place.{Node, node_at, place, is_fixed, named_before, breaks_loop, lost_and_found}
use Rattle.adr_model.specs.Shown.{is_lost_name, is_named, gives_way, name_holder}
use Rattle.adr_model.specs.Write.{is_taken}
use Rattle.adr_law_tree.specs.InOrder.{AreInOrder}

-- whether objects can be placed there by their parents as written
abbrev pub is_there : List Node → Identifier → Bool
is_there all parent = is_fixed parent || is_some (node_at all parent)

-- an object is placed under a parent that is there and isn't LostAndFound where that is its parent as written, and it breaks no loop
abbrev pub PlacedLaw : Type 0
PlacedLaw = (all : List Node) (parent : Identifier) (n : Node) → same_identifier parent lost_and_found ≡ false → is_there all parent ≡ true
    → same_identifier (place all n) parent ≡ (same_identifier n.parent parent && not (breaks_loop all n))

-- of the objects with one parent as written one at most breaks a loop
abbrev pub OneBreakerLaw : Type 0
OneBreakerLaw = (all : List Node) (m n : Node) → node_at all m.object.guid ≡ Some m → node_at all n.object.guid ≡ Some n
    → m.parent ≡ n.parent → breaks_loop all m ≡ true → breaks_loop all n ≡ true → m ≡ n

-- a search finds the least
abbrev pub LeastLaw : Type 0
LeastLaw = (all : List Node) → AreInOrder all → (test : Node → Bool) (x : Node) → node_at all x.object.guid ≡ Some x → test x ≡ true
    → ((m : Node) → node_at all m.object.guid ≡ Some m → test m ≡ true → identifier_order m.object.guid x.object.guid ≡ Less → ⊥) → find test all ≡ Some x

-- the object with the youngest of the names that fold alike in a place
pub record IsHolder (all : List Node) (parent : Identifier) (text : List ℕ) (x : Node) : Type 0 where
  pub there : node_at all x.object.guid ≡ Some x
  pub named : is_named all parent text x ≡ true
  pub youngest : (m : Node) → node_at all m.object.guid ≡ Some m → is_named all parent text m ≡ true → named_before x m ≡ false

abbrev pub HolderLaw : Type 0
HolderLaw = (all : List Node) → AreInOrder all → (parent : Identifier) (text : List ℕ) (x : Node) → IsHolder all parent text x → is_lost_name parent text ≡ false
    → name_holder all parent text ≡ Some x.object.guid

abbrev pub NoHolderLaw : Type 0
NoHolderLaw = (all : List Node) → AreInOrder all → (parent : Identifier) (text : List ℕ) → ((m : Node) → node_at all m.object.guid ≡ Some m → is_named all parent text m ≡ false)
    → is_lost_name parent text ≡ false → name_holder all parent text ≡ None

-- an object gives way where another one holds its name
abbrev pub GivesWayLaw : Type 0
GivesWayLaw = (all : List Node) → AreInOrder all → (n x : Node) → node_at all n.object.guid ≡ Some n → IsHolder all (place all n) n.text x
    → gives_way all n ≡ not (same_identifier x.object.guid n.object.guid)

-- whether a place has another object of the name: another one is named there, if not the holder then one that is named besides it
abbrev pub TakenLaw : Type 0
TakenLaw = (all : List Node) → AreInOrder all → (guid parent : Identifier) (text : List ℕ) (x : Node) → node_at all x.object.guid ≡ Some x → same_identifier x.object.guid guid ≡ false
    → is_named all parent text x ≡ true → is_taken all guid parent text ≡ true

abbrev pub FreeNameLaw : Type 0
FreeNameLaw = (all : List Node) → AreInOrder all → (guid parent : Identifier) (text : List ℕ) → is_lost_name parent text ≡ false
    → ((m : Node) → node_at all m.object.guid ≡ Some m → same_identifier m.object.guid guid ≡ false → is_named all parent text m ≡ false) → is_taken all guid parent text ≡ false
