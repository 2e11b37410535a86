-- Where no walk is needed.
use Rattle.std.specs.Prelude.{◌≡◌, List, false, Some}
use Rattle.adr_model.specs.Update.{same_identifier}
use Rattle.adr_model.specs.Place.{Node, node_at, breaks_loop}
use Rattle.adr_law_tree.specs.Breaker.{AreMore, in_loop}

-- an object that is the parent of none, as they are written, nor its own is in no loop
abbrev pub ChildlessLaw : Type 0
ChildlessLaw = (all : List Node) (x : Node) (more : List Node) → AreMore all x more → ((m : Node) → node_at more m.object.guid ≡ Some m → same_identifier m.parent x.object.guid ≡ false) → in_loop more x ≡ false

-- whether an object is in a loop hangs on its parent, and on no other thing that it says
abbrev pub SameParentLaw : Type 0
SameParentLaw = (all : List Node) (x y : Node) (more others : List Node) → AreMore all x more → AreMore all y others → x.object.guid ≡ y.object.guid → x.parent ≡ y.parent → in_loop more x ≡ in_loop others y

-- where nobody breaks a loop nobody is in one
abbrev pub NoLoopLaw : Type 0
NoLoopLaw = (all : List Node) → ((n : Node) → node_at all n.object.guid ≡ Some n → breaks_loop all n ≡ false) → (x : Node) → node_at all x.object.guid ≡ Some x → in_loop all x ≡ false
