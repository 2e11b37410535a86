-- A tree that is kept: its live objects, who of them breaks a loop, and hints.
use Rattle.std.specs.Prelude.{◌≡◌, List, Bool, Some, IfSome, IsSome}
use Rattle.std.specs.BTreeMap.{BTreeMap, get}
use Rattle.adr_values.specs.Order.{identifier_order}
use Rattle.adr_model.specs.Member.{Each}
use Rattle.adr_model.specs.Update.{Identifier}
use Rattle.adr_model.specs.Place.{Node, node_at, breaks_loop}
use Rattle.adr_law_tree.specs.Sets.{IsSetOf}
use Rattle.adr_tree.specs.declared.edit.Edit.{Edit}
use Rattle.adr_tree.specs.declared.tree.Tree.{Tree}
use Rattle.adr_tree.specs.Slots.{IsTidy, flag_at, seen}
use Rattle.adr_tree.specs.Hints.{AreHinted, IsHinted}

-- the live objects, rising by GUID
abbrev pub nodes_in : Tree → List Node
nodes_in t = seen t.slots.entries

abbrev pub IsLive : List Node → Node → Type 0
IsLive all n = node_at all n.object.guid ≡ Some n

-- each live object has a flag
abbrev pub AreFlagged : List Node → BTreeMap Identifier Bool → Type 0
AreFlagged all flags = (n : Node) → IsLive all n → IsSome (get identifier_order flags n.object.guid)

pub record IsTree (t : Tree) : Type 0 where
  pub tidy : IsTidy t.slots
  pub exact : IsSetOf (nodes_in t) (breaks_loop (nodes_in t)) (flag_at t.flags)
  pub flagged : AreFlagged (nodes_in t) t.flags
  pub hinted : AreHinted (nodes_in t) t.hints

-- a live object can be put in without memory
pub record HasRoom (t : Tree) (n : Node) : Type 0 where
  pub slot : IsSome (get identifier_order t.slots n.object.guid)
  pub flag : IsSome (get identifier_order t.flags n.object.guid)
  pub hinted : IsHinted t.hints n

-- edits can be made without memory
abbrev pub HaveRoom : Tree → List Edit → Type 0
HaveRoom t edits = Each (λ e. IfSome e.node (HasRoom t)) edits

-- what has room in the first tree has it in the second
abbrev pub KeepsRoom : Tree → Tree → Type 0
KeepsRoom old new = (n : Node) → HasRoom old n → HasRoom new n
