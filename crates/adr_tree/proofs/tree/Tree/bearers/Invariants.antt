use Rattle.std.proofs.Common.{◌≡◌, ◌⊎◌, true, Some}
use Rattle.std.specs.List.{list_any}
use Rattle.std.specs.BTreeMap.{is_at}
use Rattle.adr_model.specs.Member.{Each, Member}
use Rattle.adr_model.specs.Place.{Node, node_at}
use Rattle.adr_update.specs.Referents.{referents}
use Rattle.adr_tree.specs.Hints.{name_hint, hint_order}
use Rattle.adr_tree.specs.Names.{is_called}
use Rattle.adr_tree.specs.Tree.{nodes_in}
use Rattle.adr_tree.proofs.Runs.{Run}
use Rattle.adr_tree.proofs.tree.Tree.bearers.Given as goal

-- who has the name is found, or its hint is left
abbrev pub invariant-loop-hint : goal.invariant-loop-hint
invariant-loop-hint l =
    (goal.iterator-loop-hint).can_next l.hint-iterator
    × (goal.iterator-loop-hint).is_finite l.hint-iterator
    × Run l.start l.hint-iterator
    × ((m : Node) → node_at (nodes_in l.self) m.object.guid ≡ Some m → is_called (nodes_in l.self) l.parent l.name m ≡ true
    → Member m (referents l.bearers.items) ⊎ (list_any (is_at (hint_order (name_hint m))) l.hint-iterator ≡ true))
    × Each (λ n. node_at (nodes_in l.self) n.object.guid ≡ Some n) (referents l.bearers.items)
    × Each (λ n. is_called (nodes_in l.self) l.parent l.name n ≡ true) (referents l.bearers.items)
