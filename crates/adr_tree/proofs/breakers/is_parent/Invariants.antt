use Rattle.std.proofs.Common.{◌≡◌, ◌⊎◌, true, Some}
use Rattle.std.specs.List.{list_any}
use Rattle.std.specs.BTreeMap.{is_at}
use Rattle.adr_model.specs.Update.{same_identifier}
use Rattle.adr_model.specs.Place.{Node, node_at}
use Rattle.adr_tree.specs.Hints.{child_hint, hint_order}
use Rattle.adr_tree.specs.Slots.{seen}
use Rattle.adr_tree.proofs.Runs.{Run}
use Rattle.adr_tree.proofs.breakers.is_parent.Given as goal

-- the hints of all children are left
abbrev pub invariant-loop-hint : goal.invariant-loop-hint
invariant-loop-hint l =
    (goal.iterator-loop-hint).can_next l.hint-iterator
    × (goal.iterator-loop-hint).is_finite l.hint-iterator
    × Run l.start l.hint-iterator
    × ((m : Node) → node_at (seen l.slots.entries) m.object.guid ≡ Some m → same_identifier m.parent l.guid ≡ true → ⊥ ⊎ (list_any (is_at (hint_order (child_hint m))) l.hint-iterator ≡ true))
