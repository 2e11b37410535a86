use Rattle.std.proofs.Common.{◌≡◌, ℕ, ◌<◌, slice_index_or}
use Rattle.std.specs.Prelude.{IfSome}
use Rattle.adr_tree.specs.declared.edit.Edit.{Edit}
use Rattle.adr_tree.specs.Tree.{HasRoom, IsTree, nodes_in}
use Rattle.adr_tree.proofs.tree.Tree.reserve.Given as goal

-- there is room for the edits so far
abbrev pub invariant-loop-edit : goal.invariant-loop-edit
invariant-loop-edit l =
    IsTree l.self
    × (nodes_in l.self ≡ nodes_in l.initial.self)
    × ((i : ℕ) (d : Edit) → i < l.edit-index → IfSome (slice_index_or l.edits i d).node (HasRoom l.self))
