use Rattle.std.proofs.Common.{◌≡◌, drop}
use Rattle.adr_model.specs.Place.{node_at}
use Rattle.adr_model.specs.Update.{Identifier}
use Rattle.adr_tree.specs.Edits.{AreOwn, edited}
use Rattle.adr_tree.specs.Tree.{HaveRoom, IsTree, nodes_in}
use Rattle.adr_tree.proofs.tree.Tree.exchange_all.Given as goal

-- the edits that are left are whole, there is room for them, and they make of what is there now what all make
abbrev pub invariant-loop-edit : goal.invariant-loop-edit
invariant-loop-edit l =
    IsTree l.self
    × AreOwn (drop l.edit-index l.edits)
    × HaveRoom l.self (drop l.edit-index l.edits)
    × ((g : Identifier) → edited (drop l.edit-index l.edits) g (node_at (nodes_in l.self) g) ≡ edited l.initial.edits g (node_at (nodes_in l.initial.self) g))
