use Rattle.std.proofs.Common.{◌≡◌}
use Rattle.adr_tree.specs.Tree.{IsTree, nodes_in}
use Rattle.adr_tree.proofs.tree.Tree.forget_all.Given as goal

abbrev pub invariant-loop-edit : goal.invariant-loop-edit
invariant-loop-edit l = IsTree l.self × (nodes_in l.self ≡ nodes_in l.initial.self)
