use Rattle.std.proofs.Common.{◌≡◌, ◌++◌}
use Rattle.adr_update.specs.Referents.{referents}
use Rattle.adr_tree.specs.Slots.{seen}
use Rattle.adr_tree.proofs.tree.Tree.nodes.Given as goal

-- the nodes so far and those that are left are all
abbrev pub invariant-loop-slot : goal.invariant-loop-slot
invariant-loop-slot l = referents l.live.items ++ seen l.slot-iterator ≡ seen l.self.slots.entries
