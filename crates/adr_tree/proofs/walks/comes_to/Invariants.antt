use Rattle.std.proofs.Common.{◌≡◌}
use Rattle.adr_law_tree.specs.Opening.{comes_to}
use Rattle.adr_tree.specs.Slots.{looks}
use Rattle.adr_tree.proofs.walks.comes_to.Given as goal

abbrev pub invariant-loop-left : goal.invariant-loop-left
invariant-loop-left l = comes_to (looks l.slots) l.target l.left l.guid ≡ comes_to (looks l.slots) l.target l.steps l.fn.from

abbrev pub decreases-loop-left : goal.decreases-loop-left
decreases-loop-left l = l.left
