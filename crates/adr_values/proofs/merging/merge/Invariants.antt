use Rattle.std.proofs.Common.{◌≡◌, ◌++◌, length}
use Rattle.adr_values.specs.Merging.{merged}
use Rattle.adr_values.proofs.merging.merge.Given as goal

abbrev pub invariant-loop-cursor : goal.invariant-loop-cursor
invariant-loop-cursor l = l.cursors.items ++ l.fronts ≡ merged l.left l.right

abbrev pub decreases-loop-cursor : goal.decreases-loop-cursor
decreases-loop-cursor l = length l.fronts
