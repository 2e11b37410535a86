use Rattle.std.proofs.Common.{◌≡◌, ◌+◌, length}
use Rattle.adr_values.specs.Merging.{merged}
use Rattle.adr_values.proofs.merging.count.Given as goal

abbrev pub invariant-loop-count : goal.invariant-loop-count
invariant-loop-count l = l.count + length l.fronts ≡ length (merged l.left l.right)

abbrev pub decreases-loop-count : goal.decreases-loop-count
decreases-loop-count l = length l.fronts
