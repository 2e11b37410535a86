use Rattle.std.proofs.Common.{arith}
use Rattle.adr_values.proofs.Joining.{length-merged}
use Rattle.adr_values.proofs.merging.count.Goals as goal

pub overflow_add-count : goal.overflow_add-count
overflow_add-count c = omega (arith, length-merged c.args.left.now c.args.right.now, c.loop-count.invariant)
