use Rattle.std.proofs.Common.{arith}
use Rattle.adr_values.proofs.Cursors.{nil_rising}
use Rattle.adr_values.proofs.vector.Vector.new.Goals as goal

pub invariant_of-result : goal.invariant_of-result
invariant_of-result c = rw c.new.ensures.items (record { rising = nil_rising; from_one = tt; few = omega arith })
