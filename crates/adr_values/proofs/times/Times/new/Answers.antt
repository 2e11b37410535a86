use Rattle.std.proofs.Common.{sym, subst}
use Rattle.adr_values.specs.Vector.{Cursors}
use Rattle.adr_values.specs.Times.{AreMoments}
use Rattle.adr_values.proofs.Cursors.{nil_rising}
use Rattle.adr_values.proofs.times.Times.new.Goals as goal

pub invariant_of-result : goal.invariant_of-result
invariant_of-result c = subst (λ (cs : Cursors). AreMoments cs) (sym c.new.ensures.items) (record { rising = nil_rising; from_one = tt })
