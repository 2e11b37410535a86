use Rattle.std.proofs.Common.{◌≡◌, length, arith, ap, subst, ◌∙◌}
use Rattle.adr_values.specs.Vector.{IsVector}
use Rattle.adr_values.specs.Merging.{merged}
use Rattle.adr_values.proofs.Joining.{merged_vectors, length-merged}
use Rattle.adr_values.proofs.vector.Vector.len_joined.Goals as goal

pub returns-clause-both : goal.returns-clause-both
returns-clause-both c =
    let counted : c.count.result ≡ length (merged c.args.self.now c.args.other.now) = cc in
    counted ∙ ap length (merged_vectors c.args.self.now c.args.other.now (subst IsVector c.self.view_is c.self.invariant) (subst IsVector c.other.view_is c.other.invariant))

pub returns-clause-few : goal.returns-clause-few
returns-clause-few c =
    let counted : c.count.result ≡ length (merged c.self.inside.cursors.items c.other.inside.cursors.items) = cc in
    omega (arith, length-merged c.self.inside.cursors.items c.other.inside.cursors.items, c.self.invariant.few, c.other.invariant.few)
