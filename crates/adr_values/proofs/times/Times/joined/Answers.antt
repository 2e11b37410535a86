use Rattle.std.proofs.Common.{◌≡◌, subst, ◌∙◌}
use Rattle.adr_values.specs.Vector.{Cursors, joined}
use Rattle.adr_values.specs.Times.{AreMoments}
use Rattle.adr_values.specs.Merging.{merged}
use Rattle.adr_values.proofs.Joining.{merged-is-joined, rising-merged, from_one-merged}
use Rattle.adr_values.proofs.times.Times.joined.Goals as goal

both : (v w : Cursors) → AreMoments v → AreMoments w → merged v w ≡ joined v w
both v w p q = merged-is-joined v w p.rising q.rising p.from_one q.from_one

merged_moments : (v w : Cursors) → AreMoments v → AreMoments w → AreMoments (merged v w)
merged_moments v w p q = record { rising = rising-merged v w p.rising q.rising; from_one = from_one-merged v w p.from_one q.from_one }

pub invariant_of-result : goal.invariant_of-result
invariant_of-result c =
    let is_merged : c.in_ok-merge.field-0.items ≡ merged c.self.inside.moments.items c.other.inside.moments.items = cc c.in_ok-merge.ensures in
    rw is_merged (merged_moments c.self.inside.moments.items c.other.inside.moments.items c.self.invariant c.other.invariant)

pub returns : goal.returns
returns c =
    let is_merged : c.in_ok-merge.field-0.items ≡ merged c.args.self.now c.args.other.now = cc c.in_ok-merge.ensures in
    is_merged ∙ both c.args.self.now c.args.other.now (subst AreMoments c.self.view_is c.self.invariant) (subst AreMoments c.other.view_is c.other.invariant)
