use Rattle.std.proofs.Common.{◌≡◌, ◌≤◌, length, arith, ap, sym, subst, ◌∙◌}
use Rattle.std.proofs.lemmas.Bool.{ltb-true, ltb-false}
use Rattle.adr_values.specs.Vector.{Cursors, at, cursor_limit, joined, IsVector}
use Rattle.adr_values.specs.Merging.{merged}
use Rattle.adr_values.proofs.Cursors.{IsRising}
use Rattle.adr_values.proofs.Joining.{merged_vectors, at-merged, rising-merged, from_one-merged}
use Rattle.adr_values.proofs.Refusals.{done, refused, wanting}
use Rattle.adr_values.proofs.vector.Vector.joined.Goals as goal

merged_vector : (v w : Cursors) → IsVector v → IsVector w → length (merged v w) ≤ cursor_limit → IsVector (merged v w)
merged_vector v w p q few = record { rising = rising-merged v w p.rising q.rising; from_one = from_one-merged v w p.from_one q.from_one; few = few }

pub returns-then-is_full_with-clause-full : goal.returns-then-is_full_with-clause-full
returns-then-is_full_with-clause-full c =
    refused cursor_limit (length (joined c.args.self.now c.args.other.now)) (ltb-true cursor_limit (length (joined c.args.self.now c.args.other.now)) (sym c.is_full_with.ensures ∙ c.if-is_full_with.true))

pub returns-in_err-cursors-clause-full : goal.returns-in_err-cursors-clause-full
returns-in_err-cursors-clause-full c =
    wanting c.from_residual.result cursor_limit (length (joined c.args.self.now c.args.other.now)) c.from_residual.ensures.1
    (ltb-false cursor_limit (length (joined c.args.self.now c.args.other.now)) (sym c.is_full_with.ensures ∙ c.if-is_full_with.false))

pub invariant_of-result : goal.invariant_of-result
invariant_of-result c =
    let is_merged : c.in_ok-cursors.cursors.items ≡ merged c.self.inside.cursors.items c.other.inside.cursors.items = cc c.in_ok-cursors.ensures in
    let few : length (joined c.args.self.now c.args.other.now) ≤ cursor_limit = ltb-false cursor_limit (length (joined c.args.self.now c.args.other.now)) (sym c.is_full_with.ensures ∙ c.if-is_full_with.false) in
    let same : length (merged c.args.self.now c.args.other.now) ≡ length (joined c.args.self.now c.args.other.now) = ap length (merged_vectors c.args.self.now c.args.other.now (subst IsVector c.self.view_is c.self.invariant) (subst IsVector c.other.view_is c.other.invariant)) in
    rw is_merged (merged_vector c.self.inside.cursors.items c.other.inside.cursors.items c.self.invariant c.other.invariant (rw (c.self.view_is, c.other.view_is) (omega arith)))

pub returns-clause-ok : goal.returns-clause-ok
returns-clause-ok c =
    let is_merged : c.in_ok-cursors.cursors.items ≡ merged c.args.self.now c.args.other.now = cc c.in_ok-cursors.ensures in
    is_merged ∙ merged_vectors c.args.self.now c.args.other.now (subst IsVector c.self.view_is c.self.invariant) (subst IsVector c.other.view_is c.other.invariant)

pub returns-clause-everywhere : goal.returns-clause-everywhere
returns-clause-everywhere c inv =
    let is_merged : c.in_ok-cursors.cursors.items ≡ merged c.args.self.now c.args.other.now = cc c.in_ok-cursors.ensures in
    ap (λ (v : Cursors). at v inv) is_merged ∙ at-merged c.args.self.now c.args.other.now inv (subst IsRising c.self.view_is c.self.invariant.rising) (subst IsRising c.other.view_is c.other.invariant.rising)

pub returns-clause-full : goal.returns-clause-full
returns-clause-full c =
    done c.in_ok-cursors.cursors.items cursor_limit (length (joined c.args.self.now c.args.other.now))
    (ltb-false cursor_limit (length (joined c.args.self.now c.args.other.now)) (sym c.is_full_with.ensures ∙ c.if-is_full_with.false))
