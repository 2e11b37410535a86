use Rattle.std.proofs.Common.{◌≡◌, ap, ◌∙◌, not, is_eq, arith, List, ℕ}
use Rattle.std.specs.BTreeMap.{insert_entry}
use Rattle.adr_values.specs.Order.{identifier_order}
use Rattle.adr_values.specs.Vector.{Cursors}
use Rattle.adr_values.specs.Times.{others}
use Rattle.adr_values.proofs.Moments.{moments_filter, told_entered, moments_entered}
use Rattle.adr_values.proofs.times.Times.told.Goals as goal

pub invariant_of-result : goal.invariant_of-result
invariant_of-result c =
    let is : c.in_ok-moments.moments.items ≡ others c.self.inside.moments.items c.args.inv = cc c.in_ok-moments.ensures in
    rw is (moments_filter (λ (t : List ℕ × ℕ). not (is_eq (identifier_order t.0 c.args.inv))) c.self.inside.moments.items c.self.invariant)

pub invariant_of-result-2 : goal.invariant_of-result-2
invariant_of-result-2 c =
    let is : c.put.new.moments.items ≡ insert_entry identifier_order c.self.inside.moments.items c.args.inv c.args.now =
    c.in_ok-put.ensures ∙ ap (λ (t : Cursors). insert_entry identifier_order t c.args.inv c.args.now) (c.in_ok-moments-2.ensures.items ∙ c.deref-2.ensures.value) in
    rw is (moments_entered c.self.inside.moments.items c.args.inv c.args.now c.self.invariant (let some = c.if-now-eq0.false in omega arith))

pub returns : goal.returns
returns c =
    let is : c.put.new.moments.items ≡ insert_entry identifier_order c.self.inside.moments.items c.args.inv c.args.now =
    c.in_ok-put.ensures ∙ ap (λ (t : Cursors). insert_entry identifier_order t c.args.inv c.args.now) (c.in_ok-moments-2.ensures.items ∙ c.deref-2.ensures.value) in
    rw (← c.self.view_is) (is ∙ told_entered c.self.inside.moments.items c.args.inv c.args.now c.self.invariant (let some = c.if-now-eq0.false in omega arith))
