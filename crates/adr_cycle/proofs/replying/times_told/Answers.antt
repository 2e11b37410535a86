use Rattle.std.proofs.Common.{ap, ◌∙◌}
use Rattle.std.proofs.lemmas.Result.{IfOk-weaker}
use Rattle.adr_values.specs.Vector.{Cursors}
use Rattle.adr_values.specs.Times.{told_at_now}
use Rattle.adr_cycle.proofs.replying.times_told.Goals as goal

pub returns : goal.returns
returns c =
    let s = c.args.state.now in
    IfOk-weaker c.told.result _ _
    (λ times e. e
    ∙ ap (λ (v : Cursors). told_at_now v c.inv.result c.own_moment.result) c.times.ensures
    ∙ ap (λ i. told_at_now s.store.times i c.own_moment.result) c.inv.ensures
    ∙ ap (told_at_now s.store.times s.inv) c.own_moment.ensures)
    c.told.ensures
