use Rattle.std.proofs.Common.{List, cond, filter, ap, ◌∙◌}
use Rattle.adr_model.specs.Update.{Update}
use Rattle.adr_model.specs.Take.{left_by_death}
use Rattle.adr_cycle.specs.RowsTaken.{can_die, is_taken}
use Rattle.adr_cycle.proofs.Standings.{each_so, taken_so}
use Rattle.adr_cycle.proofs.taken_rows.rows_taken.Goals as goal

pub returns : goal.returns
returns c = λ vector stands.
    let held = c.args.held.now in
    let standing = c.args.standing in
    let after : List Update → List Update = λ us. cond (can_die standing) (left_by_death us) us in
    c.leave_by_death.ensures
    ∙ ap after (c.in_ok-rows.ensures ∙ ap (λ us. filter (is_taken held standing) us) c.rows.ensures)
    ∙ each_so held c.args.item.now.rows standing
    ∙ taken_so vector held c.args.item.now standing stands
