use Rattle.std.proofs.Common.{sym, ◌∙◌}
use Rattle.std.proofs.lemmas.Result.{IfOk-weaker}
use Rattle.adr_records.proofs.follow.can_follow.Goals as goal

pub returns-clause-follows : goal.returns-clause-follows
returns-clause-follows c =
    let s = c.args.state.now in
    let d = c.args.change.now in
    let law = c.changes_are_tested.ensures in
    IfOk-weaker c.passes.result _ _
    (λ can e formed known spelled. (λ is. law.told s d formed known spelled (sym e ∙ is), λ follows. e ∙ law.pass s d formed follows))
    c.passes.ensures
