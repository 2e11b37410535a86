use Rattle.adr_cycle.proofs.Deciding.{makes, refused_is, refuses}
use Rattle.adr_cycle.proofs.taken_reply.outcome.Goals as goal

pub returns-in-Some-clause-refused : goal.returns-in-Some-clause-refused
returns-in-Some-clause-refused c = λ refusal is.
    refuses c.args.state.now c.args.reply.now c.items.result.now c.in_ok-taking.taking c.refusal_after.result c.in_ok-taking.ensures c.items.ensures c.refusal_after.ensures
    c.in-Some.refusal refusal c.in-Some.is (refused_is c.in-Some.refusal refusal is)

pub returns-in_ok-taken_change-in-None-clause-ok : goal.returns-in_ok-taken_change-in-None-clause-ok
returns-in_ok-taken_change-in-None-clause-ok c =
    makes c.args.state.now c.args.reply.now c.items.result.now c.in_ok-taking.taking c.refusal_after.result c.in_ok-taking.ensures c.items.ensures c.refusal_after.ensures
    _ c.in-None.is c.in_ok-taken_change-in-None.ensures
