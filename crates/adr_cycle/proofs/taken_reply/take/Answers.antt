use Rattle.std.proofs.Common.{sym, ap, ◌∙◌, Some}
use Rattle.std.proofs.lemmas.Result.{IfOk-weaker}
use Rattle.adr_cycle.proofs.Deciding.{early, refused_is, within}
use Rattle.adr_cycle.proofs.taken_reply.take.Goals as goal

pub returns-in-Some-clause-refused : goal.returns-in-Some-clause-refused
returns-in-Some-clause-refused c refusal is =
    sym (early c.args.state.now c.args.reply.now refusal (sym c.refusal_before.ensures ∙ c.in-Some.is ∙ ap Some (refused_is c.in-Some.refusal refusal is)))

pub returns-clause-within : goal.returns-clause-within
returns-clause-within c = IfOk-weaker c.outcome.result _ _ (λ change is. within c.args.state.now c.args.reply.now change is) c.outcome.ensures.ok
