use Rattle.std.proofs.Common.{◌∙◌, ap, sym, subst}
use Rattle.adr_model.specs.Serve.{serve}
use Rattle.adr_model.specs.World.{after_serve, nothing, where_up}
use Rattle.adr_run_replica.specs.Led.{LeadsAt}
use Rattle.adr_run_replica.specs.Past.{Past}
use Rattle.adr_run_replica.proofs.replica.Replica.serve.Goals as goal

pub returns-clause-served : goal.returns-clause-served
returns-clause-served c =
    let r = c.args.self.now in
    subst (λ (p : Past). LeadsAt c.args.now r c.args.past.now (λ w. where_up (nothing w) r.standing (after_serve w r (serve r.safe c.args.request.now w.time))) c.answer.new.self p c.in_ok-sent.sent.0 c.in_ok-sent.sent.1)
    (sym c.note.ensures) c.in_ok-sent.ensures.served

pub returns-clause-given : goal.returns-clause-given
returns-clause-given c = ap (λ (p : Past). p.given) c.note.ensures ∙ c.answer.ensures.given
