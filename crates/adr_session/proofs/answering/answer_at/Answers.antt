use Rattle.std.proofs.Common.{◌∙◌, ap, refl, sym, subst, IfSome, Option, Ok, Err}
use Rattle.std.proofs.lemmas.Result.{err_from_is_err_and}
use Rattle.adr_call.specs.declared.call.Call.{Call}
use Rattle.adr_session.specs.Lines.{IsAlwaysGiven, call_said}
use Rattle.adr_session.specs.Talk.{acts}
use Rattle.adr_session.specs.Made.{Makes}
use Rattle.adr_session.proofs.FrameAnswers.{tells_still, wants_still, with_bytes}
use Rattle.adr_session.proofs.answering.answer_at.Goals as goal

pub returns-in_err-call : goal.returns-in_err-call
returns-in_err-call g c =
    let law = g.met.K.Keeper in
    let r = err_from_is_err_and c.from_residual.result c.from_residual.ensures.1 in
    wants_still (λ v. v.items) g.K.Keeper law.leaves law.only_now c.args.controller.now c.state.ensures.in_order c.requires.up (λ f. acts f c.args.now (call_said c.args.line.now)) c.from_residual.result (r.1 ∙ ap Err r.2)

pub act-requires-clause-up : goal.act-requires-clause-up
act-requires-clause-up g c = c.requires.up

pub act-requires-clause-log : goal.act-requires-clause-log
act-requires-clause-log g c = c.requires.log

pub act-requires-clause-given : goal.act-requires-clause-given
act-requires-clause-given g c = subst (λ (call : Option Call). IfSome call IsAlwaysGiven) c.in-Some.is c.in_ok-call.ensures.given

pub returns-in_err-framed-in-None : goal.returns-in_err-framed-in-None
returns-in_err-framed-in-None g c =
    let law = g.met.K.Keeper in
    let r = err_from_is_err_and c.from_residual-in_err-framed-in-None.result c.from_residual-in_err-framed-in-None.ensures.1 in
    wants_still (λ v. v.items) g.K.Keeper law.leaves law.only_now c.args.controller.now c.state.ensures.in_order c.requires.up (λ f. acts f c.args.now (call_said c.args.line.now)) c.from_residual-in_err-framed-in-None.result
    (r.1 ∙ ap Err r.2)

pub returns-in-Some : goal.returns-in-Some
returns-in-Some g c =
    subst (λ (call : Option Call). Makes (λ v. v.items) g.K.Keeper (λ f. acts f c.args.now call) c.args.controller.now c.act.new.controller c.act.result) (sym c.in-Some.is ∙ c.in_ok-call.ensures.said) c.act.ensures

pub returns-in_ok-framed-in-None : goal.returns-in_ok-framed-in-None
returns-in_ok-framed-in-None g c =
    let law = g.met.K.Keeper in
    let v = c.in_ok-framed-in-None.field-0 in
    tells_still (λ v. v.items) g.K.Keeper law.leaves law.only_now c.args.controller.now c.state.ensures.in_order c.requires.up (λ f. acts f c.args.now (call_said c.args.line.now)) v (Ok v) refl
    (λ f stands. ap (acts f c.args.now) (sym c.in_ok-call.ensures.said ∙ c.in-None.is) ∙ ap (with_bytes f) (sym c.in_ok-framed-in-None.ensures))
