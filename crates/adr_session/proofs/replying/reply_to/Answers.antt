use Rattle.std.proofs.Common.{◌∙◌, ap, refl, sym, Some, None, Ok, Err}
use Rattle.std.proofs.lemmas.Result.{err_from_is_err_and}
use Rattle.adr_model.specs.Serve.{serve}
use Rattle.adr_law_journal.proofs.Told.{some_of}
use Rattle.adr_controller.specs.Ended.{call_hindrance}
use Rattle.adr_law_controller.specs.Called.{Serves as ServesCall}
use Rattle.adr_session.specs.declared.ending.ServeFault.TheVariants as faults
use Rattle.adr_session.proofs.CallAnswers.{served_told, serves_makes}
use Rattle.adr_session.proofs.replying.reply_to.Goals as goal

pub serve-requires : goal.serve-requires
serve-requires g c = record { follows = c.requires.log.given (ServesCall c.args.request.now c.args.now) tt }

pub replied-requires : goal.replied-requires
replied-requires g c =
    let up = some_of c.args.controller.now.state c.requires.up in
    record {
      short = c.replies_have_one_spelling.ensures.short c.in-Ok.reply
          (c.served_replies_have_a_form.ensures up.0 c.args.request.now c.in-Ok.reply c.args.now (c.requires.log.logged up.0 (c.state.ensures.in_order.up up.0 up.1).0.formed) c.requires.form c.ranges.now.fits (c.in-Ok.ensures.served up.0 up.1));
    }

pub returns-in_err-replied-in-Ok : goal.returns-in_err-replied-in-Ok
returns-in_err-replied-in-Ok g c =
    let law = g.met.K.Keeper in
    let r = err_from_is_err_and c.from_residual.result c.from_residual.ensures.1 in
    serves_makes g.K.Keeper law.leaves law.only_now c.args.controller.now c.serve.new.self (call_hindrance c.serve.result) c.state.ensures.in_order c.requires.up
    None c.from_residual.result (Err faults.NoMemory) (ap call_hindrance c.in-Ok.is) (r.1 ∙ ap Err r.2) (λ v. v.items) c.args.request.now c.args.now c.serve.ensures.calls (λ f stands e. cc e)

pub returns-in_err-refused-in-Err-Refused : goal.returns-in_err-refused-in-Err-Refused
returns-in_err-refused-in-Err-Refused g c =
    let law = g.met.K.Keeper in
    let was = c.in-Err-Refused.is ∙ ap Err c.in-Err-Refused.field-0-is in
    let left = c.from_residual-in_err-refused-in-Err-Refused in
    let r = err_from_is_err_and left.result left.ensures.1 in
    serves_makes g.K.Keeper law.leaves law.only_now c.args.controller.now c.serve.new.self (call_hindrance c.serve.result) c.state.ensures.in_order c.requires.up
    None left.result (Err faults.NoMemory) (ap call_hindrance was) (r.1 ∙ ap Err r.2) (λ v. v.items) c.args.request.now c.args.now c.serve.ensures.calls (λ f stands e. cc e)

pub returns-in_ok-replied-in-Ok : goal.returns-in_ok-replied-in-Ok
returns-in_ok-replied-in-Ok g c =
    let law = g.met.K.Keeper in
    let v = c.in_ok-replied-in-Ok.field-0 in
    serves_makes g.K.Keeper law.leaves law.only_now c.args.controller.now c.serve.new.self (call_hindrance c.serve.result) c.state.ensures.in_order c.requires.up
    None (Ok v) (Ok v) (ap call_hindrance c.in-Ok.is) refl (λ v. v.items) c.args.request.now c.args.now c.serve.ensures.calls
    (λ f stands. c.in_ok-replied-in-Ok.ensures ∙ ap served_told (sym (c.in-Ok.ensures.served f.state stands.0)))

pub returns-in_ok-refused-in-Err-Refused : goal.returns-in_ok-refused-in-Err-Refused
returns-in_ok-refused-in-Err-Refused g c =
    let law = g.met.K.Keeper in
    let was = c.in-Err-Refused.is ∙ ap Err c.in-Err-Refused.field-0-is in
    let v = c.in_ok-refused-in-Err-Refused.field-0 in
    serves_makes g.K.Keeper law.leaves law.only_now c.args.controller.now c.serve.new.self (call_hindrance c.serve.result) c.state.ensures.in_order c.requires.up
    None (Ok v) (Ok v) (ap call_hindrance was) refl (λ v. v.items) c.args.request.now c.args.now c.serve.ensures.calls
    (λ f stands. c.in_ok-refused-in-Err-Refused.ensures ∙ ap served_told (sym (c.serve.ensures.refused f.state c.in-Err-Refused.refusal stands.0 was)))

pub returns-in-Err-Hindered : goal.returns-in-Err-Hindered
returns-in-Err-Hindered g c =
    let law = g.met.K.Keeper in
    let was = c.in-Err-Hindered.is ∙ ap Err c.in-Err-Hindered.field-0-is in
    serves_makes g.K.Keeper law.leaves law.only_now c.args.controller.now c.serve.new.self (call_hindrance c.serve.result) c.state.ensures.in_order c.requires.up
    (Some c.in-Err-Hindered.hindrance) c.hindered.result c.hindered.result (ap call_hindrance was) refl (λ v. v.items) c.args.request.now c.args.now c.serve.ensures.calls
    (λ f stands. c.hindered.ensures (served_told (serve f.state c.args.request.now c.args.now)))
