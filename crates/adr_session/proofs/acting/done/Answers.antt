use Rattle.std.proofs.Common.{◌∙◌, ap, refl, Some, None, Ok, Err}
use Rattle.adr_model.specs.Client.{call_meant, done}
use Rattle.adr_controller.specs.Ended.{call_hindrance}
use Rattle.adr_law_controller.specs.Called.{Does}
use Rattle.adr_session.specs.Talk.{told}
use Rattle.adr_session.proofs.CallAnswers.{call_makes}
use Rattle.adr_session.proofs.acting.done.Goals as goal

pub call-requires : goal.call-requires
call-requires g c = record { follows = c.requires.log.given (Does c.args.call.now c.args.now) (c.requires.given c.args.now c.ranges.now.fits) }

pub returns-in-Ok : goal.returns-in-Ok
returns-in-Ok g c =
    let law = g.met.K.Keeper in
    let call = c.args.call.now in
    call_makes g.K.Keeper law.leaves law.only_now c.args.controller.now c.call.new.self (call_hindrance c.call.result) c.state.ensures.in_order c.requires.up
    None (Ok c.in-Ok.outcome) (Ok c.in-Ok.outcome) (ap call_hindrance c.in-Ok.is) refl (told call) call c.args.now c.call.ensures.calls
    (λ f stands. ap (told call) (c.in-Ok.ensures.told f.state stands.0))

pub returns-in-Err-Refused : goal.returns-in-Err-Refused
returns-in-Err-Refused g c =
    let law = g.met.K.Keeper in
    let call = c.args.call.now in
    let was = c.in-Err-Refused.is ∙ ap Err c.in-Err-Refused.field-0-is in
    call_makes g.K.Keeper law.leaves law.only_now c.args.controller.now c.call.new.self (call_hindrance c.call.result) c.state.ensures.in_order c.requires.up
    None (Ok c.in-Err-Refused.outcome) (Ok c.in-Err-Refused.outcome) (ap call_hindrance was) refl (told call) call c.args.now c.call.ensures.calls
    (λ f stands. ap (told call) (c.call.ensures.refused f.state c.in-Err-Refused.outcome stands.0 was))

pub returns-in-Err-Hindered : goal.returns-in-Err-Hindered
returns-in-Err-Hindered g c =
    let law = g.met.K.Keeper in
    let call = c.args.call.now in
    let was = c.in-Err-Hindered.is ∙ ap Err c.in-Err-Hindered.field-0-is in
    call_makes g.K.Keeper law.leaves law.only_now c.args.controller.now c.call.new.self (call_hindrance c.call.result) c.state.ensures.in_order c.requires.up
    (Some c.in-Err-Hindered.hindrance) c.outcome_of.result c.outcome_of.result (ap call_hindrance was) refl (told call) call c.args.now c.call.ensures.calls
    (λ f stands. c.outcome_of.ensures call (told call (done f.state (call_meant call c.args.now)).0))
