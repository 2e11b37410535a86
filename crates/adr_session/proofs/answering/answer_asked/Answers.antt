use Rattle.std.proofs.Common.{◌∙◌, inl, inr, ap, refl, sym, Some, Ok, Err}
use Rattle.std.proofs.lemmas.Result.{err_from_is_err_and}
use Rattle.adr_model.specs.Serve.{serve}
use Rattle.adr_session.specs.declared.ending.ServeFault.TheVariants as faults
use Rattle.adr_session.specs.Talk.{Asks, replies}
use Rattle.adr_session.proofs.FrameAnswers.{answers_err, answers_ok, no_clock, request_sent, same_err, wants_memory, wants_time}
use Rattle.adr_session.proofs.answering.answer_asked.Goals as goal

pub returns-in-Err-Failed-clause-answer : goal.returns-in-Err-Failed-clause-answer
returns-in-Err-Failed-clause-answer g c =
    let law = g.met.K.Keeper in
    wants_time (λ v. v.items) g.K.Keeper law.leaves law.only_now c.args.controller.now c.state.ensures.in_order c.requires.up (Some (Asks c.args.request.now)) (g.C.Clock.moments c.args.clock.now) (g.C.Clock.moments c.now.new.self)
    c.in-Err-Failed.ensures.stays (Err faults.Clock) refl

pub returns-in-Err-Failed-clause-clock : goal.returns-in-Err-Failed-clause-clock
returns-in-Err-Failed-clause-clock g c = λ is. c.now.ensures.failed (c.in-Err-Failed.is ∙ ap Err c.in-Err-Failed.field-0-is)

pub returns-in-Err-Failed-clause-clock_never_falls : goal.returns-in-Err-Failed-clause-clock_never_falls
returns-in-Err-Failed-clause-clock_never_falls g c = c.now.ensures.never_falls

pub returns-in-Err-Failed-clause-no_clock_fault : goal.returns-in-Err-Failed-clause-no_clock_fault
returns-in-Err-Failed-clause-no_clock_fault g c = inl refl

pub returns-in-Err-NoMemory-clause-answer : goal.returns-in-Err-NoMemory-clause-answer
returns-in-Err-NoMemory-clause-answer g c =
    let law = g.met.K.Keeper in
    wants_memory (λ v. v.items) g.K.Keeper law.leaves law.only_now c.args.controller.now c.state.ensures.in_order c.requires.up (Some (Asks c.args.request.now)) (g.C.Clock.moments c.args.clock.now) (g.C.Clock.moments c.now.new.self)
    c.in-Err-NoMemory.ensures.stays (Err faults.NoMemory) refl

pub returns-in-Err-NoMemory-clause-clock : goal.returns-in-Err-NoMemory-clause-clock
returns-in-Err-NoMemory-clause-clock g c = λ is. absurd (cc is)

pub returns-in-Err-NoMemory-clause-clock_never_falls : goal.returns-in-Err-NoMemory-clause-clock_never_falls
returns-in-Err-NoMemory-clause-clock_never_falls g c = c.now.ensures.never_falls

pub returns-in-Err-NoMemory-clause-no_clock_fault : goal.returns-in-Err-NoMemory-clause-no_clock_fault
returns-in-Err-NoMemory-clause-no_clock_fault g c = inr (c.now.ensures.no_memory_counted (c.in-Err-NoMemory.is ∙ ap Err c.in-Err-NoMemory.field-0-is))

pub reply_to-requires-clause-up : goal.reply_to-requires-clause-up
reply_to-requires-clause-up g c = c.requires.up

pub reply_to-requires-clause-log : goal.reply_to-requires-clause-log
reply_to-requires-clause-log g c = c.requires.log

pub reply_to-requires-clause-form : goal.reply_to-requires-clause-form
reply_to-requires-clause-form g c = c.requires.form

pub returns-in_err-reply_to-clause-answer : goal.returns-in_err-reply_to-clause-answer
returns-in_err-reply_to-clause-answer g c =
    let q = c.args.request.now in
    let before = g.C.Clock.moments c.args.clock.now in
    let after = g.C.Clock.moments c.now.new.self in
    let r = err_from_is_err_and c.from_residual.result c.from_residual.ensures.1 in
    answers_err (λ v. v.items) g.K.Keeper (λ f. replies f (serve f.state q c.in-Ok.now)) c.args.controller.now c.reply_to.new.controller c.reply_to.result c.reply_to.ensures (Some (Asks q)) before after
    (request_sent q c.in-Ok.now before after c.in-Ok.ensures.taken) c.in_err-reply_to.field-0.0 c.from_residual.result c.in_err-reply_to.was (r.1 ∙ ap Err r.2)

pub returns-in_err-reply_to-clause-clock : goal.returns-in_err-reply_to-clause-clock
returns-in_err-reply_to-clause-clock g c = λ is.
    let q = c.args.request.now in
    let before = g.C.Clock.moments c.args.clock.now in
    let after = g.C.Clock.moments c.now.new.self in
    let r = err_from_is_err_and c.from_residual.result c.from_residual.ensures.1 in
    absurd (no_clock (λ v. v.items) g.K.Keeper (λ f. replies f (serve f.state q c.in-Ok.now)) c.args.controller.now c.reply_to.new.controller c.reply_to.result c.reply_to.ensures (Some (Asks q)) before after
    (request_sent q c.in-Ok.now before after c.in-Ok.ensures.taken) (c.in_err-reply_to.was ∙ ap Err (sym r.2 ∙ same_err c.from_residual.result r.0 faults.Clock r.1 is)) c.requires.up c.state.ensures.in_order)

pub returns-in_err-reply_to-clause-clock_never_falls : goal.returns-in_err-reply_to-clause-clock_never_falls
returns-in_err-reply_to-clause-clock_never_falls g c = c.now.ensures.never_falls

pub returns-in_err-reply_to-clause-no_clock_fault : goal.returns-in_err-reply_to-clause-no_clock_fault
returns-in_err-reply_to-clause-no_clock_fault g c = inr c.in-Ok.ensures.not_counted

pub returns-clause-answer : goal.returns-clause-answer
returns-clause-answer g c =
    let q = c.args.request.now in
    let before = g.C.Clock.moments c.args.clock.now in
    let after = g.C.Clock.moments c.now.new.self in
    let v = c.in_ok-reply_to.field-0 in
    answers_ok (λ v. v.items) g.K.Keeper (λ f. replies f (serve f.state q c.in-Ok.now)) c.args.controller.now c.reply_to.new.controller c.reply_to.result c.reply_to.ensures (Some (Asks q)) before after
    (request_sent q c.in-Ok.now before after c.in-Ok.ensures.taken) v (Ok (Some v)) c.in_ok-reply_to.was refl

pub returns-clause-clock : goal.returns-clause-clock
returns-clause-clock g c = λ is. absurd (cc is)

pub returns-clause-clock_never_falls : goal.returns-clause-clock_never_falls
returns-clause-clock_never_falls g c = c.now.ensures.never_falls

pub returns-clause-no_clock_fault : goal.returns-clause-no_clock_fault
returns-clause-no_clock_fault g c = inr c.in-Ok.ensures.not_counted
