use Rattle.std.proofs.Common.{◌∙◌, inl, inr, ap, refl, sym, subst, ◌∷◌, Option, Some, None, Ok, Err, arith}
use Rattle.std.proofs.lemmas.Result.{err_from_is_err_and}
use Rattle.adr_session.specs.declared.ending.ServeFault.TheVariants as faults
use Rattle.adr_session.specs.Lines.{call_said}
use Rattle.adr_session.specs.Talk.{Gives, Said, acts, said_in}
use Rattle.adr_session.specs.Made.{Reacts}
use Rattle.adr_session.proofs.FrameAnswers.{answers_err, answers_ok, line_sent, no_clock, same_err, says_nothing, wants_memory, wants_time}
use Rattle.adr_session.proofs.FrameKinds.{line_said, no_line}
use Rattle.adr_session.proofs.answering.answer_line.Goals as goal

pub returns-then-not-is_line-clause-answer : goal.returns-then-not-is_line-clause-answer
returns-then-not-is_line-clause-answer g c =
    let law = g.met.K.Keeper in
    says_nothing (λ v. v.items) g.K.Keeper law.leaves law.only_now c.args.controller.now c.state.ensures.in_order c.requires.up (said_in (4 ∷ c.args.body.now))
    (no_line c.args.body.now (sym c.is_line.ensures ∙ c.if-not-is_line.true)) (g.C.Clock.moments c.args.clock.now) (Ok None) refl

pub returns-then-not-is_line-clause-at_line : goal.returns-then-not-is_line-clause-at_line
returns-then-not-is_line-clause-at_line g c = λ is. absurd (cc is)

pub returns-then-not-is_line-clause-clock : goal.returns-then-not-is_line-clause-clock
returns-then-not-is_line-clause-clock g c = λ is. absurd (cc is)

pub returns-then-not-is_line-clause-clock_never_falls : goal.returns-then-not-is_line-clause-clock_never_falls
returns-then-not-is_line-clause-clock_never_falls g c = omega arith

pub returns-then-not-is_line-clause-no_clock_fault : goal.returns-then-not-is_line-clause-no_clock_fault
returns-then-not-is_line-clause-no_clock_fault g c = inr refl

pub returns-in-Err-Failed-clause-answer : goal.returns-in-Err-Failed-clause-answer
returns-in-Err-Failed-clause-answer g c =
    let law = g.met.K.Keeper in
    wants_time (λ v. v.items) g.K.Keeper law.leaves law.only_now c.args.controller.now c.state.ensures.in_order c.requires.up (said_in (4 ∷ c.args.body.now)) (g.C.Clock.moments c.args.clock.now) (g.C.Clock.moments c.now.new.self)
    c.in-Err-Failed.ensures.stays (Err faults.Clock) refl

pub returns-in-Err-Failed-clause-at_line : goal.returns-in-Err-Failed-clause-at_line
returns-in-Err-Failed-clause-at_line g c = λ is. sym c.is_line.ensures ∙ c.if-not-is_line.false

pub returns-in-Err-Failed-clause-clock : goal.returns-in-Err-Failed-clause-clock
returns-in-Err-Failed-clause-clock g c = λ is. c.now.ensures.failed (c.in-Err-Failed.is ∙ ap Err c.in-Err-Failed.field-0-is)

pub returns-in-Err-Failed-clause-clock_never_falls : goal.returns-in-Err-Failed-clause-clock_never_falls
returns-in-Err-Failed-clause-clock_never_falls g c = c.now.ensures.never_falls

pub returns-in-Err-Failed-clause-no_clock_fault : goal.returns-in-Err-Failed-clause-no_clock_fault
returns-in-Err-Failed-clause-no_clock_fault g c = inl refl

pub returns-in-Err-NoMemory-clause-answer : goal.returns-in-Err-NoMemory-clause-answer
returns-in-Err-NoMemory-clause-answer g c =
    let law = g.met.K.Keeper in
    wants_memory (λ v. v.items) g.K.Keeper law.leaves law.only_now c.args.controller.now c.state.ensures.in_order c.requires.up (said_in (4 ∷ c.args.body.now)) (g.C.Clock.moments c.args.clock.now) (g.C.Clock.moments c.now.new.self)
    c.in-Err-NoMemory.ensures.stays (Err faults.NoMemory) refl

pub returns-in-Err-NoMemory-clause-at_line : goal.returns-in-Err-NoMemory-clause-at_line
returns-in-Err-NoMemory-clause-at_line g c = λ is. sym c.is_line.ensures ∙ c.if-not-is_line.false

pub returns-in-Err-NoMemory-clause-clock : goal.returns-in-Err-NoMemory-clause-clock
returns-in-Err-NoMemory-clause-clock g c = λ is. absurd (cc is)

pub returns-in-Err-NoMemory-clause-clock_never_falls : goal.returns-in-Err-NoMemory-clause-clock_never_falls
returns-in-Err-NoMemory-clause-clock_never_falls g c = c.now.ensures.never_falls

pub returns-in-Err-NoMemory-clause-no_clock_fault : goal.returns-in-Err-NoMemory-clause-no_clock_fault
returns-in-Err-NoMemory-clause-no_clock_fault g c = inr (c.now.ensures.no_memory_counted (c.in-Err-NoMemory.is ∙ ap Err c.in-Err-NoMemory.field-0-is))

pub answer_at-requires-clause-up : goal.answer_at-requires-clause-up
answer_at-requires-clause-up g c = c.requires.up

pub answer_at-requires-clause-log : goal.answer_at-requires-clause-log
answer_at-requires-clause-log g c = c.requires.log

pub returns-in_err-answer_at-clause-answer : goal.returns-in_err-answer_at-clause-answer
returns-in_err-answer_at-clause-answer g c =
    let k = g.K.Keeper in
    let body = c.args.body.now in
    let before = g.C.Clock.moments c.args.clock.now in
    let after = g.C.Clock.moments c.now.new.self in
    let r = err_from_is_err_and c.from_residual.result c.from_residual.ensures.1 in
    subst (λ (said : Option Said). Reacts (λ v. v.items) k said c.args.controller.now c.answer_at.new.controller c.from_residual.result before after) (sym (line_said body (sym c.is_line.ensures ∙ c.if-not-is_line.false)))
    (answers_err (λ v. v.items) k (λ f. acts f c.in-Ok.now (call_said body)) c.args.controller.now c.answer_at.new.controller c.answer_at.result c.answer_at.ensures (Some (Gives body)) before after
    (line_sent body c.in-Ok.now before after c.in-Ok.ensures.taken) c.in_err-answer_at.field-0.0 c.from_residual.result c.in_err-answer_at.was (r.1 ∙ ap Err r.2))

pub returns-in_err-answer_at-clause-at_line : goal.returns-in_err-answer_at-clause-at_line
returns-in_err-answer_at-clause-at_line g c = λ is. sym c.is_line.ensures ∙ c.if-not-is_line.false

pub returns-in_err-answer_at-clause-clock : goal.returns-in_err-answer_at-clause-clock
returns-in_err-answer_at-clause-clock g c = λ is.
    let k = g.K.Keeper in
    let body = c.args.body.now in
    let before = g.C.Clock.moments c.args.clock.now in
    let after = g.C.Clock.moments c.now.new.self in
    let r = err_from_is_err_and c.from_residual.result c.from_residual.ensures.1 in
    absurd (no_clock (λ v. v.items) k (λ f. acts f c.in-Ok.now (call_said body)) c.args.controller.now c.answer_at.new.controller c.answer_at.result c.answer_at.ensures (Some (Gives body)) before after
    (line_sent body c.in-Ok.now before after c.in-Ok.ensures.taken) (c.in_err-answer_at.was ∙ ap Err (sym r.2 ∙ same_err c.from_residual.result r.0 faults.Clock r.1 is)) c.requires.up c.state.ensures.in_order)

pub returns-in_err-answer_at-clause-clock_never_falls : goal.returns-in_err-answer_at-clause-clock_never_falls
returns-in_err-answer_at-clause-clock_never_falls g c = c.now.ensures.never_falls

pub returns-in_err-answer_at-clause-no_clock_fault : goal.returns-in_err-answer_at-clause-no_clock_fault
returns-in_err-answer_at-clause-no_clock_fault g c = inr c.in-Ok.ensures.not_counted

pub returns-clause-answer : goal.returns-clause-answer
returns-clause-answer g c =
    let k = g.K.Keeper in
    let body = c.args.body.now in
    let before = g.C.Clock.moments c.args.clock.now in
    let after = g.C.Clock.moments c.now.new.self in
    let v = c.in_ok-answer_at.field-0 in
    subst (λ (said : Option Said). Reacts (λ v. v.items) k said c.args.controller.now c.answer_at.new.controller (Ok (Some v)) before after) (sym (line_said body (sym c.is_line.ensures ∙ c.if-not-is_line.false)))
    (answers_ok (λ v. v.items) k (λ f. acts f c.in-Ok.now (call_said body)) c.args.controller.now c.answer_at.new.controller c.answer_at.result c.answer_at.ensures (Some (Gives body)) before after
    (line_sent body c.in-Ok.now before after c.in-Ok.ensures.taken) v (Ok (Some v)) c.in_ok-answer_at.was refl)

pub returns-clause-at_line : goal.returns-clause-at_line
returns-clause-at_line g c = λ is. absurd (cc is)

pub returns-clause-clock : goal.returns-clause-clock
returns-clause-clock g c = λ is. absurd (cc is)

pub returns-clause-clock_never_falls : goal.returns-clause-clock_never_falls
returns-clause-clock_never_falls g c = c.now.ensures.never_falls

pub returns-clause-no_clock_fault : goal.returns-clause-no_clock_fault
returns-clause-no_clock_fault g c = inr c.in-Ok.ensures.not_counted
