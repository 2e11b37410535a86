use Rattle.std.proofs.Common.{rules, ◌≡◌, ◌∙◌, ap, refl, sym, subst, ◌∷◌, false, true, Option, Some, None, Ok, Err}
use Rattle.std.proofs.lemmas.Result.{err_from_is_err_and}
use Rattle.adr_session.specs.Talk.{Greets, Said, said_in}
use Rattle.adr_session.specs.Made.{Reacts}
use Rattle.adr_session.proofs.FrameAnswers.{answers_ok, says_nothing, tells_still, wants_memory, with_bytes}
use Rattle.adr_session.proofs.FrameKinds.{greeting_said, no_greeting}
use Rattle.adr_session.proofs.answering.answer_greeting.Goals as goal

pub returns-then-not-is_empty-clause-answer : goal.returns-then-not-is_empty-clause-answer
returns-then-not-is_empty-clause-answer g c = λ moments.
    let law = g.met.K.Keeper in
    let off : c.is_empty.result ≡ false = search rules in
    says_nothing (λ v. v.items) g.K.Keeper law.leaves law.only_now c.args.controller.now c.state.ensures.in_order c.requires.up (said_in (6 ∷ c.args.body.now))
    (no_greeting c.args.body.now (sym c.is_empty.ensures ∙ off)) moments (Ok None) refl

pub returns-then-not-is_empty-clause-no_clock : goal.returns-then-not-is_empty-clause-no_clock
returns-then-not-is_empty-clause-no_clock g c = λ is. cc is

pub greet-requires : goal.greet-requires
greet-requires g c = record { up = c.requires.up }

pub returns-in_err-greet-clause-answer : goal.returns-in_err-greet-clause-answer
returns-in_err-greet-clause-answer g c = λ moments.
    let law = g.met.K.Keeper in
    let r = err_from_is_err_and c.from_residual.result c.from_residual.ensures.1 in
    wants_memory (λ v. v.items) g.K.Keeper law.leaves law.only_now c.args.controller.now c.state.ensures.in_order c.requires.up (said_in (6 ∷ c.args.body.now)) moments moments refl c.from_residual.result (r.1 ∙ ap Err r.2)

pub returns-in_err-greet-clause-no_clock : goal.returns-in_err-greet-clause-no_clock
returns-in_err-greet-clause-no_clock g c = λ is.
    let r = err_from_is_err_and c.from_residual.result c.from_residual.ensures.1 in
    cc (is, r.1, r.2)

pub returns-clause-answer : goal.returns-clause-answer
returns-clause-answer g c = λ moments.
    let law = g.met.K.Keeper in
    let k = g.K.Keeper in
    let node = c.args.controller.now in
    let v = c.in_ok-greet.field-0 in
    let on : c.is_empty.result ≡ true = search rules in
    subst (λ (said : Option Said). Reacts (λ v. v.items) k said node node (Ok (Some v)) moments moments) (sym (greeting_said c.args.body.now (sym c.is_empty.ensures ∙ on)))
    (answers_ok (λ v. v.items) k (λ f. with_bytes f (7 ∷ f.state.dsa)) node node (Ok v)
    (tells_still (λ v. v.items) k law.leaves law.only_now node c.state.ensures.in_order c.requires.up (λ f. with_bytes f (7 ∷ f.state.dsa)) v (Ok v) refl
    (λ f stands. ap (with_bytes f) (sym (c.in_ok-greet.ensures f.state stands.0))))
    (Some Greets) moments moments (λ f ms is. (ms, refl, is)) v (Ok (Some v)) refl refl)

pub returns-clause-no_clock : goal.returns-clause-no_clock
returns-clause-no_clock g c = λ is. cc is
