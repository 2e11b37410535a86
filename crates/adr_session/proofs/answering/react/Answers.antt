use Rattle.std.proofs.Common.{rules, ◌≡◌, ◌∙◌, inr, ap, refl, Some, None, Ok, arith}
use Rattle.adr_session.specs.Talk.{Gives, said_in}
use Rattle.adr_session.specs.Made.{Reacts}
use Rattle.adr_session.proofs.FrameAnswers.{says_nothing}
use Rattle.adr_session.proofs.FrameKinds.{line_said, no_bytes, no_kind, of_kind}
use Rattle.adr_session.proofs.answering.react.Goals as goal

pub returns-in_default : goal.returns-in_default
returns-in_default g c =
    let law = g.met.K.Keeper in
    record {
      answer =
          says_nothing (λ v. v.items) g.K.Keeper law.leaves law.only_now c.args.controller.now c.state.ensures.in_order c.requires.up (said_in c.args.bytes.now)
          (no_bytes c.args.bytes.now c.in_default.ensures.cases) (g.C.Clock.moments c.args.clock.now) (Ok None) refl;
      at_moment = λ is. absurd (cc is);
      clock = λ is. absurd (cc is);
      clock_never_falls = omega arith;
      no_clock_fault = inr refl;
    }

pub answer_request-requires : goal.answer_request-requires
answer_request-requires g c = record { up = c.requires.up; log = c.requires.log }

pub answer_line-requires : goal.answer_line-requires
answer_line-requires g c = record { up = c.requires.up; log = c.requires.log }

pub answer_greeting-requires : goal.answer_greeting-requires
answer_greeting-requires g c = record { up = c.requires.up }

pub returns-in-1 : goal.returns-in-1
returns-in-1 g c =
    let body = c.in-Some.body.now in
    let a = c.answer_request in
    record {
      answer =
          of_kind (λ said. Reacts (λ v. v.items) g.K.Keeper said c.args.controller.now a.new.controller a.result (g.C.Clock.moments c.args.clock.now) (g.C.Clock.moments a.new.clock))
          c.args.bytes.now body c.in-Some.kind.now 1 c.in-Some.ensures.cases.0 c.in-1.is a.ensures.answer;
      at_moment = λ is.
          let t = a.ensures.at_moment is in
          (t.0, of_kind (λ said. said ≡ Some t.0) c.args.bytes.now body c.in-Some.kind.now 1 c.in-Some.ensures.cases.0 c.in-1.is t.1, t.2);
      clock = a.ensures.clock;
      clock_never_falls = a.ensures.clock_never_falls;
      no_clock_fault = a.ensures.no_clock_fault;
    }

pub returns-in-4 : goal.returns-in-4
returns-in-4 g c =
    let body = c.in-Some.body.now in
    let a = c.answer_line in
    record {
      answer =
          of_kind (λ said. Reacts (λ v. v.items) g.K.Keeper said c.args.controller.now a.new.controller a.result (g.C.Clock.moments c.args.clock.now) (g.C.Clock.moments a.new.clock))
          c.args.bytes.now body c.in-Some.kind.now 4 c.in-Some.ensures.cases.0 c.in-4.is a.ensures.answer;
      at_moment = λ is. (
        Gives body,
        of_kind (λ said. said ≡ Some (Gives body)) c.args.bytes.now body c.in-Some.kind.now 4 c.in-Some.ensures.cases.0 c.in-4.is (line_said body (a.ensures.at_line is)),
        refl,
      );
      clock = a.ensures.clock;
      clock_never_falls = a.ensures.clock_never_falls;
      no_clock_fault = a.ensures.no_clock_fault;
    }

pub returns-in-6 : goal.returns-in-6
returns-in-6 g c =
    let moments = g.C.Clock.moments c.args.clock.now in
    let a = c.answer_greeting in
    record {
      answer =
          of_kind (λ said. Reacts (λ v. v.items) g.K.Keeper said c.args.controller.now a.new.controller a.result moments moments)
          c.args.bytes.now c.in-Some.body.now c.in-Some.kind.now 6 c.in-Some.ensures.cases.0 c.in-6.is (a.ensures.answer moments);
      at_moment = λ is. absurd (a.ensures.no_clock is);
      clock = λ is. absurd (a.ensures.no_clock is);
      clock_never_falls = omega arith;
      no_clock_fault = inr refl;
    }

pub returns-in_default-kind : goal.returns-in_default-kind
returns-in_default-kind g c =
    let law = g.met.K.Keeper in
    let kind = c.in-Some.kind.now in
    let body = c.in-Some.body.now in
    let not_request : kind ≡ 1 → ⊥ = search rules in
    let not_line : kind ≡ 4 → ⊥ = search rules in
    let not_greeting : kind ≡ 6 → ⊥ = search rules in
    record {
      answer =
          says_nothing (λ v. v.items) g.K.Keeper law.leaves law.only_now c.args.controller.now c.state.ensures.in_order c.requires.up (said_in c.args.bytes.now)
          (ap said_in c.in-Some.ensures.cases.0 ∙ no_kind kind body not_request not_line not_greeting) (g.C.Clock.moments c.args.clock.now) (Ok None) refl;
      at_moment = λ is. absurd (cc is);
      clock = λ is. absurd (cc is);
      clock_never_falls = omega arith;
      no_clock_fault = inr refl;
    }
