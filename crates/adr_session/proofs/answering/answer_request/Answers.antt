use Rattle.std.proofs.Common.{inr, refl, sym, subst, ◌∷◌, Option, Some, None, Ok, Err, arith}
use Rattle.adr_values.specs.declared.failure.Failure.{Failure}
use Rattle.adr_wire.specs.declared.refusal.DecodeRefusal.{DecodeRefusal}
use Rattle.adr_wire.specs.Headed.{IsRefusedSo}
use Rattle.adr_packet.specs.Requests.{decoded_request}
use Rattle.adr_session.specs.declared.ending.ServeFault.TheVariants as faults
use Rattle.adr_session.specs.Talk.{Asks, Said, said_in}
use Rattle.adr_session.specs.Made.{Reacts}
use Rattle.adr_session.proofs.FrameAnswers.{says_nothing, wants_memory}
use Rattle.adr_session.proofs.FrameKinds.{no_request, request_said}
use Rattle.adr_session.proofs.answering.answer_request.Goals as goal

pub answer_asked-requires : goal.answer_asked-requires
answer_asked-requires g c = record {
  up = c.requires.up;
  log = c.requires.log;
  form = (c.requests_have_one_spelling.ensures.only c.args.body.now c.in-Ok.request (λ i. (c.type_inv.body i).fits) c.in-Ok.ensures.read).0;
}

pub returns-in-Ok : goal.returns-in-Ok
returns-in-Ok g c =
    let q = c.in-Ok.request in
    let a = c.answer_asked in
    let said = request_said c.args.body.now q c.in-Ok.ensures.read in
    record {
      answer =
          subst (λ (said : Option Said). Reacts (λ v. v.items) g.K.Keeper said c.args.controller.now a.new.controller a.result (g.C.Clock.moments c.args.clock.now) (g.C.Clock.moments a.new.clock)) (sym said)
          a.ensures.answer;
      at_moment = λ is. (Asks q, said, refl);
      clock = a.ensures.clock;
      clock_never_falls = a.ensures.clock_never_falls;
      no_clock_fault = a.ensures.no_clock_fault;
    }

pub returns-in-Err-Refused : goal.returns-in-Err-Refused
returns-in-Err-Refused g c =
    let law = g.met.K.Keeper in
    record {
      answer =
          says_nothing (λ v. v.items) g.K.Keeper law.leaves law.only_now c.args.controller.now c.state.ensures.in_order c.requires.up (said_in (1 ∷ c.args.body.now))
          (no_request c.args.body.now _ (subst (λ (failure : Failure DecodeRefusal). IsRefusedSo (decoded_request c.args.body.now) failure) c.in-Err-Refused.field-0-is c.in-Err-Refused.ensures.refused))
          (g.C.Clock.moments c.args.clock.now) (Ok None) refl;
      at_moment = λ is. absurd (cc is);
      clock = λ is. absurd (cc is);
      clock_never_falls = omega arith;
      no_clock_fault = inr refl;
    }

pub returns-in-Err-NoMemory : goal.returns-in-Err-NoMemory
returns-in-Err-NoMemory g c =
    let law = g.met.K.Keeper in
    let moments = g.C.Clock.moments c.args.clock.now in
    record {
      answer =
          wants_memory (λ v. v.items) g.K.Keeper law.leaves law.only_now c.args.controller.now c.state.ensures.in_order c.requires.up (said_in (1 ∷ c.args.body.now)) moments moments refl (Err faults.NoMemory) refl;
      at_moment = λ is. absurd (cc is);
      clock = λ is. absurd (cc is);
      clock_never_falls = omega arith;
      no_clock_fault = inr refl;
    }
