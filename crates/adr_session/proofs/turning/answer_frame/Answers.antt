use Rattle.std.proofs.Common.{rules, ◌≡◌, ℕ, List, None, Some, Ok, Err, inr, refl, ap}
use Rattle.std.specs.Global.{Vec}
use Rattle.std.proofs.lemmas.Result.{err_from_is_err_and}
use Rattle.adr_session.specs.declared.ending.End.TheVariants as ended
use Rattle.adr_session.specs.declared.ending.ServeFault.TheVariants as faults
use Rattle.adr_session.specs.Talk.{reaction}
use Rattle.adr_session.proofs.Messages.{ends_malformed, fails_so, sent_so, turn_is}
use Rattle.adr_session.proofs.Reacting.{no_time_fault, time_fault_on}
use Rattle.adr_session.proofs.OneTurn.{reacted_turns, sent_turns}
use Rattle.adr_session.proofs.turning.answer_frame.Goals as goal

-- the bytes of an answer
abbrev bytes_of : Vec ℕ → List ℕ
bytes_of v = v.items

pub returns-in_err-answer : goal.returns-in_err-answer
returns-in_err-answer g c =
    let k = g.K.Keeper in
    let now = c.react-reacted.new.controller in
    let time = c.react-reacted.new.clock in
    let net = c.args.net.now in
    let e = c.in_err-answer.ensures in
    let fault = c.in_err-answer.field-0.0 in
    let r = err_from_is_err_and c.from_residual.result c.from_residual.ensures.1 in
    rw (r.1, r.2)
    (reacted_turns k g.N.Net g.C.Clock bytes_of c.args.controller.now now net net c.args.clock.now time c.args.bytes.now (Err fault) (Err fault) e.answer c.state.ensures.in_order
    (λ t p h. fails_so bytes_of k t p h.rest now (g.C.Clock.moments time) c.args.bytes.now fault h.next
    (e.answer.answer p.stands p.moments h.stands h.clock) (λ is. e.at_moment (ap Err is)) (g.N.Net.traffic net) h.net)
    tt (λ is. let x : fault ≡ faults.Disk = (cc is) in ap Err x) (λ is. let x : fault ≡ faults.Clock = (cc is) in e.clock (ap Err x)) e.clock_never_falls
    (time_fault_on fault (g.C.Clock.faults time ≡ g.C.Clock.faults c.args.clock.now) e.no_clock_fault) (λ is. absurd (cc is)) (inr refl) refl)

pub returns-in_default : goal.returns-in_default
returns-in_default g c =
    let none : c.in_ok-answer.field-0 ≡ None = search rules in
    let k = g.K.Keeper in
    let now = c.react-reacted.new.controller in
    let time = c.react-reacted.new.clock in
    let net = c.args.net.now in
    let e = c.in_ok-answer.ensures in
    let bytes = c.args.bytes.now in
    reacted_turns k g.N.Net g.C.Clock bytes_of c.args.controller.now now net net c.args.clock.now time bytes (Ok c.in_ok-answer.field-0) (Ok (Some ended.Malformed)) e.answer c.state.ensures.in_order
    (λ t p h. ends_malformed bytes_of k t p h.rest now (g.C.Clock.moments time) c.in_ok-answer.field-0 (reaction p.stands p.moments bytes) none
    (turn_is p bytes h.rest h.next) (e.answer.answer p.stands p.moments h.stands h.clock) (g.N.Net.traffic net) h.net)
    e.answer.up (λ is. absurd (cc is)) (λ is. absurd (cc is)) e.clock_never_falls (inr (no_time_fault c.in_ok-answer.field-0 (g.C.Clock.faults time ≡ g.C.Clock.faults c.args.clock.now) e.no_clock_fault))
    (λ is. absurd (cc is)) (inr refl) refl

pub returns : goal.returns
returns g c =
    let k = g.K.Keeper in
    let now = c.react-reacted.new.controller in
    let time = c.react-reacted.new.clock in
    let net = c.args.net.now in
    let after = c.say-said.new.net in
    let e = c.in_ok-answer.ensures in
    let bytes = c.args.bytes.now in
    let said = c.say-said.ensures in
    rw c.sent.ensures
    (sent_turns k g.N.Net g.C.Clock bytes_of c.args.controller.now now net after c.args.clock.now time bytes c.in_ok-answer.field-0 c.say-said.result e.answer c.state.ensures.in_order
    (λ t p h. sent_so bytes_of k t p h.rest now (g.C.Clock.moments time) c.in_ok-answer.field-0 c.in-Some.answer (reaction p.stands p.moments bytes) c.in-Some.is
    (turn_is p bytes h.rest h.next) (e.answer.answer p.stands p.moments h.stands h.clock) (g.N.Net.traffic net) (g.N.Net.traffic after) c.deref.result.now h.net c.deref.ensures.value
    c.say-said.result said.sent said.front said.no_memory)
    e.clock_never_falls (no_time_fault c.in_ok-answer.field-0 (g.C.Clock.faults time ≡ g.C.Clock.faults c.args.clock.now) e.no_clock_fault) said.counts)
