use Rattle.std.proofs.Common.{inl, inr, refl, ap, Some, Ok, Err}
use Rattle.adr_session.specs.declared.ending.End.TheVariants as ended
use Rattle.adr_session.specs.declared.ending.ServeFault.TheVariants as faults
use Rattle.adr_session.proofs.Hearing.{cut_before, heard_broken, heard_frame, heard_over, wanting_before}
use Rattle.adr_session.proofs.OneTurn.{heard_turns, undone}
use Rattle.adr_session.proofs.turning.take_turn.Goals as goal

pub returns-in-Ok-Over : goal.returns-in-Ok-Over
returns-in-Ok-Over g c =
    let law = g.met.K.Keeper in
    let here = c.args.controller.now in
    let h = c.in-Ok-Over in
    undone g.K.Keeper g.N.Net g.C.Clock law.leaves law.only_now here c.args.net.now c.hear.new.net c.args.clock.now (Ok (Some ended.Hung)) c.state.ensures.in_order c.requires.up
    (λ t p at. heard_over g.K.Keeper t p here (g.N.Net.traffic c.args.net.now) (g.N.Net.traffic c.hear.new.net) (g.C.Clock.moments c.args.clock.now) at h.field-0 h.field-0-is h.ensures.heard c.hear.ensures.part)
    (λ is. cc) (λ is. cc) (λ is. absurd (cc is)) (inr h.ensures.counts.passed) c.hear.ensures.counts.other

pub returns-in-Ok-Broken : goal.returns-in-Ok-Broken
returns-in-Ok-Broken g c =
    let law = g.met.K.Keeper in
    let here = c.args.controller.now in
    let h = c.in-Ok-Broken in
    undone g.K.Keeper g.N.Net g.C.Clock law.leaves law.only_now here c.args.net.now c.hear.new.net c.args.clock.now (Ok (Some ended.Malformed)) c.state.ensures.in_order c.requires.up
    (λ t p at. heard_broken g.K.Keeper t p here (g.N.Net.traffic c.args.net.now) (g.N.Net.traffic c.hear.new.net) (g.C.Clock.moments c.args.clock.now) at h.field-0 h.field-0-is h.ensures.heard c.hear.ensures.part)
    (λ is. cc) (λ is. cc) (λ is. absurd (cc is)) (inr h.ensures.counts.passed) c.hear.ensures.counts.other

pub returns-in-Err-Failed : goal.returns-in-Err-Failed
returns-in-Err-Failed g c =
    let law = g.met.K.Keeper in
    let here = c.args.controller.now in
    undone g.K.Keeper g.N.Net g.C.Clock law.leaves law.only_now here c.args.net.now c.hear.new.net c.args.clock.now (Ok (Some ended.Fault)) c.state.ensures.in_order c.requires.up
    (λ t p at. cut_before g.K.Keeper t p here (g.N.Net.traffic c.args.net.now) (g.N.Net.traffic c.hear.new.net) (g.C.Clock.moments c.args.clock.now) at c.hear.ensures.part)
    (λ is. cc) (λ is. cc) (λ is. c.in-Err-Failed.ensures.counts.failed (ap Err c.in-Err-Failed.field-0-is)) (inl refl) c.hear.ensures.counts.other

pub returns-in-Err-NoMemory : goal.returns-in-Err-NoMemory
returns-in-Err-NoMemory g c =
    let law = g.met.K.Keeper in
    let here = c.args.controller.now in
    undone g.K.Keeper g.N.Net g.C.Clock law.leaves law.only_now here c.args.net.now c.hear.new.net c.args.clock.now (Err faults.NoMemory) c.state.ensures.in_order c.requires.up
    (λ t p at. wanting_before g.K.Keeper t p here (g.N.Net.traffic c.args.net.now) (g.N.Net.traffic c.hear.new.net) (g.C.Clock.moments c.args.clock.now) at c.hear.ensures.part)
    (λ is. cc) (λ is. cc) (λ is. absurd (cc is)) (inr (c.in-Err-NoMemory.ensures.counts.no_memory (ap Err c.in-Err-NoMemory.field-0-is))) c.hear.ensures.counts.other

pub returns : goal.returns
returns g c =
    let here = c.args.controller.now in
    let h = c.in-Ok-Frame in
    let a = c.answer_frame in
    heard_turns g.K.Keeper g.N.Net g.C.Clock here a.new.controller c.args.net.now c.hear.new.net a.new.net c.args.clock.now a.new.clock c.deref.result.now a.result
    h.ensures.counts.passed c.hear.ensures.counts.other
    (λ t p at. heard_frame g.K.Keeper t p here (g.N.Net.traffic c.args.net.now) (g.N.Net.traffic c.hear.new.net) (g.C.Clock.moments c.args.clock.now) at h.field-0 h.bytes
    c.deref.result.now h.field-0-is c.deref.ensures.value h.ensures.heard)
    a.ensures
