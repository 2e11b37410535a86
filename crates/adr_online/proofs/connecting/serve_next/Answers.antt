use Rattle.std.proofs.lemmas.Result.{err_from_is_err_and}
use Rattle.adr_online.proofs.Connected.{cut_goes, told_goes}
use Rattle.adr_online.proofs.Many.{unaccepted}
use Rattle.adr_online.proofs.connecting.serve_next.Goals as goal

pub returns-in_err-accept : goal.returns-in_err-accept
returns-in_err-accept g c =
    let law = g.met.K.Keeper in
    let r = err_from_is_err_and c.from_residual.result c.from_residual.ensures.1 in
    rw (r.1, r.2)
    (unaccepted g.K.Keeper g.N.Net g.C.Clock g.S.Sink law.leaves law.only_now
    (record { controller = c.args.controller.now; net = c.args.net.now; clock = c.args.clock.now; sink = c.args.sink.now })
    c.accept.new.net c.in_err-accept.field-0.0 c.state.ensures.in_order c.in_err-accept.ensures.calls c.args.number)

pub returns-in_err-served : goal.returns-in_err-served
returns-in_err-served g c =
    let a = c.answer_all in
    let r = err_from_is_err_and c.from_residual-in_err-served.result c.from_residual-in_err-served.ensures.1 in
    rw (r.1, r.2)
    (cut_goes g.K.Keeper g.N.Net g.C.Clock g.S.Sink c.args.number
    (record { controller = c.args.controller.now; net = c.args.net.now; clock = c.args.clock.now; sink = c.args.sink.now })
    c.accept.new.net a.new.controller a.new.net a.new.clock c.in_ok-accept.ensures.opens c.in_ok-accept.ensures.calls c.in_err-served.field-0.0 c.in_err-served.ensures)

pub returns : goal.returns
returns g c =
    let a = c.answer_all in
    let t = c.tell in
    told_goes g.K.Keeper g.N.Net g.C.Clock g.S.Sink c.args.number
    (record { controller = c.args.controller.now; net = c.args.net.now; clock = c.args.clock.now; sink = c.args.sink.now })
    c.accept.new.net a.new.controller a.new.net a.new.clock c.in_ok-accept.ensures.opens c.in_ok-accept.ensures.calls c.in_ok-served.served c.in_ok-served.ensures
    t.new.sink t.result t.ensures.told t.ensures.front t.ensures.only t.ensures.unwritten t.ensures.write t.ensures.write_ends t.ensures.never_falls
