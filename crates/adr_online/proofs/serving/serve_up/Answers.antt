use Rattle.std.proofs.lemmas.Result.{err_from_is_err_and}
use Rattle.adr_online.proofs.Many.{served_behind, unlistened}
use Rattle.adr_online.proofs.serving.serve_up.Goals as goal

pub returns-in_err-listen : goal.returns-in_err-listen
returns-in_err-listen g c =
    let law = g.met.K.Keeper in
    let r = err_from_is_err_and c.from_residual.result c.from_residual.ensures.1 in
    rw (r.1, r.2)
    (unlistened g.K.Keeper g.N.Net g.C.Clock g.S.Sink law.leaves law.only_now
    (record { controller = c.args.controller.now; net = c.args.net.now; clock = c.args.clock.now; sink = c.args.sink.now })
    c.listen.new.net c.in_err-listen.field-0.0 c.state.ensures.in_order c.in_err-listen.ensures.calls c.args.count)

pub returns : goal.returns
returns g c =
    let s = c.serve_all in
    served_behind g.K.Keeper g.N.Net g.C.Clock g.S.Sink c.args.count
    (record { controller = c.args.controller.now; net = c.args.net.now; clock = c.args.clock.now; sink = c.args.sink.now })
    (record { controller = s.new.controller; net = s.new.net; clock = s.new.clock; sink = s.new.sink })
    c.listen.new.net s.result c.in_ok-listen.ensures.stays c.in_ok-listen.ensures.calls s.ensures
