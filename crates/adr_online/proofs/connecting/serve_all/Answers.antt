use Rattle.std.proofs.Common.{◌≡◌, subst, ℕ, Ok, arith}
use Rattle.std.proofs.lemmas.Result.{err_from_is_err_and}
use Rattle.adr_online.specs.Goes.{Server, ServesSo}
use Rattle.adr_online.proofs.Many.{served_more, served_none, served_some}
use Rattle.adr_online.proofs.connecting.serve_all.Goals as goal

pub serve_next-requires-clause-up : goal.serve_next-requires-clause-up
serve_next-requires-clause-up g c = c.loop-done.invariant.up

pub loop-done-init : goal.loop-done-init
loop-done-init g c =
    let law = g.met.K.Keeper in
    served_none g.K.Keeper g.N.Net g.C.Clock g.S.Sink law.leaves law.only_now
    (record { controller = c.args.controller.now; net = c.args.net.now; clock = c.args.clock.now; sink = c.args.sink.now }) c.requires.up c.state.ensures.in_order

pub loop-done-preserved : goal.loop-done-preserved
loop-done-preserved g c =
    let l = c.loop-done in
    let s = c.serve_next in
    served_more g.K.Keeper g.N.Net g.C.Clock g.S.Sink l.done
    (record { controller = c.args.controller.now; net = c.args.net.now; clock = c.args.clock.now; sink = c.args.sink.now })
    (record { controller = l.controller; net = l.net; clock = l.clock; sink = l.sink })
    (record { controller = s.new.controller; net = s.new.net; clock = s.new.clock; sink = s.new.sink })
    l.invariant c.in_ok-serve_next.ensures

pub returns-in_err-serve_next : goal.returns-in_err-serve_next
returns-in_err-serve_next g c =
    let l = c.loop-done in
    let s = c.serve_next in
    let r = err_from_is_err_and c.from_residual.result c.from_residual.ensures.1 in
    rw (r.1, r.2)
    (served_some g.K.Keeper g.N.Net g.C.Clock g.S.Sink l.done
    (record { controller = c.args.controller.now; net = c.args.net.now; clock = c.args.clock.now; sink = c.args.sink.now })
    (record { controller = l.controller; net = l.net; clock = l.clock; sink = l.sink })
    (record { controller = s.new.controller; net = s.new.net; clock = s.new.clock; sink = s.new.sink })
    l.invariant c.args.count c.in_err-serve_next.field-0.0 c.loop-done-test.true c.in_err-serve_next.ensures)

pub returns : goal.returns
returns g c =
    let l = c.loop-done in
    let all : l.done ≡ c.args.count = omega (arith, c.loop-done-test.false, l.auto.done-end) in
    let first : Server g.row.K.Denot g.row.N.Denot g.row.C.Denot g.row.S.Denot =
    record { controller = c.args.controller.now; net = c.args.net.now; clock = c.args.clock.now; sink = c.args.sink.now } in
    let now : Server g.row.K.Denot g.row.N.Denot g.row.C.Denot g.row.S.Denot = record { controller = l.controller; net = l.net; clock = l.clock; sink = l.sink } in
    subst (λ (n : ℕ). ServesSo g.K.Keeper g.N.Net g.C.Clock g.S.Sink n first now (Ok tt)) all l.invariant
