use Rattle.std.proofs.Common.{sym, subst}
use Rattle.adr_node.specs.Seen.{of_keeper}
use Rattle.adr_online.specs.Goes.{Server}
use Rattle.adr_online.specs.Serves.{Serves}
use Rattle.adr_online.proofs.Begun.{started_serves}
use Rattle.adr_online.proofs.serving.serve_from.Goals as goal

pub returns : goal.returns
returns g c = λ keeper begun.
    let u = c.serve_up-served in
    let law = g.met.K.Keeper in
    let v : Server g.row.K.Denot g.row.N.Denot g.row.C.Denot g.row.S.Denot =
    record { controller = c.args.controller; net = c.args.net.now; clock = c.args.clock.now; sink = c.args.sink.now } in
    subst (λ (x : g.row.K.Denot). Serves (of_keeper g.K.Keeper) g.N.Net g.C.Clock g.S.Sink c.args.count
    (record { disk = keeper; net = v.net; clock = v.clock; sink = v.sink })
    (record { disk = x; net = u.new.net; clock = u.new.clock; sink = u.new.sink }) c.ended.result) (sym c.into_keeper.ensures)
    (started_serves g.K.Keeper g.N.Net g.C.Clock g.S.Sink c.args.count law.tells law.leaves keeper v
    (record { controller = u.new.controller; net = u.new.net; clock = u.new.clock; sink = u.new.sink }) u.result c.ended.result c.ended.ensures begun
    c.state.ensures.in_order u.ensures)
