use Rattle.std.proofs.Common.{Ok}
use Rattle.adr_online.specs.Goes.{ServesSo}
use Rattle.adr_online.proofs.connecting.serve_all.Given as goal

-- so many connections were served
abbrev pub invariant-loop-done : goal.invariant-loop-done
invariant-loop-done g l =
    ServesSo g.K.Keeper g.N.Net g.C.Clock g.S.Sink l.done
    (record { controller = l.fn.controller; net = l.fn.net; clock = l.fn.clock; sink = l.fn.sink })
    (record { controller = l.controller; net = l.net; clock = l.clock; sink = l.sink }) (Ok tt)
