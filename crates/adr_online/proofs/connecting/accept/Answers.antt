use Rattle.std.proofs.Common.{inr}
use Rattle.adr_online.proofs.Connected.{called_on, door_called}
use Rattle.adr_online.proofs.connecting.accept.Goals as goal

pub returns-clause-opens : goal.returns-clause-opens
returns-clause-opens g c = rw c.called.ensures (called_on c.accept.result _ c.accept.ensures.opens)

pub returns-clause-calls : goal.returns-clause-calls
returns-clause-calls g c =
    let e = c.accept.ensures in
    rw c.called.ensures
    (door_called g.N.Net c.args.net.now c.accept.new.self c.accept.result e.counts e.no_memory (λ failed. inr (e.closes failed)))
