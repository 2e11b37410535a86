use Rattle.std.proofs.Common.{inl}
use Rattle.adr_online.proofs.Connected.{door_called}
use Rattle.adr_online.proofs.serving.listen.Goals as goal

pub returns-clause-calls : goal.returns-clause-calls
returns-clause-calls g c =
    let e = c.listen.ensures in
    rw c.called.ensures (door_called g.N.Net c.args.net.now c.listen.new.self c.listen.result e.counts (λ wanting. e.stays) (λ failed. inl e.stays))
