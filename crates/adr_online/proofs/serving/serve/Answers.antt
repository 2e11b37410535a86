use Rattle.std.proofs.Common.{refl, sym, subst}
use Rattle.adr_node.specs.Seen.{of_disk}
use Rattle.adr_node.proofs.Mirrored.{off, over}
use Rattle.adr_online.specs.Serves.{Hands, Serves}
use Rattle.adr_online.specs.declared.ended.Online.{Online}
use Rattle.adr_online.proofs.Begun.{none_served}
use Rattle.adr_online.proofs.Mirroring.{serves_over}
use Rattle.adr_online.proofs.serving.serve.Goals as goal

pub returns-in-Ok : goal.returns-in-Ok
returns-in-Ok g c =
    let e = over g.D.Disk (λ j. j.disk) in
    let b = c.in-Ok.ensures.begun in
    let s = c.serve_from-ended in
    let o = c.into_disk.ensures in
    serves_over (of_disk g.D.Disk) e c.args.disk c.into_disk.result b.keeper s.result.1 b.mirrors
    (off g.D.Disk (λ j. j.disk) s.result.1 c.into_disk.result o.content o.left o.since o.moment o.faults)
    g.N.Net g.C.Clock g.S.Sink c.args.count c.args.net.now s.new.net c.args.clock.now s.new.clock c.args.sink.now s.new.sink s.result.0
    (subst (λ (x : g.row.S.Denot). Serves e g.N.Net g.C.Clock g.S.Sink c.args.count
    (record { disk = b.keeper; net = c.args.net.now; clock = c.args.clock.now; sink = x })
    (record { disk = s.result.1; net = s.new.net; clock = s.new.clock; sink = s.new.sink }) s.result.0) c.in-Ok.ensures.silent (s.ensures b.keeper b.begun))

pub returns-in-Err : goal.returns-in-Err
returns-in-Err g c =
    let d = g.D.Disk in
    let old : Hands g.row.D.Denot g.row.N.Denot g.row.C.Denot g.row.S.Denot =
    record { disk = c.args.disk; net = c.args.net.now; clock = c.args.clock.now; sink = c.args.sink.now } in
    let new : Hands g.row.D.Denot g.row.N.Denot g.row.C.Denot g.row.S.Denot =
    record { disk = c.in-Err.disk; net = c.args.net.now; clock = c.args.clock.now; sink = c.begin.new.sink } in
    subst (λ (how : Online). Serves (of_disk d) g.N.Net g.C.Clock g.S.Sink c.args.count old new how) (sym c.unserved.ensures)
    (none_served (of_disk d) g.N.Net g.C.Clock g.S.Sink c.args.count old new c.in-Err.why c.in-Err.ensures.unbegun refl refl)
