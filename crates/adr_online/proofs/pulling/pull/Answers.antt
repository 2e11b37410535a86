use Rattle.std.proofs.Common.{refl, sym, subst}
use Rattle.adr_node.specs.Seen.{of_disk}
use Rattle.adr_node.proofs.Mirrored.{off, over}
use Rattle.adr_online.specs.Pulls.{Hands, Pulls}
use Rattle.adr_online.specs.declared.ended.Pulled.{Pulled}
use Rattle.adr_online.proofs.Started.{none_pulled}
use Rattle.adr_online.proofs.Carried.{pulls_over}
use Rattle.adr_online.proofs.pulling.pull.Goals as goal

pub returns-in-Ok : goal.returns-in-Ok
returns-in-Ok g c =
    let e = over g.D.Disk (λ j. j.disk) in
    let b = c.in-Ok.ensures.begun in
    let into = c.pull_into-ended in
    let o = c.into_disk.ensures in
    pulls_over (of_disk g.D.Disk) e g.N.Net g.S.Sink c.args.name.now c.args.disk c.into_disk.result b.keeper into.result.1 b.mirrors
    (off g.D.Disk (λ j. j.disk) into.result.1 c.into_disk.result o.content o.left o.since o.moment o.faults)
    c.args.net.now into.new.net c.args.sink.now into.new.sink into.result.0
    (subst (λ (x : g.row.S.Denot). Pulls e g.N.Net g.S.Sink c.args.name.now
    (record { disk = b.keeper; net = c.args.net.now; sink = x })
    (record { disk = into.result.1; net = into.new.net; sink = into.new.sink }) into.result.0) c.in-Ok.ensures.silent (into.ensures b.keeper b.begun))

pub returns-in-Err : goal.returns-in-Err
returns-in-Err g c =
    let d = g.D.Disk in
    let old : Hands g.row.D.Denot g.row.N.Denot g.row.S.Denot = record { disk = c.args.disk; net = c.args.net.now; sink = c.args.sink.now } in
    let new : Hands g.row.D.Denot g.row.N.Denot g.row.S.Denot = record { disk = c.in-Err.disk; net = c.args.net.now; sink = c.begin.new.sink } in
    subst (λ (how : Pulled). Pulls (of_disk d) g.N.Net g.S.Sink c.args.name.now old new how) (sym c.unpulled.ensures)
    (none_pulled (of_disk d) g.N.Net g.S.Sink c.args.name.now old new c.in-Err.why c.in-Err.ensures.unbegun refl)
