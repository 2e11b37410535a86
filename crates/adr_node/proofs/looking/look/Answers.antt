use Rattle.std.proofs.Common.{sym, subst}
use Rattle.adr_node.specs.Looks.{Looks, bytes_of, due_of, refuses}
use Rattle.adr_node.specs.Seen.{of_disk}
use Rattle.adr_node.specs.declared.ended.Looked.{Looked}
use Rattle.adr_node.proofs.Mirrored.{looks_over, off, over}
use Rattle.adr_node.proofs.Started.{unbegun_looks}
use Rattle.adr_node.proofs.looking.look.Goals as goal

pub returns-in-Ok : goal.returns-in-Ok
returns-in-Ok g c =
    let e = over g.D.Disk (λ j. j.disk) in
    let b = c.in-Ok.ensures.begun in
    let l = c.look_at-ended in
    let o = c.into_disk.ensures in
    let due = due_of (refuses c.args.sight) (bytes_of c.args.sight c.args.name.now) in
    looks_over (of_disk g.D.Disk) e c.args.disk c.into_disk.result b.keeper l.result.1 b.mirrors
    (off g.D.Disk (λ j. j.disk) l.result.1 c.into_disk.result o.content o.left o.since o.moment o.faults)
    g.K.Sink due c.args.sink.now l.new.sink l.result.0
    (subst (λ (x : g.row.K.Denot). Looks e g.K.Sink due b.keeper l.result.1 x l.new.sink l.result.0) c.in-Ok.ensures.silent (l.ensures b.keeper b.begun))

pub returns-in-Err : goal.returns-in-Err
returns-in-Err g c =
    let due = due_of (refuses c.args.sight) (bytes_of c.args.sight c.args.name.now) in
    let e = c.in-Err.ensures in
    subst (λ (how : Looked). Looks (of_disk g.D.Disk) g.K.Sink due c.args.disk c.in-Err.disk c.args.sink.now c.begin.new.sink how) (sym c.unseen.ensures)
    (unbegun_looks (of_disk g.D.Disk) g.K.Sink (refuses c.args.sight) (bytes_of c.args.sight c.args.name.now) c.args.disk c.in-Err.disk c.args.sink.now c.begin.new.sink c.in-Err.why e.unbegun)
