use Rattle.adr_node.specs.Seen.{of_disk}
use Rattle.adr_node.proofs.Formatted.{formats_over}
use Rattle.adr_node.proofs.Mirrored.{off, onto, over}
use Rattle.adr_node.proofs.making.format_disk.Goals as goal

pub returns : goal.returns
returns g c =
    let d = g.D.Disk in
    let e = over d (λ j. j.disk) in
    let o = c.into_disk.ensures in
    formats_over (of_disk d) e c.args.state c.args.disk c.into_disk.result c.new-journal.result c.format-made.result.1
    (onto d (λ j. j.disk) c.args.disk c.new-journal.result c.new-journal.ensures.disk)
    (off d (λ j. j.disk) c.format-made.result.1 c.into_disk.result o.content o.left o.since o.moment o.faults) c.format-made.result.0 c.format-made.ensures
