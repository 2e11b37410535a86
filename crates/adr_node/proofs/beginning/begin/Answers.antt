use Rattle.std.proofs.Common.{refl, ap, Err}
use Rattle.adr_node.specs.Seen.{of_disk}
use Rattle.adr_node.proofs.Mirrored.{both, kept, kept_leaves, off, onto, over, unbegun_over}
use Rattle.adr_node.proofs.Started.{still_told, wanting, wants_by}
use Rattle.adr_node.proofs.beginning.begin.Goals as goal

pub returns-in-Err-clause-unbegun : goal.returns-in-Err-clause-unbegun
returns-in-Err-clause-unbegun g c =
    let d = g.D.Disk in
    let mid = c.attach.new.self in
    let e = c.in-Err.ensures in
    let u = c.by_fault in
    let same = kept d c.args.disk mid e.keeps e.cause.never_falls in
    wanting (of_disk d) g.S.Sink c.args.disk mid c.args.sink.now c.args.sink.now u.result
    (wants_by (of_disk d) c.args.disk mid c.in-Err.fault u.result u.ensures.failed u.ensures.no_memory (λ is. e.cause.failed (ap Err is)) (same.content, same.told))
    e.cause.never_falls (still_told (of_disk d) c.args.disk mid same.told) (kept_leaves d g.met.D.Disk.only_now c.args.disk mid e.keeps) same.left refl

pub returns-in-Ok-start-clause-begun : goal.returns-in-Ok-start-clause-begun
returns-in-Ok-start-clause-begun g c =
    let d = g.D.Disk in
    let mid = c.attach.new.self in
    let j = c.new-journal.result in
    record {
      keeper = j;
      mirrors =
          both (of_disk d) (of_disk d) (over d (λ j. j.disk)) c.args.disk mid j
          (kept d c.args.disk mid c.in-Ok.ensures.keeps c.in-Ok.ensures.cause.never_falls) (onto d (λ j. j.disk) mid j c.new-journal.ensures.disk);
      begun = c.in-Ok-start.ensures.begun;
    }

pub returns-in-Err-start-clause-unbegun : goal.returns-in-Err-start-clause-unbegun
returns-in-Err-start-clause-unbegun g c =
    let d = g.D.Disk in
    let mid = c.attach.new.self in
    let e = over d (λ j. j.disk) in
    let j = c.new-journal.result in
    let k = c.in-Err-start.journal in
    let o = c.into_disk.ensures in
    let first = both (of_disk d) (of_disk d) e c.args.disk mid j
    (kept d c.args.disk mid c.in-Ok.ensures.keeps c.in-Ok.ensures.cause.never_falls) (onto d (λ j. j.disk) mid j c.new-journal.ensures.disk) in
    unbegun_over (of_disk d) e c.args.disk c.into_disk.result j k first (off d (λ j. j.disk) k c.into_disk.result o.content o.left o.since o.moment o.faults)
    g.S.Sink c.args.sink.now c.start.new.sink c.in-Err-start.why c.in-Err-start.ensures.unbegun
