use Rattle.std.proofs.Common.{◌≡◌, subst}
use Rattle.std.specs.Prelude.{OnOk}
use Rattle.adr_node.specs.Looks.{Due, bytes_of, refuses, whole_of}
use Rattle.adr_node.specs.declared.ended.Looked.{Looked}
use Rattle.adr_node.proofs.Writes.{Wrote, no_disk_fault, tells_so, whole_is_no_disk_fault, whole_is_no_write_fault, wrote_all, wrote_front}
use Rattle.adr_node.proofs.looking.tell.Goals as goal

pub returns-clause-tells : goal.returns-clause-tells
returns-clause-tells g c = λ log.
    let s = c.args.state.now in
    let bytes = bytes_of c.args.sight c.args.name.now s in
    let due : Due = record { ends = whole_of (refuses c.args.sight s); bytes = bytes } in
    let w = c.write-written.ensures in
    let new = c.write-written.new.sink in
    let written = c.write-written.result in
    let made = c.bytes_of.result in
    let wrote : Wrote g.K.Sink (λ v. v.items) c.args.sink.now new made written = record { ok = w.ok; made_it = w.made; front = w.front; unmade = w.unmade; later = w.never_falls; failed = w.failed } in
    tells_so g.K.Sink due c.args.sink.now new written c.ended.result
    (wrote_all g.K.Sink (λ v. v.items) bytes c.args.sink.now new made written wrote c.bytes_of.ensures)
    (wrote_front g.K.Sink (λ v. v.items) bytes c.args.sink.now new made written wrote c.bytes_of.ensures)
    w.never_falls w.failed
    (subst (λ (whole : Looked). OnOk written (c.ended.result ≡ whole)) c.whole_of-whole.ensures c.ended.ensures.ok)
    c.ended.ensures.failed c.ended.ensures.no_memory (whole_is_no_write_fault (refuses c.args.sight s))

pub returns-clause-no_fault : goal.returns-clause-no_fault
returns-clause-no_fault g c =
    no_disk_fault c.write-written.result (whole_of (refuses c.args.sight c.args.state.now)) c.ended.result
    (subst (λ (whole : Looked). OnOk c.write-written.result (c.ended.result ≡ whole)) c.whole_of-whole.ensures c.ended.ensures.ok)
    c.ended.ensures.failed c.ended.ensures.no_memory (whole_is_no_disk_fault (refuses c.args.sight c.args.state.now))
