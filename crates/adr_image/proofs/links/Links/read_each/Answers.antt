use Rattle.std.proofs.Common.{fold, refl, sym, ◌∙◌}
use Rattle.std.proofs.lemmas.Result.{err_from_is_err_and}
use Rattle.adr_wire.specs.Reading.{gathered_at}
use Rattle.adr_wire.proofs.Loops.{names_refuses, refuses_is}
use Rattle.adr_image.specs.Image.{with_link, link_at}
use Rattle.adr_image.specs.Whole.{dead_of, no_links}
use Rattle.adr_image.specs.Seen.{KeepsLinks}
use Rattle.adr_image.proofs.Keeping.{link_next, sets_out, goes_further, breaks_off, arrives}
use Rattle.adr_image.proofs.links.Links.read_each.Goals as goal

pub loop-init : goal.loop-init
loop-init c = λ os h.
    sets_out with_link (link_at c.args.usn c.args.schema.now (dead_of os)) (no_links os) (KeepsLinks os) c.args.count
    (gathered_at with_link (link_at c.args.usn c.args.schema.now (dead_of os)) c.args.count (no_links os) c.args.reader.now) c.args.self c.args.reader.now h refl

pub returns-in_err-link : goal.returns-in_err-link
returns-in_err-link c = λ os h.
    let p = err_from_is_err_and c.from_residual.result c.from_residual.ensures.1 in
    rw (p.1, p.2)
    (breaks_off with_link (link_at c.args.usn c.args.schema.now (dead_of os)) (no_links os) (KeepsLinks os) c.args.count
    (gathered_at with_link (link_at c.args.usn c.args.schema.now (dead_of os)) c.args.count (no_links os) c.args.reader.now)
    c.in_err-link.field-0.0 c.loop.counter c.loop.links c.loop.reader c.loop-test.true (c.loop.invariant os h)
    (λ ls k. refuses_is c.in_err-link.field-0.0 (link_at c.args.usn c.args.schema.now c.loop.links.dead.keys (record { last = c.loop.links.last; used = c.loop.links.used.keys }) c.loop.reader)
    (link_at c.args.usn c.args.schema.now (dead_of os) (fold with_link (no_links os) ls) c.loop.reader)
    (link_next c.args.usn c.args.schema.now os c.loop.links ls k c.loop.reader)
    (names_refuses c.in_err-link.field-0.0 (link_at c.args.usn c.args.schema.now c.loop.links.dead.keys (record { last = c.loop.links.last; used = c.loop.links.used.keys }) c.loop.reader) c.in_err-link.ensures)))

pub loop-preserved : goal.loop-preserved
loop-preserved c = λ os h.
    goes_further with_link (link_at c.args.usn c.args.schema.now (dead_of os)) (no_links os) (KeepsLinks os) c.args.count
    (gathered_at with_link (link_at c.args.usn c.args.schema.now (dead_of os)) c.args.count (no_links os) c.args.reader.now)
    c.loop.counter c.loop.links c.take.new.self c.loop.reader c.read_link.new.reader c.loop-test.true (c.loop.invariant os h)
    (λ ls k. (c.in_ok-link.link, sym (link_next c.args.usn c.args.schema.now os c.loop.links ls k c.loop.reader) ∙ c.in_ok-link.ensures, c.in_ok-take.ensures os ls k))

pub returns : goal.returns
returns c = λ os h.
    arrives with_link (link_at c.args.usn c.args.schema.now (dead_of os)) (no_links os) (KeepsLinks os) c.args.count
    (gathered_at with_link (link_at c.args.usn c.args.schema.now (dead_of os)) c.args.count (no_links os) c.args.reader.now)
    c.loop.counter c.loop.links c.loop.reader c.loop-test.false (c.loop.invariant os h)
