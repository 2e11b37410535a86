use Rattle.std.proofs.Common.{◌≤◌, arith}
use Rattle.std.proofs.lemmas.Result.{err_from_is_err_and}
use Rattle.adr_wire.specs.Reading.{keyed}
use Rattle.adr_wire.proofs.Loops.{goes_on, ends, is_done, names_refuses}
use Rattle.adr_model.specs.Take.{mark_limit}
use Rattle.adr_image.specs.Image.{kept_above}
use Rattle.adr_image.specs.Whole.{marks_at}
use Rattle.adr_image.proofs.Steps.{marks_begin}
use Rattle.adr_image.proofs.marks.read_marks.Goals as goal

pub loop-init : goal.loop-init
loop-init c =
    let fits : c.in_ok-count.count ≤ mark_limit = omega (arith, c.if-count-gt-MARK_LIMIT.false) in
    marks_begin c.new-marks.result.items c.in_ok-count.count c.args.reader.now c.read_u32.new.self c.new-marks.ensures.items c.in_ok-count.ensures fits

pub returns-in_err-partner : goal.returns-in_err-partner
returns-in_err-partner c =
    let p = err_from_is_err_and c.from_residual-in_err-partner.result c.from_residual-in_err-partner.ensures.1 in
    rw (p.1, p.2)
    (ends (keyed (λ k. k.0)) kept_above c.loop.marks.items c.in_ok-count.count c.loop.counter c.loop.last c.loop.reader (marks_at c.args.reader.now)
    c.in_err-partner.field-0.0 c.loop-test.true (names_refuses c.in_err-partner.field-0.0 (kept_above c.loop.last c.loop.reader) c.in_err-partner.ensures) c.loop.invariant)

pub loop-preserved : goal.loop-preserved
loop-preserved c =
    rw c.in_ok-push.ensures.items
    (goes_on (keyed (λ k. k.0)) kept_above c.loop.marks.items c.in_ok-count.count c.loop.counter c.loop.last c.loop.reader (marks_at c.args.reader.now)
    (c.in_ok-partner.partner, c.in_ok-partner.kept) c.read_kept.new.reader c.loop-test.true c.in_ok-partner.ensures c.loop.invariant)

pub returns : goal.returns
returns c =
    is_done (keyed (λ k. k.0)) kept_above c.loop.marks.items c.in_ok-count.count c.loop.counter c.loop.last c.loop.reader (marks_at c.args.reader.now)
    c.loop-test.false c.loop.invariant
