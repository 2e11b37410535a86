use Rattle.std.proofs.lemmas.Result.{err_from_is_err_and}
use Rattle.adr_wire.specs.Reading.{gathered_at}
use Rattle.adr_image.specs.Image.{local_at, held_row_at, with_held, no_rows}
use Rattle.adr_wire.proofs.Loops.{goes_on, ends, is_done}
use Rattle.adr_image.proofs.rows.read_held_rows.Goals as goal

pub returns-in_err-row : goal.returns-in_err-row
returns-in_err-row c =
    let p = err_from_is_err_and c.from_residual.result c.from_residual.ensures.1 in
    rw (p.1, p.2)
    (ends with_held (held_row_at (local_at c.args.usn) c.args.owner c.args.schema.now c.args.oid.now) c.loop.rows.items c.args.count c.loop.counter c.loop.before c.loop.reader
    (gathered_at with_held (held_row_at (local_at c.args.usn) c.args.owner c.args.schema.now c.args.oid.now) c.args.count no_rows c.args.reader.now)
    c.in_err-row.field-0.0 c.loop-test.true c.in_err-row.ensures c.loop.invariant)

pub loop-preserved : goal.loop-preserved
loop-preserved c =
    rw (c.in_ok-push.ensures.items, c.with_held-before.ensures)
    (goes_on with_held (held_row_at (local_at c.args.usn) c.args.owner c.args.schema.now c.args.oid.now) c.loop.rows.items c.args.count c.loop.counter c.loop.before c.loop.reader
    (gathered_at with_held (held_row_at (local_at c.args.usn) c.args.owner c.args.schema.now c.args.oid.now) c.args.count no_rows c.args.reader.now)
    c.in_ok-row.row c.read_held_row.new.reader c.loop-test.true c.in_ok-row.ensures c.loop.invariant)

pub returns : goal.returns
returns c =
    is_done with_held (held_row_at (local_at c.args.usn) c.args.owner c.args.schema.now c.args.oid.now) c.loop.rows.items c.args.count c.loop.counter c.loop.before c.loop.reader
    (gathered_at with_held (held_row_at (local_at c.args.usn) c.args.owner c.args.schema.now c.args.oid.now) c.args.count no_rows c.args.reader.now)
    c.loop-test.false c.loop.invariant
