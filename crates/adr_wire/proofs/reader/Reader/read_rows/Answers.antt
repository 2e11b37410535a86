use Rattle.std.proofs.Common.{None}
use Rattle.std.proofs.lemmas.Result.{err_from_is_err_and}
use Rattle.adr_wire.specs.Reading.{elements_at, keyed}
use Rattle.adr_wire.specs.Composites.{row_above, rows_at}
use Rattle.adr_wire.proofs.Loops.{goes_on, ends}
use Rattle.adr_wire.proofs.reader.Reader.read_rows.Goals as goal

pub returns-in_err-row : goal.returns-in_err-row
unfolding rows_at
returns-in_err-row c =
    let p = err_from_is_err_and c.from_residual.result c.from_residual.ensures.1 in
    rw (p.1, p.2)
    (ends (keyed (λ r. r.0)) row_above c.loop.rows.items c.args.count c.loop.counter c.loop.last c.loop.self (elements_at (λ r. r.0) row_above c.args.count None c.args.self.now)
    c.in_err-row.field-0.0 c.loop-test.true c.in_err-row.ensures c.loop.invariant)

pub loop-preserved : goal.loop-preserved
unfolding rows_at
loop-preserved c =
    rw c.in_ok-push.ensures.items
    (goes_on (keyed (λ r. r.0)) row_above c.loop.rows.items c.args.count c.loop.counter c.loop.last c.loop.self (elements_at (λ r. r.0) row_above c.args.count None c.args.self.now)
    c.in_ok-row.row c.read_row_above.new.self c.loop-test.true c.in_ok-row.ensures c.loop.invariant)
