use Rattle.std.proofs.Common.{None}
use Rattle.std.proofs.lemmas.Result.{err_from_is_err_and}
use Rattle.adr_wire.specs.Reading.{elements_at, keyed}
use Rattle.adr_wire.specs.Composites.{cursor_above, cursors_at}
use Rattle.adr_wire.proofs.Loops.{goes_on, ends, names_refuses}
use Rattle.adr_wire.proofs.reader.Reader.read_cursors.Goals as goal

pub returns-in_err-inv : goal.returns-in_err-inv
unfolding cursors_at
returns-in_err-inv c =
    let p = err_from_is_err_and c.from_residual.result c.from_residual.ensures.1 in
    rw (p.1, p.2)
    (ends (keyed (λ c. c.0)) cursor_above c.loop.cursors.items c.args.count c.loop.counter c.loop.last c.loop.self (elements_at (λ c. c.0) cursor_above c.args.count None c.args.self.now)
    c.in_err-inv.field-0.0 c.loop-test.true (names_refuses c.in_err-inv.field-0.0 (cursor_above c.loop.last c.loop.self) c.in_err-inv.ensures) c.loop.invariant)

pub loop-preserved : goal.loop-preserved
unfolding cursors_at
loop-preserved c =
    rw c.in_ok-push.ensures.items
    (goes_on (keyed (λ c. c.0)) cursor_above c.loop.cursors.items c.args.count c.loop.counter c.loop.last c.loop.self (elements_at (λ c. c.0) cursor_above c.args.count None c.args.self.now)
    (c.in_ok-inv.inv, c.in_ok-inv.usn) c.read_cursor_above.new.self c.loop-test.true c.in_ok-inv.ensures c.loop.invariant)
