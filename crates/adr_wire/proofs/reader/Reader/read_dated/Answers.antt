use Rattle.std.proofs.Common.{None}
use Rattle.std.proofs.lemmas.Result.{err_from_is_err_and}
use Rattle.adr_wire.specs.Reading.{elements_at, keyed}
use Rattle.adr_wire.specs.Timed.{dated_above, dated_at}
use Rattle.adr_wire.proofs.Loops.{goes_on, ends, names_refuses}
use Rattle.adr_wire.proofs.reader.Reader.read_dated.Goals as goal

pub returns-in_err-cursor : goal.returns-in_err-cursor
unfolding dated_at
returns-in_err-cursor c =
    let p = err_from_is_err_and c.from_residual.result c.from_residual.ensures.1 in
    rw (p.1, p.2)
    (ends (keyed (λ d. d.0.0)) dated_above c.loop.all.items c.args.count c.loop.counter c.loop.last c.loop.self (elements_at (λ d. d.0.0) dated_above c.args.count None c.args.self.now)
    c.in_err-cursor.field-0.0 c.loop-test.true (names_refuses c.in_err-cursor.field-0.0 (dated_above c.loop.last c.loop.self) c.in_err-cursor.ensures) c.loop.invariant)

pub loop-preserved : goal.loop-preserved
unfolding dated_at
loop-preserved c =
    rw c.in_ok-push.ensures.items
    (goes_on (keyed (λ d. d.0.0)) dated_above c.loop.all.items c.args.count c.loop.counter c.loop.last c.loop.self (elements_at (λ d. d.0.0) dated_above c.args.count None c.args.self.now)
    (c.in_ok-cursor.cursor, c.in_ok-cursor.moment) c.read_dated_above.new.self c.loop-test.true c.in_ok-cursor.ensures c.loop.invariant)
