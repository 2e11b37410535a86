use Rattle.std.proofs.Common.{None}
use Rattle.std.proofs.lemmas.Result.{err_from_is_err_and}
use Rattle.adr_wire.specs.Reading.{elements_at, keyed}
use Rattle.adr_wire.specs.Composites.{value_at, one_key, values_at}
use Rattle.adr_wire.proofs.Loops.{goes_on_alike, ends}
use Rattle.adr_wire.proofs.reader.Reader.read_values.Goals as goal

pub returns-in_err-value : goal.returns-in_err-value
unfolding values_at
returns-in_err-value c =
    let p = err_from_is_err_and c.from_residual.result c.from_residual.ensures.1 in
    rw (p.1, p.2)
    (ends (keyed one_key) (λ _. value_at) c.loop.values.items c.args.count c.loop.counter None c.loop.self (elements_at one_key (λ _. value_at) c.args.count None c.args.self.now)
    c.in_err-value.field-0.0 c.loop-test.true c.in_err-value.ensures c.loop.invariant)

pub loop-preserved : goal.loop-preserved
unfolding values_at
loop-preserved c =
    rw c.in_ok-push.ensures.items
    (goes_on_alike one_key value_at c.loop.values.items c.args.count c.loop.counter c.loop.self (elements_at one_key (λ _. value_at) c.args.count None c.args.self.now)
    c.in_ok-value.value c.read_value.new.self c.loop-test.true c.in_ok-value.ensures c.loop.invariant)
