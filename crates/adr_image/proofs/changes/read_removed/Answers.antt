use Rattle.std.proofs.Common.{None}
use Rattle.std.proofs.lemmas.Result.{err_from_is_err_and}
use Rattle.adr_wire.specs.Composites.{oid_at}
use Rattle.adr_wire.specs.Reading.{keyed}
use Rattle.adr_wire.proofs.Loops.{goes_on_alike, ends, names_refuses}
use Rattle.adr_image.specs.Body.{one_name, removed_at}
use Rattle.adr_image.proofs.Changing.{removed_begin}
use Rattle.adr_image.proofs.changes.read_removed.Goals as goal

pub loop-init : goal.loop-init
loop-init c = removed_begin c.new-removed.result.items c.in_ok-count.count c.args.reader.now c.read_u32.new.self c.new-removed.ensures.items c.in_ok-count.ensures

pub returns-in_err-object : goal.returns-in_err-object
returns-in_err-object c =
    let p = err_from_is_err_and c.from_residual-in_err-object.result c.from_residual-in_err-object.ensures.1 in
    rw (p.1, p.2)
    (ends (keyed one_name) (λ _. oid_at) c.loop.removed.items c.in_ok-count.count c.loop.counter None c.loop.reader (removed_at c.args.reader.now)
    c.in_err-object.field-0.0 c.loop-test.true (names_refuses c.in_err-object.field-0.0 (oid_at c.loop.reader) c.in_err-object.ensures) c.loop.invariant)

pub loop-preserved : goal.loop-preserved
loop-preserved c =
    rw c.in_ok-push.ensures.items
    (goes_on_alike one_name oid_at c.loop.removed.items c.in_ok-count.count c.loop.counter c.loop.reader (removed_at c.args.reader.now)
    c.in_ok-object.object c.read_oid.new.self c.loop-test.true c.in_ok-object.ensures c.loop.invariant)
