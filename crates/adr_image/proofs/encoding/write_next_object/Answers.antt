use Rattle.std.proofs.Common.{arith}
use Rattle.adr_image.proofs.Writing.{next_written}
use Rattle.adr_image.proofs.encoding.write_next_object.Goals as goal

pub overflow_cast-own : goal.overflow_cast-own
overflow_cast-own c =
    let few = c.requires.few c.args.object.now 0 in
    let own = c.own_rows-own.ensures.value in
    omega (arith, few, own)

pub returns-clause-written : goal.returns-clause-written
returns-clause-written c =
    next_written c.args.writer.now c.write_oid.new.self c.write_u16.new.self c.write_each.new.writer c.args.object.now c.own_rows-own.result c.args.rows.now c.own_rows-own.ensures.value
    c.in_ok-write_oid.ensures c.in_ok-write_u16.ensures.ok c.in_ok-write_each.ensures
