use Rattle.adr_table.proofs.Reserved.{front_all}
use Rattle.adr_table.proofs.table.Table.reserve_front.Goals as goal

pub reserve_object-requires-clause-own : goal.reserve_object-requires-clause-own
reserve_object-requires-clause-own c = front_all c.in-Some.object c.args.rows.now c.lives_of-end.result c.lives_of-end.ensures.front
