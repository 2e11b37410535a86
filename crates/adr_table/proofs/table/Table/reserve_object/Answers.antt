use Rattle.adr_table.proofs.Reserved.{lives_room}
use Rattle.adr_table.proofs.table.Table.reserve_object.Goals as goal

pub returns-clause-ok : goal.returns-clause-ok
returns-clause-ok c is =
    lives_room _ c.args.object.now c.args.rows.now c.requires.own (c.in_ok-reserve_object.ensures.made c.if-not-branch.false) c.in_ok-remember_all.ensures.ok
