use Rattle.std.proofs.Common.{◌∙◌}
use Rattle.adr_table.specs.Table.{HasRoom}
use Rattle.adr_table.proofs.Rooms.{next_before}
use Rattle.adr_table.proofs.table.Table.reserve_each.Goals as goal

pub loop-row-preserved : goal.loop-row-preserved
loop-row-preserved c = (
  c.reserve_one.ensures.kept,
  c.reserve_one.ensures.numbered,
  c.reserve_one.ensures.rows ∙ c.loop-row.invariant.2,
  (λ h room. c.reserve_one.ensures.more h (c.loop-row.invariant.3 h room)),
  c.in_ok-usn.ensures.ok.located,
  next_before (HasRoom c.loop-row.self) (HasRoom c.reserve_one.new.self) c.args.rows.now c.loop-row.row-index c.row-item.result c.loop-row-test.true c.row-item.is c.loop-row.invariant.5
      c.reserve_one.ensures.more c.in_ok-usn.ensures.ok,
)
