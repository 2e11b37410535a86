use Rattle.adr_table.proofs.Units.{rows_of_shelf}
use Rattle.adr_table.proofs.slots.Slots.unit.Goals as goal

pub returns : goal.returns
returns c = rows_of_shelf c.args.seat.now c.unit.result.now c.args.self.now.map c.unit.ensures c.requires.home
