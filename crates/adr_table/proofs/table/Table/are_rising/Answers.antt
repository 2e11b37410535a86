use Rattle.adr_table.proofs.Queries.{rise}
use Rattle.adr_table.proofs.table.Table.are_rising.Goals as goal

pub returns : goal.returns
returns c = rise c.args.self.now.slots.map c.requires.tidy.ordered c.requires.tidy.home
