use Rattle.std.proofs.Common.{◌∙◌}
use Rattle.adr_table.proofs.Births.{links_counted}
use Rattle.adr_table.proofs.table.Table.links.Goals as goal

pub returns : goal.returns
returns c = c.requires.tidy.links ∙ links_counted c.args.self.now.slots.map c.requires.tidy.home
