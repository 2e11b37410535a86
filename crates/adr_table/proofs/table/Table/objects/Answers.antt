use Rattle.std.proofs.Common.{◌∙◌}
use Rattle.adr_table.proofs.Births.{objects_counted}
use Rattle.adr_table.proofs.Queries.{rise}
use Rattle.adr_table.proofs.table.Table.objects.Goals as goal

pub returns : goal.returns
returns c =
    c.requires.tidy.objects
    ∙ objects_counted c.args.self.now.slots.map c.requires.tidy.home (rise c.args.self.now.slots.map c.requires.tidy.ordered c.requires.tidy.home)
