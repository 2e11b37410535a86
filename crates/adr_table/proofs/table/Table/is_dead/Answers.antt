use Rattle.std.proofs.Common.{◌∙◌, sym}
use Rattle.adr_table.proofs.Listed.{not_listed}
use Rattle.adr_table.proofs.table.Table.is_dead.Goals as goal

pub returns-else-contains : goal.returns-else-contains
returns-else-contains c =
    c.if-contains.false ∙ not_listed c.args.self.now.slots c.args.self.now.dead c.args.object.now c.requires.listed (sym c.contains.ensures ∙ c.if-contains.false)
