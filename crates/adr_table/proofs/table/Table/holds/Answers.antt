use Rattle.std.proofs.Common.{◌∙◌}
use Rattle.adr_table.specs.Table.{rows_in}
use Rattle.adr_table.proofs.Queries.{any_of_object}
use Rattle.adr_table.proofs.table.Table.holds.Goals as goal

pub returns : goal.returns
returns c = c.has_unit.ensures ∙ any_of_object c.before_rows.result c.args.object.now c.before_rows.ensures.place (rows_in c.args.self.now)
