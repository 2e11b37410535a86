use Rattle.std.proofs.Common.{◌∙◌}
use Rattle.adr_table.specs.Table.{rows_in}
use Rattle.adr_table.proofs.Queries.{any_of_guid}
use Rattle.adr_table.proofs.table.Table.holds_guid.Goals as goal

pub returns : goal.returns
returns c = c.has_row_in_run.ensures ∙ any_of_guid c.before_guid.result c.args.guid c.before_guid.ensures.place (rows_in c.args.self.now)
