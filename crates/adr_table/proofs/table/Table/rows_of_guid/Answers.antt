use Rattle.std.proofs.Common.{◌∙◌}
use Rattle.std.proofs.lemmas.Result.{IfOk-weaker}
use Rattle.adr_table.specs.Table.{rows_in}
use Rattle.adr_table.proofs.Queries.{rows_of_guid}
use Rattle.adr_table.proofs.table.Table.rows_of_guid.Goals as goal

pub returns : goal.returns
returns c = IfOk-weaker c.rows_in_run.result _ _ (λ rows is. is ∙ rows_of_guid c.before_guid.result c.args.guid c.before_guid.ensures.place (rows_in c.args.self.now)) c.rows_in_run.ensures
