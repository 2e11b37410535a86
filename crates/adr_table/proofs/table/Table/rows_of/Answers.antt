use Rattle.std.proofs.Common.{◌∙◌}
use Rattle.std.proofs.lemmas.Result.{IfOk-weaker}
use Rattle.adr_table.specs.Table.{rows_in}
use Rattle.adr_table.proofs.Queries.{rows_of_object}
use Rattle.adr_table.proofs.table.Table.rows_of.Goals as goal

pub returns : goal.returns
returns c = IfOk-weaker c.rows_of_unit.result _ _ (λ rows is. is ∙ rows_of_object c.before_rows.result c.args.object.now c.before_rows.ensures.place (rows_in c.args.self.now)) c.rows_of_unit.ensures
