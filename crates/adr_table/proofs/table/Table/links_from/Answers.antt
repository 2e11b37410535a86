use Rattle.std.proofs.Common.{◌∙◌}
use Rattle.std.proofs.lemmas.Result.{IfOk-weaker}
use Rattle.adr_table.specs.Table.{rows_in}
use Rattle.adr_table.proofs.Queries.{links_of_object}
use Rattle.adr_table.proofs.table.Table.links_from.Goals as goal

pub returns : goal.returns
returns c = IfOk-weaker c.rows_in_run.result _ _ (λ rows is. is ∙ links_of_object c.before_links.result c.args.object.now c.before_links.ensures.place (rows_in c.args.self.now)) c.rows_in_run.ensures
