use Rattle.std.proofs.Common.{◌∙◌, sym, ap}
use Rattle.std.proofs.lemmas.Result.{IfOk-weaker}
use Rattle.adr_values.specs.declared.stamp.Unit.TheVariants.{Link}
use Rattle.adr_update.specs.Sought.{rows_of_unit}
use Rattle.adr_table.specs.Locals.{rows_of_seat}
use Rattle.adr_table.specs.Table.{rows_in}
use Rattle.adr_table.proofs.LocalsSeats.{rows_of}
use Rattle.adr_table.proofs.table.Table.rows_of_unit.Goals as goal

pub returns-in-Link : goal.returns-in-Link
returns-in-Link c =
    let all = rows_in c.args.self.now in
    IfOk-weaker c.rows_of_unit.result _ _
    (λ rows is. is ∙ ap (λ p. rows_of_seat p all) c.of_link.ensures ∙ rows_of (Link c.in-Link.link) all ∙ ap (rows_of_unit all) (sym c.in-Link.is)) c.rows_of_unit.ensures
