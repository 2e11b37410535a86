use Rattle.std.proofs.Common.{sym, ap, ◌∙◌}
use Rattle.adr_table.specs.Table.{rows_in}
use Rattle.adr_state.specs.Core.{core_object}
use Rattle.adr_state.proofs.Drafting.{value_drafted}
use Rattle.adr_state.proofs.drafts.write_row.Goals as goal

pub returns-in-None : goal.returns-in-None
returns-in-None c seen r are =
    value_drafted (rows_in c.args.table.now) seen c.args.drafts.now c.args.row.now r are
    (ap core_object (sym c.key.ensures) ∙ sym c.core_object.ensures ∙ c.in-None.is)
