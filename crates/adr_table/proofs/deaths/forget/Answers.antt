use Rattle.std.proofs.Common.{sym, ap, ◌∙◌}
use Rattle.adr_model.specs.Store.{row_held}
use Rattle.adr_table.specs.Slots.{rows_seen}
use Rattle.adr_table.proofs.Listed.{listed_but}
use Rattle.adr_table.proofs.Queries.{none_copied}
use Rattle.adr_table.proofs.deaths.forget.Goals as goal

pub returns-then-is_none : goal.returns-then-is_none
returns-then-is_none c =
    listed_but c.args.slots.now c.args.dead.now c.remove.new.self c.args.object.now c.requires.tidy c.requires.listed
    (ap (row_held (rows_seen c.args.slots.now)) (sym c.deleted.ensures) ∙ sym c.row.ensures ∙ none_copied c.row.result c.if-is_none.ensures)
    (λ o. c.remove.ensures.updates.0 o)
