use Rattle.std.proofs.Common.{sym, ◌∙◌, ap}
use Rattle.adr_model.specs.Update.{LinkOf}
use Rattle.adr_table.specs.Back.{row_of_link}
use Rattle.adr_table.proofs.Seen.{found}
use Rattle.adr_table.proofs.back.row_behind.Goals as goal

pub returns-in-Some : goal.returns-in-Some
returns-in-Some c =
    c.row.ensures ∙ sym (found c.args.slots.now.map (LinkOf c.in-Some.link) c.requires.ordered c.requires.home)
    ∙ ap (row_of_link c.args.slots.now) (sym c.in-Some.is ∙ c.link.ensures)
