use Rattle.std.proofs.Common.{Option, ap, ◌∙◌}
use Rattle.std.specs.Option.{is_some}
use Rattle.adr_model.specs.Take.{is_of_attr}
use Rattle.adr_model.specs.Update.{Update}
use Rattle.adr_update.proofs.Found.{is_copied, is_found}
use Rattle.adr_overlay.proofs.keys.has_row.Goals as goal

pub returns : goal.returns
returns c =
    c.is_some.ensures ∙ is_copied c.first_row.result ∙ ap (λ (o : Option Update). is_some o) c.first_row.ensures
    ∙ is_found (λ (u : Update). is_of_attr c.args.attr u.key) c.args.rows.now
