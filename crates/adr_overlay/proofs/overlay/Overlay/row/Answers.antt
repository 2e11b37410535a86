use Rattle.std.proofs.Common.{sym, ap, ◌∙◌}
use Rattle.std.specs.Option.{option_copied}
use Rattle.adr_model.specs.Store.{row_held}
use Rattle.adr_update.specs.Key.{key_of}
use Rattle.adr_table.specs.Table.{rows_in}
use Rattle.adr_overlay.proofs.Telling.{held_over, held_below}
use Rattle.adr_overlay.proofs.overlay.Overlay.row.Goals as goal

pub returns-in-Some : goal.returns-in-Some
returns-in-Some c =
    let k = key_of c.args.key in
    sym (held_over (rows_in c.self.inside.over) (rows_in c.self.inside.base.now) k c.in-Some.row.now (sym c.row.ensures ∙ ap option_copied c.in-Some.is))
    ∙ ap (λ rows. row_held rows k) c.self.view_is

pub returns-in-None : goal.returns-in-None
returns-in-None c =
    let k = key_of c.args.key in
    c.row_below.ensures
    ∙ sym (held_below (rows_in c.self.inside.over) (rows_in c.self.inside.base.now) k (sym c.row.ensures ∙ ap option_copied c.in-None.is))
    ∙ ap (λ rows. row_held rows k) c.self.view_is
