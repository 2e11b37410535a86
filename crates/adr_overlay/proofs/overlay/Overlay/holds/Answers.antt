use Rattle.std.proofs.Common.{◌||◌, sym, ap, ◌∙◌}
use Rattle.adr_model.specs.Store.{holds_object}
use Rattle.adr_table.specs.Table.{rows_in}
use Rattle.adr_overlay.proofs.Telling.{holds_told}
use Rattle.adr_overlay.proofs.overlay.Overlay.holds.Goals as goal

pub returns-then-holds : goal.returns-then-holds
returns-then-holds c =
    let o = c.args.object.now in
    c.if-holds.true
    ∙ sym (ap (λ b. b || holds_object (rows_in c.self.inside.base.now) o) (sym c.holds.ensures ∙ c.if-holds.true))
    ∙ sym (holds_told (rows_in c.self.inside.over) (rows_in c.self.inside.base.now) o)
    ∙ ap (λ rows. holds_object rows o) c.self.view_is

pub returns-else-holds : goal.returns-else-holds
returns-else-holds c =
    let o = c.args.object.now in
    c.holds-else-holds.ensures
    ∙ sym (ap (λ b. b || holds_object (rows_in c.self.inside.base.now) o) (sym c.holds.ensures ∙ c.if-holds.false))
    ∙ sym (holds_told (rows_in c.self.inside.over) (rows_in c.self.inside.base.now) o)
    ∙ ap (λ rows. holds_object rows o) c.self.view_is
