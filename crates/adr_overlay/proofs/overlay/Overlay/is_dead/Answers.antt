use Rattle.std.proofs.Common.{◌∙◌, sym}
use Rattle.adr_table.specs.Table.{rows_in}
use Rattle.adr_overlay.proofs.Telling.{dead_below, dead_over}
use Rattle.adr_overlay.proofs.overlay.Overlay.is_dead.Goals as goal

pub returns-then-is_dead : goal.returns-then-is_dead
returns-then-is_dead c =
    c.if-is_dead.true
    ∙ sym (dead_over (rows_in c.self.inside.over) (rows_in c.self.inside.base.now) c.args.self.now c.self.view_is c.args.object.now (sym c.is_dead.ensures ∙ c.if-is_dead.true))

pub returns-else-is_dead : goal.returns-else-is_dead
returns-else-is_dead c =
    c.is_dead-else-is_dead.ensures
    ∙ sym (dead_below (rows_in c.self.inside.over) (rows_in c.self.inside.base.now) c.args.self.now c.self.view_is c.args.object.now (sym c.is_dead.ensures ∙ c.if-is_dead.false))
