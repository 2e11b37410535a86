use Rattle.std.proofs.Common.{◌≡◌, IfOk, Some, sym, ap, ◌∙◌, subst}
use Rattle.adr_table.specs.Table.{rows_in}
use Rattle.adr_overlay.specs.Overlay.{links_lost}
use Rattle.adr_overlay.proofs.Telling.{lost}
use Rattle.adr_overlay.proofs.overlay.Overlay.lost_by.Goals as goal

pub returns-in-Some : goal.returns-in-Some
returns-in-Some c =
    let o = c.in-Some.object in
    subst (λ n. IfOk c.count_at.result (λ count. count ≡ n))
    (lost o (rows_in c.self.inside.over) (rows_in c.self.inside.base.now) c.self.invariant.counted.over_rises c.self.invariant.counted.base_rises
    ∙ ap (links_lost (Some o)) c.self.view_is ∙ ap (λ d. links_lost d c.args.self.now) (sym c.in-Some.is ∙ c.killed.ensures))
    c.count_at.ensures
