use Rattle.std.proofs.Common.{List, ◌++◌, ◌||◌, not, filter, ap, ◌∙◌}
use Rattle.std.specs.List.{list_all}
use Rattle.adr_model.specs.Store.{Held, is_row_of}
use Rattle.adr_update.specs.Referents.{referents}
use Rattle.adr_table.specs.Table.{rows_in}
use Rattle.adr_overlay.specs.Overlay.{is_left}
use Rattle.adr_overlay.proofs.All.{all_of_told}
use Rattle.adr_overlay.proofs.overlay.Overlay.rows_of.Goals as goal

pub returns : goal.returns
returns c test =
    let o = c.args.object.now in
    let over = rows_in c.self.inside.over in
    let base = rows_in c.self.inside.base.now in
    let own : List Held = filter (λ h. is_row_of o h.update.key) over in
    ap (list_all test) (
    c.in_ok-push_left.ensures
    ∙ ap (λ (hs : List Held). hs ++ filter (λ h. is_left over h.update.key) (referents c.as_slice.result.now)) c.in_ok-rows.ensures
    ∙ ap (λ (hs : List Held). own ++ filter (λ h. is_left over h.update.key) hs) (ap referents c.as_slice.ensures.value ∙ c.in_ok-rows_of.ensures))
    ∙ all_of_told test o over base c.self.invariant.counted.over_rises c.self.invariant.counted.base_rises
    ∙ ap (list_all (λ (h : Held). not (is_row_of o h.update.key) || test h)) c.self.view_is
