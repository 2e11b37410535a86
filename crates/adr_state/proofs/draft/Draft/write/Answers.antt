use Rattle.std.proofs.Common.{List, ap, subst, sym, ◌∙◌}
use Rattle.adr_model.specs.Store.{Held, with_row}
use Rattle.adr_update.specs.Key.{key_of}
use Rattle.adr_update.specs.Referents.{referents}
use Rattle.adr_state.specs.Gap.{IsPlaceOf, IsGapFor}
use Rattle.adr_update.proofs.Referred.{referents_insert, referents_set}
use Rattle.adr_state.proofs.draft.Draft.write.Goals as goal

pub returns-in-Ok : goal.returns-in-Ok
returns-in-Ok c =
    let place = subst (λ (rows : List Held). IsPlaceOf rows (key_of c.key.result) c.in-Ok.place) (ap referents c.as_slice.ensures.value) c.in-Ok.ensures.place in
    referents_set c.self.inside.rows.items c.in-Ok.place c.args.row
    ∙ sym (place.takes c.args.row.now (sym c.key.ensures)) ∙ ap (λ (rows : List Held). with_row rows c.args.row.now) c.self.view_is

pub returns-in_ok-insert-in-Err : goal.returns-in_ok-insert-in-Err
returns-in_ok-insert-in-Err c =
    let gap = subst (λ (rows : List Held). IsGapFor rows (key_of c.key.result) c.in-Err.place) (ap referents c.as_slice.ensures.value) c.in-Err.ensures.gap in
    ap referents c.in_ok-insert-in-Err.ensures.items
    ∙ referents_insert c.self.inside.rows.items c.in-Err.place c.args.row
    ∙ sym (gap.enters c.args.row.now (sym c.key.ensures)) ∙ ap (λ (rows : List Held). with_row rows c.args.row.now) c.self.view_is
