use Rattle.std.proofs.Common.{◌∙◌, ap, ◌++◌, filter, filter_map}
use Rattle.std.specs.Prelude.{is_some}
use Rattle.std.specs.Map.Iter.{deref}
use Rattle.std.proofs.lemmas.Map.Iter.{rest_more}
use Rattle.adr_model.specs.Change.{killed_by}
use Rattle.adr_model.specs.Store.{row_held}
use Rattle.adr_update.specs.Referents.{referents}
use Rattle.adr_table.specs.Slots.{rows_seen}
use Rattle.adr_table.proofs.Listed.{all_deaths, death_row}
use Rattle.adr_table.proofs.Reading.{added_next}
use Rattle.adr_table.proofs.deaths.deaths.Goals as goal

pub loop-object-init : goal.loop-object-init
loop-object-init c =
    let gives = c.into_iter-object-iterator.ensures.into_iter_gives in
    ap (λ rows. referents rows ++ filter_map (death_row (rows_seen c.args.slots.now)) c.into_iter-object-iterator.result) c.new-rows.ensures.items
    ∙ ap (filter_map (death_row (rows_seen c.args.slots.now))) gives.0
    ∙ all_deaths c.args.slots.now c.requires.tidy c.args.dead.now c.requires.listed gives.4

pub loop-object-preserved : goal.loop-object-preserved
loop-object-preserved c =
    let rows = rows_seen c.args.slots.now in
    added_next (death_row rows) (filter (λ h. is_some (killed_by h.update.key)) rows) (referents c.loop-object.rows.items) (referents c.push_row.new.rows.items) _ _ c.next.new.self
    c.loop-object.object-iterator (rest_more deref c.loop-object.object-iterator c.next.new.self c.next.result _ c.in-Some.is c.next.ensures.steps) c.in_ok-push_row.ensures
    (c.row.ensures ∙ ap (row_held rows) c.deleted.ensures) c.loop-object.invariant
