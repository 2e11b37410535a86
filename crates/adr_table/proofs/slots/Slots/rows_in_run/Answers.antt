use Rattle.std.proofs.Common.{◌∙◌, sym, ap, append-nil, refl, ◌++◌}
use Rattle.adr_update.specs.Referents.{referents}
use Rattle.adr_shelves.specs.Place.{is_in_run}
use Rattle.adr_table.specs.Slots.{rows_in_run, rows_seen}
use Rattle.adr_table.proofs.Reading.{AreRead, added, run_begun}
use Rattle.adr_table.proofs.Spans.{ended, stopped, turned}
use Rattle.adr_table.proofs.slots.Slots.rows_in_run.Goals as goal

pub loop-place-init : goal.loop-place-init
loop-place-init c =
    let all = rows_in_run c.args.start (rows_seen c.args.self.now) in
    run_begun c.args.start c.requires.start (AreRead all (referents c.new-rows.result.items)) c.args.self.now.map c.entries_from-run.result c.entries_from-run.ensures
    c.requires.tidy.home c.requires.tidy.ordered (ap (λ rows. referents rows ++ all) c.new-rows.ensures.items)

pub returns-then-not-begins_run_of : goal.returns-then-not-begins_run_of
returns-then-not-begins_run_of c =
    sym (append-nil (referents c.loop-place.rows.items))
    ∙ stopped (is_in_run c.args.start) (AreRead (rows_in_run c.args.start (rows_seen c.args.self.now)) (referents c.loop-place.rows.items)) _ c.next.new.self c.loop-place.run c.in-Some.ensures.some c.loop-place.invariant
    (sym c.begins_run_of.ensures ∙ c.if-not-begins_run_of.true)

pub loop-place-preserved : goal.loop-place-preserved
loop-place-preserved c =
    let all = rows_in_run c.args.start (rows_seen c.args.self.now) in
    turned (is_in_run c.args.start) (AreRead all (referents c.loop-place.rows.items)) _ c.next.new.self c.loop-place.run c.in-Some.ensures.some c.loop-place.invariant
    (sym c.begins_run_of.ensures ∙ c.if-not-begins_run_of.false)
    (AreRead all (referents c.push_row.new.rows.items))
    (added all (referents c.loop-place.rows.items) (referents c.push_row.new.rows.items) _ _ _ c.in_ok-push_row.ensures refl)

pub returns : goal.returns
returns c =
    sym (append-nil (referents c.loop-place.rows.items))
    ∙ ended (is_in_run c.args.start) (AreRead (rows_in_run c.args.start (rows_seen c.args.self.now)) (referents c.loop-place.rows.items)) c.loop-place.run c.in_default.ensures.none c.loop-place.invariant
