use Rattle.std.proofs.Common.{◌≡◌, ◌∙◌, sym, ap, refl}
use Rattle.std.specs.Prelude.{is_some, slice_get}
use Rattle.adr_shelves.specs.Place.{is_in_run}
use Rattle.adr_table.specs.Slots.{rows_in_run, rows_seen}
use Rattle.adr_table.proofs.Reading.{first_seen, run_begun}
use Rattle.adr_table.proofs.Seen.{copied_some, not_some}
use Rattle.adr_table.proofs.Spans.{ended, found, passed, stopped}
use Rattle.adr_table.proofs.slots.Slots.has_row_in_run.Goals as goal

pub loop-place-init : goal.loop-place-init
loop-place-init c =
    run_begun c.args.start c.requires.start (λ rows. rows ≡ rows_in_run c.args.start (rows_seen c.args.self.now)) c.args.self.now.map c.entries_from-run.result c.entries_from-run.ensures
    c.requires.tidy.home c.requires.tidy.ordered refl

pub returns-then-not-begins_run_of : goal.returns-then-not-begins_run_of
returns-then-not-begins_run_of c =
    ap (λ rows. is_some (slice_get rows 0))
    (stopped (is_in_run c.args.start) (λ rows. rows ≡ rows_in_run c.args.start (rows_seen c.args.self.now)) _ c.next.new.self c.loop-place.run c.in-Some.ensures.some c.loop-place.invariant
    (sym c.begins_run_of.ensures ∙ c.if-not-begins_run_of.true))

pub returns-then-is_some : goal.returns-then-is_some
returns-then-is_some c =
    first_seen _ _ (copied_some c.in-Some.row ∙ sym c.is_some.ensures ∙ c.if-is_some.true)
    ∙ ap (λ rows. is_some (slice_get rows 0))
    (found (is_in_run c.args.start) (λ rows. rows ≡ rows_in_run c.args.start (rows_seen c.args.self.now)) _ c.next.new.self c.loop-place.run c.in-Some.ensures.some c.loop-place.invariant
    (sym c.begins_run_of.ensures ∙ c.if-not-begins_run_of.false))

pub loop-place-preserved : goal.loop-place-preserved
loop-place-preserved c =
    passed (is_in_run c.args.start) (λ rows. rows ≡ rows_in_run c.args.start (rows_seen c.args.self.now)) _ c.next.new.self c.loop-place.run c.in-Some.ensures.some c.loop-place.invariant
    (sym c.begins_run_of.ensures ∙ c.if-not-begins_run_of.false) (not_some _ (copied_some c.in-Some.row ∙ sym c.is_some.ensures ∙ c.if-is_some.false))

pub returns : goal.returns
returns c =
    ap (λ rows. is_some (slice_get rows 0))
    (ended (is_in_run c.args.start) (λ rows. rows ≡ rows_in_run c.args.start (rows_seen c.args.self.now)) c.loop-place.run c.in_default.ensures.none c.loop-place.invariant)
