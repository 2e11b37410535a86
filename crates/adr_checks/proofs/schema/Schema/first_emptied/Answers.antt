use Rattle.std.proofs.Common.{◌≡◌, false, slice_index, sym, ap, ◌∙◌}
use Rattle.adr_values.specs.Assignments.{given}
use Rattle.adr_values.specs.Rules.{is_emptied}
use Rattle.adr_checks.proofs.Finds.{find-drop_more}
use Rattle.adr_checks.proofs.schema.Schema.first_emptied.Goals as goal

pub loop-attr-preserved : goal.loop-attr-preserved
loop-attr-preserved c =
    let attrs = c.must-attr-items.result.now in
    let place = c.loop-attr.attr-index in
    let passed : is_emptied (given (slice_index attrs place) c.args.values.now) ≡ false = ap is_emptied (sym c.get.ensures) ∙ sym c.is_emptied.ensures ∙ c.if-is_emptied.false in
    find-drop_more (λ attr. is_emptied (given attr c.args.values.now)) attrs place c.loop-attr-test.true passed ∙ c.loop-attr.invariant
