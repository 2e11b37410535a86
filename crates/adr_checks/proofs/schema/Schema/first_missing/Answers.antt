use Rattle.std.proofs.Common.{◌≡◌, Bool, true, false, not, is_none, is_some, Option, None, Some, slice_index, Bor, refl, sym, ap, ◌∙◌}
use Rattle.std.specs.Option.{option_copied}
use Rattle.adr_values.specs.Assignments.{given}
use Rattle.adr_checks.proofs.Finds.{find-drop_more}
use Rattle.adr_checks.proofs.schema.Schema.first_missing.Goals as goal

-- what is behind a reference is missing where the reference is
none_copied : {T : Type 0} (r : Option (Bor T)) (b : Bool) → is_some r ≡ not b → is_none (option_copied r) ≡ b
none_copied None true there = refl
none_copied None false there = cc
none_copied (Some x) true there = cc
none_copied (Some x) false there = refl

pub loop-attr-preserved : goal.loop-attr-preserved
loop-attr-preserved c =
    let attrs = c.must-attr-items.result.now in
    let place = c.loop-attr.attr-index in
    let passed : is_none (given (slice_index attrs place) c.args.values.now) ≡ false =
    ap is_none (sym c.get.ensures) ∙ none_copied c.get.result c.is_none.result c.is_none.ensures ∙ c.if-is_none.false in
    find-drop_more (λ attr. is_none (given attr c.args.values.now)) attrs place c.loop-attr-test.true passed ∙ c.loop-attr.invariant
