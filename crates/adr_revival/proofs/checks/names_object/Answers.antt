use Rattle.std.proofs.Common.{not, sym, ap, ◌∙◌}
use Rattle.adr_update.specs.Referents.{referents}
use Rattle.adr_revival.proofs.Named.{by_from, by_own, by_to}
use Rattle.adr_revival.proofs.checks.names_object.Goals as goal

pub returns-then-not-is_empty : goal.returns-then-not-is_empty
returns-then-not-is_empty c =
    by_own c.args.object.now c.args.rows.now c.as_slice.result.now (ap referents c.as_slice.ensures.value ∙ c.in_ok-rows_of.ensures) (sym c.is_empty.ensures ∙ c.if-not-is_empty.true)

pub returns-then-not-is_empty-2 : goal.returns-then-not-is_empty-2
returns-then-not-is_empty-2 c =
    by_from c.args.object.now c.args.rows.now c.as_slice.result.now (ap referents c.as_slice.ensures.value ∙ c.in_ok-rows_of.ensures) (sym c.is_empty.ensures ∙ c.if-not-is_empty.false)
    c.as_slice-2.result.now (ap referents c.as_slice-2.ensures.value ∙ c.in_ok-links_from.ensures) (sym c.is_empty-2.ensures ∙ c.if-not-is_empty-2.true)

pub returns : goal.returns
returns c =
    ap not c.is_empty-3.ensures
    ∙ by_to c.args.object.now c.args.rows.now c.as_slice.result.now (ap referents c.as_slice.ensures.value ∙ c.in_ok-rows_of.ensures) (sym c.is_empty.ensures ∙ c.if-not-is_empty.false)
    c.as_slice-2.result.now (ap referents c.as_slice-2.ensures.value ∙ c.in_ok-links_from.ensures) (sym c.is_empty-2.ensures ∙ c.if-not-is_empty-2.false)
    c.as_slice-3.result.now (ap referents c.as_slice-3.ensures.value ∙ c.in_ok-links_to.ensures)
