use Rattle.std.proofs.Common.{◌≡◌, ◌+◌, IfOk, List, filter, length, not, sym, ap, ap₂, ◌∙◌, subst}
use Rattle.adr_model.specs.Store.{Held}
use Rattle.adr_update.specs.Referents.{referents}
use Rattle.adr_update.specs.Sought.{is_link_from, is_link_to}
use Rattle.adr_table.specs.Table.{rows_in}
use Rattle.adr_overlay.specs.Overlay.{is_left}
use Rattle.adr_overlay.proofs.Telling.{none_left, passing}
use Rattle.adr_overlay.proofs.overlay.count_below.Goals as goal

pub returns-then-is_dead : goal.returns-then-is_dead
returns-then-is_dead c = sym (none_left c.args.object.now (rows_in c.args.over.now) (rows_in c.args.base.now) (sym c.is_dead.ensures ∙ c.if-is_dead.true))

pub returns : goal.returns
returns c =
    let o = c.args.object.now in
    let over = rows_in c.args.over.now in
    let base = rows_in c.args.base.now in
    let from : List Held = filter (λ h. is_link_from o h.update.key) base in
    let others : List Held = filter (λ h. not (is_link_from o h.update.key)) (filter (λ h. is_link_to o h.update.key) base) in
    subst (λ n. IfOk c.sum.result (λ count. count ≡ n))
    (ap₂ (λ m n. m + n)
    (c.count_left-from.ensures
    ∙ ap (λ (hs : List Held). length (filter (λ h. is_left over h.update.key) hs)) (ap referents c.as_slice.ensures.value ∙ c.in_ok-links_from.ensures))
    (c.count_others_left.ensures
    ∙ ap (λ (hs : List Held). length (filter (λ h. is_left over h.update.key) (filter (λ h. not (is_link_from o h.update.key)) hs))) (ap referents c.as_slice-2.ensures.value ∙ c.in_ok-to.ensures))
    ∙ passing (λ h. is_left over h.update.key) from others)
    c.sum.ensures
