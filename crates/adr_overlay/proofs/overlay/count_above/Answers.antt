use Rattle.std.proofs.Common.{◌≡◌, ◌+◌, IfOk, List, filter, length, not, sym, ap, ap₂, ◌∙◌, subst}
use Rattle.std.proofs.lemmas.List.{length-append}
use Rattle.adr_model.specs.Store.{Held}
use Rattle.adr_update.specs.Referents.{referents}
use Rattle.adr_update.specs.Sought.{is_link_from, is_link_to}
use Rattle.adr_update.proofs.Referred.{length_referents}
use Rattle.adr_table.specs.Table.{rows_in}
use Rattle.adr_overlay.proofs.overlay.count_above.Goals as goal

pub returns : goal.returns
returns c =
    let o = c.args.object.now in
    let over = rows_in c.args.over.now in
    let from : List Held = filter (λ h. is_link_from o h.update.key) over in
    let others : List Held = filter (λ h. not (is_link_from o h.update.key)) (filter (λ h. is_link_to o h.update.key) over) in
    subst (λ n. IfOk c.sum.result (λ count. count ≡ n))
    (ap₂ (λ m n. m + n)
    (sym (length_referents c.as_slice-from.result.now) ∙ ap length (ap referents c.as_slice-from.ensures.value ∙ c.in_ok-links_from.ensures))
    (c.count_others.ensures
    ∙ ap (λ (hs : List Held). length (filter (λ h. not (is_link_from o h.update.key)) hs)) (ap referents c.as_slice.ensures.value ∙ c.in_ok-to.ensures))
    ∙ sym (length-append from others))
    c.sum.ensures
