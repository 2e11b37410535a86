use Rattle.std.proofs.Common.{◌≡◌, ◌∷◌, ◌++◌, subst, sym, ◌∙◌, List}
use Rattle.std.specs.Map.{keys_of}
use Rattle.std.specs.BTreeMap.{insert_entry}
use Rattle.std.specs.List.Sorted.{IsStrictlySortedBy}
use Rattle.std.proofs.lemmas.Cmp.{nat_list_cmp_total}
use Rattle.adr_values.specs.Order.{identifier_order}
use Rattle.adr_values.proofs.Tables.{insert_entry-last}
use Rattle.adr_model.specs.Update.{Identifier}
use Rattle.adr_model.specs.Store.{PartnerMark}
use Rattle.adr_state.proofs.marks.Marks.copy.Goals as goal

-- one entry moves from what is left to what is copied
moved : (all copied copied' left left' : List (Identifier × PartnerMark)) (k : Identifier) (v : PartnerMark)
    → IsStrictlySortedBy identifier_order (keys_of all) → copied ++ left ≡ all → left ≡ (k, v) ∷ left'
    → copied' ≡ insert_entry identifier_order copied k v → copied' ++ left' ≡ all
moved all copied copied' left left' k v sorted whole first placed =
    let here : copied ++ (k, v) ∷ left' ≡ all = rw first at whole in
    rw placed (insert_entry-last nat_list_cmp_total copied left' k v (subst (λ es. IsStrictlySortedBy identifier_order (keys_of es)) (sym here) sorted) ∙ here)

pub loop-partner-preserved : goal.loop-partner-preserved
loop-partner-preserved c =
    moved c.args.self.now c.loop-partner.map.entries c.put.new.map.entries c.loop-partner.partner-iterator c.next.new.self c.in-Some.partner.now c.in-Some.kept.now
    (let P : List (Identifier × PartnerMark) → Type 0 = λ es. IsStrictlySortedBy identifier_order (keys_of es) in subst P c.self.view_is c.self.invariant)
    c.loop-partner.invariant (rw c.in-Some.is at c.next.ensures.steps) c.in_ok-put.ensures.entries
