-- Where a name is taken: in which place, and in which folded form.
use Rattle.std.proofs.Common.{◌≡◌, refl, ℕ, List, Bool, ap, ◌∙◌}
use Rattle.std.specs.Cmp.{IsEquivalence, IsPartialOrder, IsTotalOrder, po}
use Rattle.std.specs.Cmp.Lexicographic.{slice_cmp}
use Rattle.std.specs.Ordering.{ordering_reverse, ordering_then, nat_cmp, is_eq, as_partial_cmp}
use Rattle.std.specs.declared.cmp.Ordering.{Ordering}
use Rattle.std.specs.declared.cmp.Ordering.TheVariants.{Less, Equal, Greater}
use Rattle.std.proofs.lemmas.Cmp.{nat_list_cmp_total, on_total, then_total, tied_itself}
use Rattle.adr_values.specs.Order.{identifier_order}
use Rattle.adr_model.specs.Update.{Identifier}
use Rattle.adr_model.proofs.Keys.{equal_order}

abbrev pub Slot : Type 0
Slot = Identifier × List ℕ

abbrev pub slot_order : Slot → Slot → Ordering
slot_order a b = ordering_then (identifier_order a.0 b.0) (slice_cmp nat_cmp a.1 b.1)

abbrev pub same_slot : Slot → Slot → Bool
same_slot a b = is_eq (slot_order a b)

pub slots_total : IsTotalOrder slot_order
slots_total = then_total (on_total (λ (a : Slot). a.0) nat_list_cmp_total) (on_total (λ (a : Slot). a.1) nat_list_cmp_total)

pub slots_partly : IsPartialOrder same_slot (as_partial_cmp slot_order)
slots_partly = po slots_total (λ x y. refl)

pub slots_equivalent : IsEquivalence same_slot
slots_equivalent = record {
  refl = λ x. ap is_eq (tied_itself slots_total x);
  symm = λ x y. ap is_eq (slots_total.antisymm x y) ∙ turned (slot_order y x);
  congr = λ x y z e. ap is_eq (slots_total.congr x y z (equal_order (slot_order x y) e));
}
  where
    turned : (o : Ordering) → is_eq (ordering_reverse o) ≡ is_eq o
    turned Less = refl
    turned Equal = refl
    turned Greater = refl
