-- Sets of numbers and of objects answer as their lists do, and readings look at nothing else of them.
use Rattle.std.proofs.Common.{◌≡◌, ℕ, Bool, eqb, List, [], ◌∷◌, refl, sym, ap, ◌∙◌}
use Rattle.std.specs.Prelude.{◌||◌}
use Rattle.std.specs.List.{list_any}
use Rattle.std.specs.Ordering.{is_eq, nat_cmp, ordering_reverse}
use Rattle.std.specs.declared.cmp.Ordering.{Ordering}
use Rattle.std.specs.declared.cmp.Ordering.TheVariants.{Less, Equal, Greater}
use Rattle.std.specs.BTreeMap.{is_at}
use Rattle.std.proofs.lemmas.Bool.{eq-eqb, ne_eqb}
use Rattle.std.proofs.lemmas.Cmp.{nat_cmp_total, tied_itself}
use Rattle.std.proofs.lemmas.Map.Lookups.{exact_unsigned}
use Rattle.adr_values.specs.declared.stamp.Oid.{Oid}
use Rattle.adr_values.specs.Order.{object_order}
use Rattle.adr_values.specs.contracts.stamp.OidOrd.TheImpl.Laws.{total-law as objects_total}
use Rattle.adr_values.specs.Table.{has}
use Rattle.adr_model.specs.Update.{same_object}
use Rattle.adr_model.specs.Live.{is_among}

either_way : (o : Ordering) → is_eq (ordering_reverse o) ≡ is_eq o
either_way Less = refl
either_way Equal = refl
either_way Greater = refl

any_same : {A : Type 0} (p q : A → Bool) → ((x : A) → p x ≡ q x) → (xs : List A) → list_any p xs ≡ list_any q xs
any_same p q same [] = refl
any_same p q same (x ∷ xs) = ap (λ (b : Bool). b || list_any p xs) (same x) ∙ ap (λ (b : Bool). q x || b) (any_same p q same xs)

number_is : (n m : ℕ) → is_eq (nat_cmp n m) ≡ eqb m n
number_is n m = by (nat_cmp n m) refl
  where
    by : (o : Ordering) → nat_cmp n m ≡ o → is_eq o ≡ eqb m n
    by Less e = sym (ne_eqb m n (λ same. let t = tied_itself nat_cmp_total n in let k = ap (nat_cmp n) same in cc))
    by Equal e = sym (eq-eqb m n (sym (exact_unsigned n m e)))
    by Greater e = sym (ne_eqb m n (λ same. let t = tied_itself nat_cmp_total n in let k = ap (nat_cmp n) same in cc))

pub used_is : (keys : List ℕ) (n : ℕ) → list_any (is_at (nat_cmp n)) keys ≡ has keys n
used_is keys n = any_same (is_at (nat_cmp n)) (λ m. eqb m n) (number_is n) keys

pub dead_is : (keys : List Oid) (o : Oid) → list_any (is_at (object_order o)) keys ≡ is_among keys o
dead_is keys o = any_same (is_at (object_order o)) (λ p. same_object p o) (λ p. ap is_eq (objects_total.antisymm o p) ∙ either_way (object_order p o)) keys
