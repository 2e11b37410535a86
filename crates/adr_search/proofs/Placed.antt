-- What a binary search finds among GUIDs that rise.
use Rattle.std.proofs.Common.{◌≡◌, ◌⊎◌, inl, inr, ℕ, zero, suc, ◌≤◌, ◌<◌, ◌+◌, false, List, [], ◌∷◌, length, get_or, Some, None, refl, sym, ap, subst, ◌∙◌, arith, Ok, Err}
use Rattle.std.specs.List.Sorted.{IsBinarySearchResult, IsNonDecreasingBy, IsSortedBy, IsStrictlySortedBy}
use Rattle.std.specs.Ordering.{is_eq, is_lt, ordering_index}
use Rattle.std.specs.Str.{bytes_eq}
use Rattle.std.specs.declared.cmp.Ordering.{Ordering}
use Rattle.std.specs.declared.cmp.Ordering.TheVariants.{Less, Greater}
use Rattle.std.proofs.lemmas.Bool.{cases_lt}
use Rattle.std.proofs.lemmas.Cmp.{nat_list_cmp_total}
use Rattle.std.proofs.lemmas.List.Sorted.{searchable_from_sorted}
use Rattle.std.proofs.lemmas.Map.Keys.{Less-from_sorted}
use Rattle.std.proofs.lemmas.Map.Lookups.{exact_bytes}
use Rattle.std.proofs.lemmas.Map.Text.{is_eq-slice_cmp}
use Rattle.adr_values.specs.Order.{identifier_order}
use Rattle.adr_values.proofs.Cursors.{turned_back}
use Rattle.adr_search.specs.Ways.{IsRisingList, place_in}
use Rattle.adr_search.proofs.Climbing.{bytes_same}

pub differ : (a b : List ℕ) (o : Ordering) → identifier_order a b ≡ o → is_eq o ≡ false → bytes_eq a b ≡ false
differ a b o e h = sym (is_eq-slice_cmp a b) ∙ ap is_eq e ∙ h

at_place : (gs : List (List ℕ)) (guid : List ℕ) (i : ℕ) → IsRisingList gs → i < length gs → get_or gs i [] ≡ guid → place_in gs guid ≡ Some i
unfolding IsStrictlySortedBy
at_place [] guid i s lt e = absurd (omega arith)
at_place (g ∷ gs) guid zero s lt e = rw (bytes_same g guid e) refl
at_place (g ∷ gs) guid (suc i) s lt e =
    let less : identifier_order g (get_or gs i []) ≡ Less = Less-from_sorted identifier_order (g ∷ gs) 0 (suc i) [] s (omega arith) lt in
    let other : bytes_eq g guid ≡ false = differ g guid Less (subst (λ (x : List ℕ). identifier_order g x ≡ Less) e less) refl in
    rw (other, at_place gs guid i s.1 (omega arith) e) refl

at_none : (gs : List (List ℕ)) (guid : List ℕ) → ((k : ℕ) → k < length gs → bytes_eq (get_or gs k []) guid ≡ false) → place_in gs guid ≡ None
at_none [] guid h = refl
at_none (g ∷ gs) guid h =
    let first : bytes_eq g guid ≡ false = h 0 (omega arith) in
    rw (first, at_none gs guid (λ k lt. h (suc k) (omega arith))) refl

module _ (gs : List (List ℕ)) (s : IsRisingList gs) (guid : List ℕ) where
  sorted : IsSortedBy (λ (a b : List ℕ). is_lt (identifier_order a b)) gs
  sorted k d ge lt = ap is_lt (turned_back (get_or gs k d) (get_or gs (k + 1) d) (Less-from_sorted identifier_order gs k (k + 1) d s (omega arith) lt))

  compared : IsNonDecreasingBy (λ (g : List ℕ). ordering_index (identifier_order g guid)) gs
  compared = searchable_from_sorted nat_list_cmp_total (λ (g : List ℕ). g) gs guid sorted

  pub place_found : (i : ℕ) → i < length gs → IsBinarySearchResult (λ g. identifier_order g guid) gs (Ok i) → Some i ≡ place_in gs guid
  place_found i lt equal = sym (at_place gs guid i s lt (exact_bytes (get_or gs i []) guid (equal [])))

  pub none_found : (i : ℕ) → IsBinarySearchResult (λ g. identifier_order g guid) gs (Err i) → None ≡ place_in gs guid
  none_found i parted = sym (at_none gs guid (λ k lt. by k lt (cases_lt k i)))
    where
      by : (k : ℕ) → k < length gs → (k < i) ⊎ (i ≤ k) → bytes_eq (get_or gs k []) guid ≡ false
      by k lt (inl before) = differ (get_or gs k []) guid Less ((parted compared).0 k [] (omega arith) before) refl
      by k lt (inr behind) = differ (get_or gs k []) guid Greater ((parted compared).1 k [] behind lt) refl
