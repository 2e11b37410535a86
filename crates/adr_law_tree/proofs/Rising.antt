-- Lists that rise by something of their members.
use Rattle.std.proofs.Common.{◌≡◌, inl, inr, ⊎_elim, List, [], ◌∷◌, sym, subst, map, fold}
use Rattle.std.specs.List.{AllByRecursion}
use Rattle.std.specs.List.Sorted.{IsStrictlySortedBy}
use Rattle.std.specs.declared.cmp.Ordering.{Ordering}
use Rattle.std.specs.declared.cmp.Ordering.TheVariants.{Less}
use Rattle.std.specs.BTreeSet.{insert_key}
use Rattle.std.specs.Cmp.{IsTotalOrder}
use Rattle.std.proofs.lemmas.Map.Keys.{sorted_head, sorted_tail}
use Rattle.std.proofs.lemmas.Map.Lookups.{CmpEqualImpliesEq}
use Rattle.adr_model.specs.Member.{Each}
use Rattle.adr_law_knowledge.proofs.Counting.{rises_from, one_of_each as told_apart}
use Rattle.adr_law_knowledge.proofs.Lists.{in_sorted, not_both_ways, of_sorted, same_members_one_list, sorted_rises}

module _ {A K : Type 0} (R : K → K → Ordering) (f : A → K) where
  module _ (total : IsTotalOrder R) where
    pub each_below : (k : K) (xs : List A) → AllByRecursion (λ l. R k l ≡ Less) (map f xs) → Each (λ x. R k (f x) ≡ Less) xs
    each_below k [] all x m = absurd m
    each_below k (y ∷ ys) all x (inl e) = subst (λ z. R k (f z) ≡ Less) (sym e) all.0
    each_below k (y ∷ ys) all x (inr m) = each_below k ys all.1 x m

    pub below_head : (x : A) (xs : List A) → IsStrictlySortedBy R (map f (x ∷ xs)) → Each (λ y. R (f x) (f y) ≡ Less) xs
    below_head x xs s = each_below (f x) xs (sorted_head R (f x) (map f xs) s)

    pub tail : (x : A) (xs : List A) → IsStrictlySortedBy R (map f (x ∷ xs)) → IsStrictlySortedBy R (map f xs)
    tail x xs s = sorted_tail R (f x) (map f xs) s

    -- they are told apart by it
    pub one_of_each : (xs : List A) → IsStrictlySortedBy R (map f xs) → Each (λ x. Each (λ y. f x ≡ f y → x ≡ y) xs) xs
    one_of_each xs s = told_apart R total f xs (rises_from R (map f xs) s)

module _ {K : Type 0} (R : K → K → Ordering) (total : IsTotalOrder R) (exact : CmpEqualImpliesEq R) where
  -- keys that rise are in order, each once
  pub keys_that_rise : (ks : List K) → IsStrictlySortedBy R ks → fold (insert_key R) [] ks ≡ ks
  keys_that_rise ks s =
      same_members_one_list R (not_both_ways R total exact) (fold (insert_key R) [] ks) ks (sorted_rises R total exact ks [] tt) (rises_from R ks s)
      (λ k m. ⊎_elim (λ n. n) (λ n. absurd n) (of_sorted R total exact ks [] k m))
      (λ k m. in_sorted R total exact ks [] k m)
