-- Lists that rise, as the order of a store says it, and their lengths: a rising list is no longer than a list that has its members.
use Rattle.std.proofs.Common.{◌≡◌, inl, inr, ⊎_elim, ◌≤◌, ◌+◌, List, [], ◌∷◌, Bool, true, false, cond, refl, sym, ap, ◌∙◌, subst, filter, fold, map, length, arith}
use Rattle.std.specs.List.{AllByRecursion}
use Rattle.std.specs.List.Sorted.{IsStrictlySortedBy}
use Rattle.std.specs.Ordering.{match_ordering}
use Rattle.std.specs.declared.cmp.Ordering.{Ordering}
use Rattle.std.specs.declared.cmp.Ordering.TheVariants.{Less, Equal, Greater}
use Rattle.std.specs.BTreeSet.{insert_key}
use Rattle.std.specs.Cmp.{IsTotalOrder}
use Rattle.std.proofs.lemmas.Cmp.{tied_itself}
use Rattle.std.proofs.lemmas.Map.Lookups.{CmpEqualImpliesEq}
use Rattle.adr_model.specs.Member.{Member, Each}
use Rattle.adr_model.proofs.Members.{member_mapped}
use Rattle.adr_law_knowledge.specs.Rises.{Rises, in_order}
use Rattle.adr_law_knowledge.proofs.Lists.{not_both_ways, sorted_rises, in_sorted}

pub rises_from : {K : Type 0} (R : K → K → Ordering) (ks : List K) → IsStrictlySortedBy R ks → Rises R ks
unfolding IsStrictlySortedBy
rises_from R [] s = tt
rises_from {K = K} R (k ∷ ks) s = (below ks s.0, rises_from R ks s.1)
  where
    below : (ls : List K) → AllByRecursion (λ l. R k l ≡ Less) ls → Each (λ l. R k l ≡ Less) ls
    below [] all l m = absurd m
    below (j ∷ js) all l (inl e) = subst (λ x. R k x ≡ Less) (sym e) all.0
    below (j ∷ js) all l (inr m) = below js all.1 l m

-- of a list that rises by something of its members, they are told apart by that
module _ {A K : Type 0} (R : K → K → Ordering) (total : IsTotalOrder R) (f : A → K) where
  apart : (k l : K) → R k l ≡ Less → k ≡ l → ⊥
  apart k l less e = let tie : R k l ≡ Equal = ap (R k) (sym e) ∙ tied_itself total k in cc

  pub one_of_each : (xs : List A) → Rises R (map f xs) → Each (λ x. Each (λ y. f x ≡ f y → x ≡ y) xs) xs
  one_of_each [] r x m y n e = absurd m
  one_of_each (z ∷ zs) r x (inl p) y (inl q) e = p ∙ sym q
  one_of_each (z ∷ zs) r x (inl p) y (inr n) e = absurd (apart (f z) (f y) (r.0 (f y) (member_mapped f zs y n)) (ap f (sym p) ∙ e))
  one_of_each (z ∷ zs) r x (inr m) y (inl q) e = absurd (apart (f z) (f x) (r.0 (f x) (member_mapped f zs x m)) (ap f (sym q) ∙ sym e))
  one_of_each (z ∷ zs) r x (inr m) y (inr n) e = one_of_each zs r.1 x m y n e

-- what is filtered of a list that rises by something of its members rises by it
module _ {A K : Type 0} (R : K → K → Ordering) (f : A → K) where
  all_filtered : (k : K) (test : A → Bool) (xs : List A) → AllByRecursion (λ l. R k l ≡ Less) (map f xs) → AllByRecursion (λ l. R k l ≡ Less) (map f (filter test xs))
  all_filtered k test [] all = all
  all_filtered k test (x ∷ xs) all = by (test x) (all_filtered k test xs all.1)
    where
      by : (b : Bool) → AllByRecursion (λ l. R k l ≡ Less) (map f (filter test xs)) → AllByRecursion (λ l. R k l ≡ Less) (map f (cond b (x ∷ filter test xs) (filter test xs)))
      by true rest = (all.0, rest)
      by false rest = rest

  pub filtered_rise : (test : A → Bool) (xs : List A) → IsStrictlySortedBy R (map f xs) → IsStrictlySortedBy R (map f (filter test xs))
  unfolding IsStrictlySortedBy
  filtered_rise test [] rising = rising
  filtered_rise test (x ∷ xs) rising = by (test x) (filtered_rise test xs rising.1)
    where
      by : (b : Bool) → IsStrictlySortedBy R (map f (filter test xs)) → IsStrictlySortedBy R (map f (cond b (x ∷ filter test xs) (filter test xs)))
      by true rest = (all_filtered (f x) test xs rising.0, rest)
      by false rest = rest

module _ {A : Type 0} (R : A → A → Ordering) (one_way : (x y : A) → R x y ≡ Less → R y x ≡ Less → ⊥) where
  -- what follows a head that isn't below the other list's head is in the other list's rest
  in_rest : (x y : A) (xs ys : List A) → Rises R (x ∷ xs) → (R x y ≡ Less → ⊥) → Each (λ z. Member z (y ∷ ys)) (x ∷ xs) → Each (λ z. Member z ys) xs
  in_rest x y xs ys r never to z m = ⊎_elim (λ e. absurd (never (subst (λ w. R x w ≡ Less) e (r.0 z m)))) (λ n. n) (to z (inr m))

  -- both lists rise
  within : (ys xs : List A) → Rises R ys → Rises R xs → Each (λ z. Member z ys) xs → length xs ≤ length ys
  within ys [] s r to = omega arith
  within [] (x ∷ xs) s r to = absurd (to x (inl refl))
  within (y ∷ ys) (x ∷ xs) s r to = by (to x (inl refl)) (λ zs t. within ys zs s.1 t)
    where
      same_head : x ≡ y → R x y ≡ Less → ⊥
      same_head e less = let twice : R x x ≡ Less = subst (λ w. R x w ≡ Less) (sym e) less in one_way x x twice twice

      by : Member x (y ∷ ys) → ((zs : List A) → Rises R zs → Each (λ z. Member z ys) zs → length zs ≤ length ys) → length (x ∷ xs) ≤ length (y ∷ ys)
      by (inl e) rest = omega (arith, rest xs r.1 (in_rest x y xs ys r (same_head e) to))
      by (inr n) rest = omega (arith, rest (x ∷ xs) r (λ z m. ⊎_elim (λ e. subst (λ w. Member w ys) (sym e) n) (λ i. in_rest x y xs ys r (λ less. one_way x y less (s.0 x n)) to z i) m))

module _ {K : Type 0} (R : K → K → Ordering) (total : IsTotalOrder R) (exact : CmpEqualImpliesEq R) where
  one_more : (ks : List K) (k : K) → length (insert_key R ks k) ≤ length ks + 1
  one_more [] k = omega arith
  one_more (x ∷ xs) k = by (R k x) (one_more xs k)
    where
      by : (o : Ordering) → length (insert_key R xs k) ≤ length xs + 1 → length (match_ordering o (k ∷ x ∷ xs) (x ∷ xs) (x ∷ insert_key R xs k)) ≤ length (x ∷ xs) + 1
      by Less rest = omega arith
      by Equal rest = omega arith
      by Greater rest = omega arith

  in_order_no_longer : (xs ks : List K) → length (fold (insert_key R) ks xs) ≤ length ks + length xs
  in_order_no_longer [] ks = omega arith
  in_order_no_longer (x ∷ xs) ks = omega (arith, in_order_no_longer xs (insert_key R ks x), one_more ks x)

  pub no_longer : (xs ys : List K) → Rises R xs → Each (λ z. Member z ys) xs → length xs ≤ length ys
  no_longer xs ys r to = omega (
    arith,
    within R (not_both_ways R total exact) (in_order R ys) xs (sorted_rises R total exact ys [] tt) r (λ z m. in_sorted R total exact ys [] z (to z m)),
    in_order_no_longer ys [],
  )
