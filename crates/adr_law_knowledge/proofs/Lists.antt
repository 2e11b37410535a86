-- Lists that rise in an order: what is filtered of them rises, and their members alone tell them apart.
use Rattle.std.proofs.Common.{◌≡◌, ◌⊎◌, inl, inr, ⊎_elim, List, [], ◌∷◌, Bool, true, false, cond, ◌||◌, Option, Some, None, refl, sym, ap, ◌∙◌, subst, filter, fold, filter_map, ◌++◌, append-nil}
use Rattle.std.specs.List.{list_any, cons_option}
use Rattle.std.specs.Ordering.{match_ordering}
use Rattle.std.specs.declared.cmp.Ordering.{Ordering}
use Rattle.std.specs.declared.cmp.Ordering.TheVariants.{Less, Equal, Greater}
use Rattle.std.specs.BTreeSet.{insert_key}
use Rattle.std.specs.Cmp.{IsTotalOrder}
use Rattle.std.proofs.lemmas.Cmp.{tied_itself}
use Rattle.std.proofs.lemmas.Map.Lookups.{CmpEqualImpliesEq}
use Rattle.adr_model.specs.Member.{Member, Each}
use Rattle.adr_model.proofs.Members.{of_filter, of_filter_map}
use Rattle.adr_law_knowledge.specs.Rises.{Rises}

module _ {A : Type 0} where
  pub no_members : (xs : List A) → Each (λ x. ⊥) xs → xs ≡ []
  no_members [] none = refl
  no_members (x ∷ xs) none = absurd (none x (inl refl))

  pub alone_from : (xs : List A) (x : A) → Member x (xs ++ []) → Member x xs
  alone_from xs x m = subst (Member x) (append-nil xs) m

  -- tests that agree at each member
  pub same_filter : (test other : A → Bool) (xs : List A) → Each (λ x. test x ≡ other x) xs → filter test xs ≡ filter other xs
  same_filter test other [] same = refl
  same_filter test other (x ∷ xs) same =
      ap (λ b. cond b (x ∷ filter test xs) (filter test xs)) (same x (inl refl))
      ∙ ap (λ ys. cond (other x) (x ∷ ys) ys) (same_filter test other xs (λ y m. same y (inr m)))

  pub same_any : (test other : A → Bool) (xs : List A) → Each (λ x. test x ≡ other x) xs → list_any test xs ≡ list_any other xs
  same_any test other [] same = refl
  same_any test other (x ∷ xs) same =
      ap (λ b. b || list_any test xs) (same x (inl refl)) ∙ ap (λ b. other x || b) (same_any test other xs (λ y m. same y (inr m)))

module _ {A : Type 0} (R : A → A → Ordering) where
  pub filter_rises : (test : A → Bool) (xs : List A) → Rises R xs → Rises R (filter test xs)
  filter_rises test [] r = r
  filter_rises test (x ∷ xs) r = by (test x) (filter_rises test xs r.1)
    where
      by : (b : Bool) → Rises R (filter test xs) → Rises R (cond b (x ∷ filter test xs) (filter test xs))
      by true rest = ((λ y m. r.0 y (of_filter test xs y m).0), rest)
      by false rest = rest

module _ {K A : Type 0} (R : K → K → Ordering) (h : K → Option A) (key : A → K) (back : (k : K) (x : A) → h k ≡ Some x → key x ≡ k) where
  -- what is found at keys that rise, each with its key
  pub filter_map_rises : (ks : List K) → Rises R ks → Rises (λ x y. R (key x) (key y)) (filter_map h ks)
  filter_map_rises [] r = r
  filter_map_rises (k ∷ ks) r = by (h k) refl (filter_map_rises ks r.1)
    where
      by : (o : Option A) → h k ≡ o → Rises (λ x y. R (key x) (key y)) (filter_map h ks) → Rises (λ x y. R (key x) (key y)) (cons_option o (filter_map h ks))
      by None is rest = rest
      by (Some x) is rest = ((λ y m. let t = of_filter_map h ks y m in by_keys k t.0 (key x) (key y) (back k x is) (back t.0 y t.2) (r.0 t.0 t.1)), rest)
        where
          by_keys : (a b c d : K) → c ≡ a → d ≡ b → R a b ≡ Less → R c d ≡ Less
          by_keys a b c d p q e = ap (λ i. R i d) p ∙ ap (λ i. R a i) q ∙ e

module _ {A : Type 0} (R : A → A → Ordering) (one_way : (x y : A) → R x y ≡ Less → R y x ≡ Less → ⊥) where
  same_head : (x y : A) (xs ys : List A) → Rises R (x ∷ xs) → Rises R (y ∷ ys) → Member x (y ∷ ys) → Member y (x ∷ xs) → x ≡ y
  same_head x y xs ys r s (inl e) n = e
  same_head x y xs ys r s (inr m) (inl e) = sym e
  same_head x y xs ys r s (inr m) (inr n) = absurd (one_way x y (r.0 y n) (s.0 x m))

  in_tail : (x y : A) (xs ys : List A) → x ≡ y → Rises R (x ∷ xs) → Each (λ z. Member z (y ∷ ys)) (x ∷ xs) → Each (λ z. Member z ys) xs
  in_tail x y xs ys same r to z m = by (to z (inr m))
    where
      by : Member z (y ∷ ys) → Member z ys
      by (inl e) = let twice : R x x ≡ Less = subst (λ w. R x w ≡ Less) (e ∙ sym same) (r.0 z m) in absurd (one_way x x twice twice)
      by (inr n) = n

  -- rising lists with the same members
  pub same_members_one_list : (xs ys : List A) → Rises R xs → Rises R ys → Each (λ z. Member z ys) xs → Each (λ z. Member z xs) ys → xs ≡ ys
  same_members_one_list [] [] r s to back = refl
  same_members_one_list [] (y ∷ ys) r s to back = absurd (back y (inl refl))
  same_members_one_list (x ∷ xs) [] r s to back = absurd (to x (inl refl))
  same_members_one_list (x ∷ xs) (y ∷ ys) r s to back =
      let same : x ≡ y = same_head x y xs ys r s (to x (inl refl)) (back y (inl refl)) in
      let rest : xs ≡ ys = same_members_one_list xs ys r.1 s.1 (in_tail x y xs ys same r to) (in_tail y x ys xs (sym same) s back) in
      ap (λ z. z ∷ xs) same ∙ ap (λ zs. y ∷ zs) rest

module _ {K : Type 0} (R : K → K → Ordering) (total : IsTotalOrder R) (exact : CmpEqualImpliesEq R) where
  pub not_both_ways : (x y : K) → R x y ≡ Less → R y x ≡ Less → ⊥
  not_both_ways x y p q = let twice : R x x ≡ Less = total.trans x y x p q in let tie : R x x ≡ Equal = tied_itself total x in cc

  of_insert : (ks : List K) (k x : K) → Member x (insert_key R ks k) → (x ≡ k) ⊎ Member x ks
  of_insert [] k x (inl e) = inl e
  of_insert [] k x (inr m) = absurd m
  of_insert (y ∷ ys) k x m = by (R k y) m (of_insert ys k x)
    where
      by : (o : Ordering) → Member x (match_ordering o (k ∷ y ∷ ys) (y ∷ ys) (y ∷ insert_key R ys k)) → (Member x (insert_key R ys k) → (x ≡ k) ⊎ Member x ys) → (x ≡ k) ⊎ Member x (y ∷ ys)
      by Less (inl e) rest = inl e
      by Less (inr n) rest = inr n
      by Equal n rest = inr n
      by Greater (inl e) rest = inr (inl e)
      by Greater (inr n) rest = ⊎_elim (λ e. inl e) (λ o. inr (inr o)) (rest n)

  stays_inserted : (ks : List K) (k x : K) → Member x ks → Member x (insert_key R ks k)
  stays_inserted [] k x m = absurd m
  stays_inserted (y ∷ ys) k x m = by (R k y) m (stays_inserted ys k x)
    where
      by : (o : Ordering) → Member x (y ∷ ys) → (Member x ys → Member x (insert_key R ys k)) → Member x (match_ordering o (k ∷ y ∷ ys) (y ∷ ys) (y ∷ insert_key R ys k))
      by Less n rest = inr n
      by Equal n rest = n
      by Greater (inl e) rest = inl e
      by Greater (inr n) rest = inr (rest n)

  inserted : (ks : List K) (k : K) → Member k (insert_key R ks k)
  inserted [] k = inl refl
  inserted (y ∷ ys) k = by (R k y) refl (inserted ys k)
    where
      by : (o : Ordering) → R k y ≡ o → Member k (insert_key R ys k) → Member k (match_ordering o (k ∷ y ∷ ys) (y ∷ ys) (y ∷ insert_key R ys k))
      by Less is rest = inl refl
      by Equal is rest = inl (exact k y is)
      by Greater is rest = inr rest

  above : (k y : K) → R k y ≡ Greater → R y k ≡ Less
  above k y is = let turned = total.antisymm y k in cc

  insert_rises : (ks : List K) (k : K) → Rises R ks → Rises R (insert_key R ks k)
  insert_rises [] k r = ((λ y m. absurd m), tt)
  insert_rises (y ∷ ys) k r = by (R k y) refl (insert_rises ys k r.1)
    where
      by : (o : Ordering) → R k y ≡ o → Rises R (insert_key R ys k) → Rises R (match_ordering o (k ∷ y ∷ ys) (y ∷ ys) (y ∷ insert_key R ys k))
      by Less is rest = ((λ z m. ⊎_elim (λ e. subst (λ w. R k w ≡ Less) (sym e) is) (λ n. total.trans k y z is (r.0 z n)) m), r)
      by Equal is rest = r
      by Greater is rest = ((λ z m. ⊎_elim (λ e. subst (λ w. R y w ≡ Less) (sym e) (above k y is)) (λ n. r.0 z n) (of_insert ys k z m)), rest)

  pub sorted_rises : (xs ks : List K) → Rises R ks → Rises R (fold (insert_key R) ks xs)
  sorted_rises [] ks r = r
  sorted_rises (x ∷ xs) ks r = sorted_rises xs (insert_key R ks x) (insert_rises ks x r)

  pub of_sorted : (xs ks : List K) (z : K) → Member z (fold (insert_key R) ks xs) → Member z xs ⊎ Member z ks
  of_sorted [] ks z m = inr m
  of_sorted (x ∷ xs) ks z m = by (of_sorted xs (insert_key R ks x) z m)
    where
      by : Member z xs ⊎ Member z (insert_key R ks x) → Member z (x ∷ xs) ⊎ Member z ks
      by (inl n) = inl (inr n)
      by (inr n) = ⊎_elim (λ e. inl (inl e)) (λ o. inr o) (of_insert ks x z n)

  kept_sorted : (xs ks : List K) (z : K) → Member z ks → Member z (fold (insert_key R) ks xs)
  kept_sorted [] ks z m = m
  kept_sorted (x ∷ xs) ks z m = kept_sorted xs (insert_key R ks x) z (stays_inserted ks x z m)

  pub in_sorted : (xs ks : List K) (z : K) → Member z xs → Member z (fold (insert_key R) ks xs)
  in_sorted [] ks z m = absurd m
  in_sorted (x ∷ xs) ks z (inl e) = kept_sorted xs (insert_key R ks x) z (subst (λ w. Member w (insert_key R ks x)) (sym e) (inserted ks x))
  in_sorted (x ∷ xs) ks z (inr m) = in_sorted xs (insert_key R ks x) z m
