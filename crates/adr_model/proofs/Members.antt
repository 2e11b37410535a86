-- What holds of lists by their members.
use Rattle.std.proofs.Common.{◌≡◌, ◌⊎◌, inl, inr, ⊎_elim, List, [], ◌∷◌, ◌++◌, Bool, true, false, cond, ◌&&◌, ◌||◌, Option, Some, None, refl, sym, ap, ◌∙◌, subst, map, filter, find, flat_map, filter_map}
use Rattle.std.specs.List.{list_any, list_all, cons_option}
use Rattle.std.proofs.lemmas.Bool.{or_from, or_left, or_right}
use Rattle.adr_model.specs.Member.{Member, Each}

module _ {A : Type 0} where
  pub member_left : (xs ys : List A) (x : A) → Member x xs → Member x (xs ++ ys)
  member_left [] ys x m = absurd m
  member_left (y ∷ xs) ys x (inl e) = inl e
  member_left (y ∷ xs) ys x (inr m) = inr (member_left xs ys x m)

  pub member_right : (xs ys : List A) (x : A) → Member x ys → Member x (xs ++ ys)
  member_right [] ys x m = m
  member_right (y ∷ xs) ys x m = inr (member_right xs ys x m)

  pub member_of_either : (xs ys : List A) (x : A) → Member x (xs ++ ys) → Member x xs ⊎ Member x ys
  member_of_either [] ys x m = inr m
  member_of_either (y ∷ xs) ys x (inl e) = inl (inl e)
  member_of_either (y ∷ xs) ys x (inr m) = ⊎_elim (λ l. inl (inr l)) (λ r. inr r) (member_of_either xs ys x m)

  pub none_passes : (test : A → Bool) (xs : List A) → ((x : A) → Member x xs → test x ≡ false) → list_any test xs ≡ false
  none_passes test [] none = refl
  none_passes test (x ∷ xs) none = or_from _ _ (none x (inl refl)) (none_passes test xs (λ y m. none y (inr m)))

  pub one_passes : (test : A → Bool) (xs : List A) (x : A) → Member x xs → test x ≡ true → list_any test xs ≡ true
  one_passes test [] x m p = absurd m
  one_passes test (y ∷ ys) x (inl e) p = or_left _ _ (ap test (sym e) ∙ p)
  one_passes test (y ∷ ys) x (inr m) p = or_right _ _ (one_passes test ys x m p)

  pub filter_all : (test : A → Bool) (xs : List A) → ((x : A) → Member x xs → test x ≡ true) → filter test xs ≡ xs
  filter_all test [] pass = refl
  filter_all test (x ∷ xs) pass = ap (λ b. cond b (x ∷ filter test xs) (filter test xs)) (pass x (inl refl)) ∙ ap (λ ys. x ∷ ys) (filter_all test xs (λ y m. pass y (inr m)))

  -- the only member that passes a test is found by it
  pub found : (test : A → Bool) (xs : List A) (x : A) → Member x xs → test x ≡ true → ((y : A) → Member y xs → test y ≡ true → y ≡ x) → find test xs ≡ Some x
  found test [] x m p one = absurd m
  found test (y ∷ ys) x m p one = by (test y) refl m (λ n. found test ys x n p (λ z k. one z (inr k)))
    where
      by : (b : Bool) → test y ≡ b → Member x (y ∷ ys) → (Member x ys → find test ys ≡ Some x) → cond b (Some y) (find test ys) ≡ Some x
      by true is n rest = ap Some (one y (inl refl) is)
      by false is (inl e) rest = let t : test y ≡ true = ap test (sym e) ∙ p in cc
      by false is (inr n) rest = rest n

  pub found_member : (test : A → Bool) (xs : List A) (x : A) → find test xs ≡ Some x → Member x xs × (test x ≡ true)
  found_member test [] x e = absurd (cc)
  found_member test (y ∷ ys) x e = by (test y) refl e (found_member test ys x)
    where
      by : (b : Bool) → test y ≡ b → cond b (Some y) (find test ys) ≡ Some x → (find test ys ≡ Some x → Member x ys × (test x ≡ true)) → Member x (y ∷ ys) × (test x ≡ true)
      by true is h rest = let same : x ≡ y = cc in (inl same, ap test same ∙ is)
      by false is h rest = let t = rest h in (inr t.0, t.1)

  pub each_fails : (test : A → Bool) (xs : List A) → list_any test xs ≡ false → (x : A) → Member x xs → test x ≡ false
  each_fails test xs none x m = by (test x) refl
    where
      by : (b : Bool) → test x ≡ b → b ≡ false
      by false is = refl
      by true is = let t : list_any test xs ≡ true = one_passes test xs x m is in cc

  pub some_passes : (test : A → Bool) (xs : List A) → list_any test xs ≡ true → (x : A) × Member x xs × (test x ≡ true)
  some_passes test [] any = cc
  some_passes test (y ∷ ys) any = by (test y) refl any (some_passes test ys)
    where
      by : (b : Bool) → test y ≡ b → (b || list_any test ys) ≡ true → (list_any test ys ≡ true → (x : A) × Member x ys × (test x ≡ true)) → (x : A) × Member x (y ∷ ys) × (test x ≡ true)
      by true is any rest = (y, inl refl, is)
      by false is any rest = let t = rest any in (t.0, inr t.1, t.2)

  pub all_pass : (test : A → Bool) (xs : List A) → Each (λ x. test x ≡ true) xs → list_all test xs ≡ true
  all_pass test [] pass = refl
  all_pass test (x ∷ xs) pass = ap (λ b. b && list_all test xs) (pass x (inl refl)) ∙ all_pass test xs (λ y m. pass y (inr m))

  pub each_passes : (test : A → Bool) (xs : List A) → list_all test xs ≡ true → Each (λ x. test x ≡ true) xs
  each_passes test [] all x m = absurd m
  each_passes test (y ∷ ys) all x m = by (test y) refl all m (λ rest n. each_passes test ys rest x n)
    where
      by : (b : Bool) → test y ≡ b → (b && list_all test ys) ≡ true → Member x (y ∷ ys) → (list_all test ys ≡ true → Member x ys → test x ≡ true) → test x ≡ true
      by true is all (inl e) rest = ap test e ∙ is
      by true is all (inr n) rest = rest all n
      by false is all n rest = cc

  pub in_filter : (test : A → Bool) (xs : List A) (x : A) → Member x xs → test x ≡ true → Member x (filter test xs)
  in_filter test [] x m p = m
  in_filter test (y ∷ ys) x (inl e) p = subst (λ b. Member x (cond b (y ∷ filter test ys) (filter test ys))) (sym p ∙ ap test e) (inl e)
  in_filter test (y ∷ ys) x (inr m) p = by (test y) (in_filter test ys x m p)
    where
      by : (b : Bool) → Member x (filter test ys) → Member x (cond b (y ∷ filter test ys) (filter test ys))
      by true rest = inr rest
      by false rest = rest

  pub of_filter : (test : A → Bool) (xs : List A) (x : A) → Member x (filter test xs) → Member x xs × (test x ≡ true)
  of_filter test [] x m = absurd m
  of_filter test (y ∷ ys) x m = by (test y) refl m (of_filter test ys x)
    where
      by : (b : Bool) → test y ≡ b → Member x (cond b (y ∷ filter test ys) (filter test ys)) → (Member x (filter test ys) → Member x ys × (test x ≡ true)) → Member x (y ∷ ys) × (test x ≡ true)
      by true is (inl e) rest = (inl e, ap test e ∙ is)
      by true is (inr n) rest = let t = rest n in (inr t.0, t.1)
      by false is n rest = let t = rest n in (inr t.0, t.1)

module _ {A B : Type 0} where
  pub mapped_member : (f : A → B) (xs : List A) (y : B) → Member y (map f xs) → (x : A) × Member x xs × (y ≡ f x)
  mapped_member f [] y m = absurd m
  mapped_member f (x ∷ xs) y (inl e) = (x, inl refl, e)
  mapped_member f (x ∷ xs) y (inr m) = let t = mapped_member f xs y m in (t.0, inr t.1, t.2)

  pub member_mapped : (f : A → B) (xs : List A) (x : A) → Member x xs → Member (f x) (map f xs)
  member_mapped f [] x m = absurd m
  member_mapped f (y ∷ ys) x (inl e) = inl (ap f e)
  member_mapped f (y ∷ ys) x (inr m) = inr (member_mapped f ys x m)

  pub flat_member : (f : A → List B) (xs : List A) (y : B) → Member y (flat_map f xs) → (x : A) × Member x xs × Member y (f x)
  flat_member f [] y m = absurd m
  flat_member f (x ∷ xs) y m = by (member_of_either (f x) (flat_map f xs) y m) (flat_member f xs y)
    where
      by : Member y (f x) ⊎ Member y (flat_map f xs) → (Member y (flat_map f xs) → (z : A) × Member z xs × Member y (f z)) → (z : A) × Member z (x ∷ xs) × Member y (f z)
      by (inl here) rest = (x, inl refl, here)
      by (inr there) rest = let t = rest there in (t.0, inr t.1, t.2)

  pub member_flat : (f : A → List B) (xs : List A) (x : A) (y : B) → Member x xs → Member y (f x) → Member y (flat_map f xs)
  member_flat f [] x y m n = absurd m
  member_flat f (z ∷ zs) x y (inl e) n = member_left (f z) (flat_map f zs) y (subst (λ (w : A). Member y (f w)) e n)
  member_flat f (z ∷ zs) x y (inr m) n = member_right (f z) (flat_map f zs) y (member_flat f zs x y m n)

  -- keys that each give back what they are the keys of
  pub filter_map_keys : (key : A → B) (h : B → Option A) (xs : List A) → ((x : A) → Member x xs → h (key x) ≡ Some x) → filter_map h (map key xs) ≡ xs
  filter_map_keys key h [] back = refl
  filter_map_keys key h (x ∷ xs) back =
      ap (λ (o : Option A). cons_option o (filter_map h (map key xs))) (back x (inl refl)) ∙ ap (λ ys. x ∷ ys) (filter_map_keys key h xs (λ y m. back y (inr m)))

  pub in_filter_map : (h : A → Option B) (xs : List A) (x : A) (y : B) → Member x xs → h x ≡ Some y → Member y (filter_map h xs)
  in_filter_map h [] x y m is = absurd m
  in_filter_map h (z ∷ zs) x y (inl e) is = subst (λ o. Member y (cons_option o (filter_map h zs))) (sym is ∙ ap h e) (inl refl)
  in_filter_map h (z ∷ zs) x y (inr m) is = by (h z) (in_filter_map h zs x y m is)
    where
      by : (o : Option B) → Member y (filter_map h zs) → Member y (cons_option o (filter_map h zs))
      by None rest = rest
      by (Some w) rest = inr rest

  pub of_filter_map : (h : A → Option B) (xs : List A) (y : B) → Member y (filter_map h xs) → (x : A) × Member x xs × (h x ≡ Some y)
  of_filter_map h [] y m = absurd m
  of_filter_map h (z ∷ zs) y m = by (h z) refl m (of_filter_map h zs y)
    where
      by : (o : Option B) → h z ≡ o → Member y (cons_option o (filter_map h zs)) → (Member y (filter_map h zs) → (x : A) × Member x zs × (h x ≡ Some y)) → (x : A) × Member x (z ∷ zs) × (h x ≡ Some y)
      by None is n rest = let t = rest n in (t.0, inr t.1, t.2)
      by (Some w) is (inl e) rest = (z, inl refl, is ∙ ap Some (sym e))
      by (Some w) is (inr n) rest = let t = rest n in (t.0, inr t.1, t.2)
