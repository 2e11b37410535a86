-- What stands in a table, and at an identifier, after an entry is put in.
use Rattle.std.proofs.Common.{◌≡◌, ◌⊎◌, inl, inr, ⊎_elim, List, [], ◌∷◌, Bool, true, false, cond, Option, Some, None, unwrap_or, refl, sym, ap, ◌∙◌, subst}
use Rattle.std.specs.Map.{lookup}
use Rattle.std.specs.BTreeMap.{is_at, insert_entry}
use Rattle.std.specs.Ordering.{match_ordering, is_eq}
use Rattle.std.specs.declared.cmp.Ordering.{Ordering}
use Rattle.std.specs.declared.cmp.Ordering.TheVariants.{Less, Equal, Greater}
use Rattle.std.proofs.lemmas.Map.Lookups.{CmpEqualImpliesEq, exact_bytes}
use Rattle.adr_values.specs.Order.{identifier_order}
use Rattle.adr_values.proofs.Cursors.{test_itself, same_from_test}
use Rattle.adr_model.specs.Member.{Member, Each}
use Rattle.adr_model.specs.Update.{Identifier}

-- ---- what stands in a table

module _ {K X : Type 0} (R : K → K → Ordering) (exact : CmpEqualImpliesEq R) where
  pub entry_from : (es : List (K × X)) (k : K) (v : X) (e : K × X) → Member e (insert_entry R es k v) → (e ≡ (k, v)) ⊎ Member e es
  entry_from [] k v e (inl same) = inl same
  entry_from [] k v e (inr m) = absurd m
  entry_from (x ∷ xs) k v e m = by (R k x.0) refl m (entry_from xs k v e)
    where
      by : (o : Ordering) → R k x.0 ≡ o → Member e (match_ordering o ((k, v) ∷ x ∷ xs) ((x.0, v) ∷ xs) (x ∷ insert_entry R xs k v)) → (Member e (insert_entry R xs k v) → (e ≡ (k, v)) ⊎ Member e xs) → (e ≡ (k, v)) ⊎ Member e (x ∷ xs)
      by Less is (inl same) rest = inl same
      by Less is (inr n) rest = inr n
      by Equal is (inl same) rest = inl (same ∙ ap (λ l. (l, v)) (sym (exact k x.0 is)))
      by Equal is (inr n) rest = inr (inr n)
      by Greater is (inl same) rest = inr (inl same)
      by Greater is (inr n) rest = ⊎_elim (λ same. inl same) (λ j. inr (inr j)) (rest n)

  pub entry_there : (es : List (K × X)) (k : K) (v : X) → Member (k, v) (insert_entry R es k v)
  entry_there [] k v = inl refl
  entry_there (x ∷ xs) k v = by (R k x.0) refl (entry_there xs k v)
    where
      by : (o : Ordering) → R k x.0 ≡ o → Member (k, v) (insert_entry R xs k v) → Member (k, v) (match_ordering o ((k, v) ∷ x ∷ xs) ((x.0, v) ∷ xs) (x ∷ insert_entry R xs k v))
      by Less is rest = inl refl
      by Equal is rest = inl (ap (λ l. (l, v)) (exact k x.0 is))
      by Greater is rest = inr rest

  pub entry_stays : (es : List (K × X)) (k : K) (v : X) (e : K × X) → Member e es → Member e (insert_entry R es k v) ⊎ (e.0 ≡ k)
  entry_stays [] k v e m = absurd m
  entry_stays (x ∷ xs) k v e m = by (R k x.0) refl m (entry_stays xs k v e)
    where
      by : (o : Ordering) → R k x.0 ≡ o → Member e (x ∷ xs) → (Member e xs → Member e (insert_entry R xs k v) ⊎ (e.0 ≡ k))
          → Member e (match_ordering o ((k, v) ∷ x ∷ xs) ((x.0, v) ∷ xs) (x ∷ insert_entry R xs k v)) ⊎ (e.0 ≡ k)
      by Less is n rest = inl (inr n)
      by Equal is (inl same) rest = inr (ap (λ (y : K × X). y.0) same ∙ sym (exact k x.0 is))
      by Equal is (inr n) rest = inl (inr n)
      by Greater is (inl same) rest = inl (inl same)
      by Greater is (inr n) rest = ⊎_elim (λ j. inl (inr j)) (λ same. inr same) (rest n)

-- ---- what is found in one

-- a fact of each entry and of what stands for none is one of what is found
pub each_found : {K X : Type 0} (P : X → Type 0) (test : K → Bool) (es : List (K × X)) (none : X) → P none → Each (λ (e : K × X). P e.1) es → P (unwrap_or (lookup test es) none)
each_found P test [] none there all = there
each_found P test (e ∷ es) none there all = by (test e.0) (each_found P test es none there (λ f m. all f (inr m)))
  where
    by : (b : Bool) → P (unwrap_or (lookup test es) none) → P (unwrap_or (cond b (Some e.1) (lookup test es)) none)
    by true rest = all e (inl refl)
    by false rest = rest

module _ {X : Type 0} where
  abbrev Found : Identifier → List (Identifier × X) → Option X
  Found i es = lookup (is_at (identifier_order i)) es

  found_itself : (es : List (Identifier × X)) (i : Identifier) (v : X) → Found i (insert_entry identifier_order es i v) ≡ Some v
  found_itself [] i v = ap (λ b. cond b (Some v) None) (test_itself i)
  found_itself (e ∷ es) i v = by (identifier_order i e.0) refl (found_itself es i v)
    where
      by : (o : Ordering) → identifier_order i e.0 ≡ o → Found i (insert_entry identifier_order es i v) ≡ Some v
          → Found i (match_ordering o ((i, v) ∷ e ∷ es) ((e.0, v) ∷ es) (e ∷ insert_entry identifier_order es i v)) ≡ Some v
      by Less is rest = ap (λ b. cond b (Some v) (Found i (e ∷ es))) (test_itself i)
      by Equal is rest = ap (λ o. cond (is_eq o) (Some v) (Found i es)) is
      by Greater is rest = ap (λ o. cond (is_eq o) (Some e.1) (Found i (insert_entry identifier_order es i v))) is ∙ rest

  found_other : (es : List (Identifier × X)) (i j : Identifier) (v : X) → is_eq (identifier_order j i) ≡ false → Found j (insert_entry identifier_order es i v) ≡ Found j es
  found_other [] i j v apart = ap (λ b. cond b (Some v) None) apart
  found_other (e ∷ es) i j v apart = by (identifier_order i e.0) refl (found_other es i j v apart)
    where
      by : (o : Ordering) → identifier_order i e.0 ≡ o → Found j (insert_entry identifier_order es i v) ≡ Found j es
          → Found j (match_ordering o ((i, v) ∷ e ∷ es) ((e.0, v) ∷ es) (e ∷ insert_entry identifier_order es i v)) ≡ Found j (e ∷ es)
      by Less is rest = ap (λ b. cond b (Some v) (Found j (e ∷ es))) apart
      by Equal is rest = let n : is_eq (identifier_order j e.0) ≡ false = ap (λ k. is_eq (identifier_order j k)) (sym (exact_bytes i e.0 is)) ∙ apart in
          ap (λ b. cond b (Some v) (Found j es)) n ∙ sym (ap (λ b. cond b (Some e.1) (Found j es)) n)
      by Greater is rest = ap (λ o. cond (is_eq (identifier_order j e.0)) (Some e.1) o) rest

  -- a fact of what was put in, and of what stood at each identifier, is one of what stands there
  pub each_entry : (es : List (Identifier × X)) (none : X) (i : Identifier) (v : X) (P : Identifier → X → Type 0)
      → P i v → ((j : Identifier) → P j (unwrap_or (Found j es) none)) → (j : Identifier) → P j (unwrap_or (Found j (insert_entry identifier_order es i v)) none)
  each_entry es none i v P here others j = by (is_eq (identifier_order j i)) refl
    where
      by : (b : Bool) → is_eq (identifier_order j i) ≡ b → P j (unwrap_or (Found j (insert_entry identifier_order es i v)) none)
      by true is = subst (λ k. P k (unwrap_or (Found k (insert_entry identifier_order es i v)) none)) (sym (same_from_test j i is))
          (subst (λ o. P i (unwrap_or o none)) (sym (found_itself es i v)) here)
      by false is = subst (λ o. P j (unwrap_or o none)) (sym (found_other es i j v is)) (others j)

  pub entry_itself : (es : List (Identifier × X)) (none : X) (i : Identifier) (v : X) → unwrap_or (Found i (insert_entry identifier_order es i v)) none ≡ v
  entry_itself es none i v = ap (λ o. unwrap_or o none) (found_itself es i v)

  pub entry_other : (es : List (Identifier × X)) (none : X) (i j : Identifier) (v : X) → (j ≡ i → ⊥) → unwrap_or (Found j (insert_entry identifier_order es i v)) none ≡ unwrap_or (Found j es) none
  entry_other es none i j v other = by (is_eq (identifier_order j i)) refl
    where
      by : (b : Bool) → is_eq (identifier_order j i) ≡ b → unwrap_or (Found j (insert_entry identifier_order es i v)) none ≡ unwrap_or (Found j es) none
      by true is = absurd (other (same_from_test j i is))
      by false is = ap (λ o. unwrap_or o none) (found_other es i j v is)
