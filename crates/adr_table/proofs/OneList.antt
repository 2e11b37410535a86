-- Two rising lists with the same look-ups are one.
use Rattle.std.proofs.Common.{◌≡◌, refl, sym, ap, ◌∙◌, subst, List, [], ◌∷◌, Bool, true, false, cond, Some, None}
use Rattle.std.specs.List.Sorted.{IsStrictlySortedBy}
use Rattle.std.specs.Map.{keys_of, lookup}
use Rattle.std.specs.BTreeMap.{is_at}
use Rattle.std.specs.Ordering.{is_eq, ordering_reverse}
use Rattle.std.specs.declared.cmp.Ordering.{Ordering}
use Rattle.std.specs.declared.cmp.Ordering.TheVariants.{Less, Equal, Greater}
use Rattle.std.specs.Cmp.{IsTotalOrder}
use Rattle.std.proofs.lemmas.Cmp.{eq_by_cmp_equiv, tied_itself}
use Rattle.std.proofs.lemmas.Map.{lookup-none}
use Rattle.std.proofs.lemmas.Map.Entries.{none_past_head, none_below_head}
use Rattle.std.proofs.lemmas.Map.Keys.{sorted_tail, IsDistinct-from_sorted}
use Rattle.std.proofs.lemmas.Map.Lookups.{CmpEqualImpliesEq}

module _ {K X : Type 0} {R : K → K → Ordering} (total : IsTotalOrder R) (exact : CmpEqualImpliesEq R) where
  past : (q : K) (e : K × X) (es : List (K × X)) → IsStrictlySortedBy R (keys_of (e ∷ es)) → is_at (R q) e.0 ≡ true → lookup (is_at (R q)) es ≡ None
  past q e es sorted at = lookup-none (is_at (R q)) es (none_past_head (eq_by_cmp_equiv total) q e es (IsDistinct-from_sorted R (keys_of (e ∷ es)) sorted) at)

  below : (q : K) (e : K × X) (es : List (K × X)) → IsStrictlySortedBy R (keys_of (e ∷ es)) → R q e.0 ≡ Less → lookup (is_at (R q)) (e ∷ es) ≡ None
  below q e es sorted less = lookup-none (is_at (R q)) (e ∷ es) (none_below_head total q e es sorted less)

  first : (e : K × X) (es : List (K × X)) → lookup (is_at (R e.0)) (e ∷ es) ≡ Some e.1
  first e es = ap (λ b. cond b (Some e.1) (lookup (is_at (R e.0)) es)) (ap is_eq (tied_itself total e.0))

  -- two rising lists with the same look-ups are one
  pub one_list : (es fs : List (K × X)) → IsStrictlySortedBy R (keys_of es) → IsStrictlySortedBy R (keys_of fs) → ((q : K) → lookup (is_at (R q)) es ≡ lookup (is_at (R q)) fs) → es ≡ fs
  one_list [] [] s t h = refl
  one_list [] (f ∷ fs) s t h = let no : None ≡ Some f.1 = h f.0 ∙ first f fs in cc
  one_list (e ∷ es) [] s t h = let no : Some e.1 ≡ None = sym (first e es) ∙ h e.0 in cc
  one_list (e ∷ es) (f ∷ fs) s t h = by (R e.0 f.0) refl (one_list es fs (sorted_tail R e.0 (keys_of es) s) (sorted_tail R f.0 (keys_of fs) t))
    where
      rest : e.0 ≡ f.0 → (q : K) → lookup (is_at (R q)) es ≡ lookup (is_at (R q)) fs
      rest same q = turn (is_at (R q) e.0) (is_at (R q) f.0) refl refl (ap (λ k. is_at (R q) k) same) (h q)
        where
          turn : (b c : Bool) → is_at (R q) e.0 ≡ b → is_at (R q) f.0 ≡ c → is_at (R q) e.0 ≡ is_at (R q) f.0 → cond b (Some e.1) (lookup (is_at (R q)) es) ≡ cond c (Some f.1) (lookup (is_at (R q)) fs)
              → lookup (is_at (R q)) es ≡ lookup (is_at (R q)) fs
          turn true true x y z g = past q e es s x ∙ sym (past q f fs t y)
          turn true false x y z g = let no : true ≡ false = sym x ∙ z ∙ y in cc
          turn false true x y z g = let no : false ≡ true = sym x ∙ z ∙ y in cc
          turn false false x y z g = g

      value : e.0 ≡ f.0 → e.1 ≡ f.1
      value same =
          let both : Some e.1 ≡ Some f.1 = sym (first e es) ∙ h e.0 ∙ subst (λ k. lookup (is_at (R k)) (f ∷ fs) ≡ Some f.1) (sym same) (first f fs) in cc

      pair : e.0 ≡ f.0 → e.1 ≡ f.1 → e ≡ f
      pair k v = ap (λ x. (x, e.1)) k ∙ ap (λ y. (f.0, y)) v

      by : (o : Ordering) → R e.0 f.0 ≡ o → (((q : K) → lookup (is_at (R q)) es ≡ lookup (is_at (R q)) fs) → es ≡ fs) → e ∷ es ≡ f ∷ fs
      by Less is later = let no : Some e.1 ≡ None = sym (first e es) ∙ h e.0 ∙ below e.0 f fs t is in cc
      by Greater is later = let no : Some f.1 ≡ None = sym (first f fs) ∙ sym (h f.0) ∙ below f.0 e es s (total.antisymm f.0 e.0 ∙ ap ordering_reverse is) in cc
      by Equal is later =
          let same = exact e.0 f.0 is in
          ap (λ x. x ∷ es) (pair same (value same)) ∙ ap (λ xs. f ∷ xs) (later (rest same))
