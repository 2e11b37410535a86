-- How long a table is with an entry more.
use Rattle.std.proofs.Common.{◌≡◌, ℕ, ◌+◌, Bool, List, [], ◌∷◌, cond, length, refl, ap, Some, None, is_some, arith}
use Rattle.std.specs.List.Sorted.{IsStrictlySortedBy}
use Rattle.std.specs.Map.{keys_of, lookup}
use Rattle.std.specs.BTreeMap.{insert_entry, is_at}
use Rattle.std.specs.Ordering.{is_eq, match_ordering}
use Rattle.std.specs.Cmp.{IsTotalOrder}
use Rattle.std.specs.declared.cmp.Ordering.{Ordering}
use Rattle.std.specs.declared.cmp.Ordering.TheVariants.{Less, Equal, Greater}
use Rattle.std.proofs.lemmas.Map.{lookup-none}
use Rattle.std.proofs.lemmas.Map.Entries.{none_below_head}
use Rattle.std.proofs.lemmas.Map.Keys.{sorted_tail}

-- 1 where there is none
abbrev pub lacking : Bool → ℕ
lacking b = cond b 0 1

module _ {K X : Type 0} {R : K → K → Ordering} (total : IsTotalOrder R) where
  -- one more where there is none at the key
  pub entered : (es : List (K × X)) (k : K) (v : X) → IsStrictlySortedBy R (keys_of es) → length (insert_entry R es k v) ≡ length es + lacking (is_some (lookup (is_at (R k)) es))
  entered [] k v s = refl
  entered (e ∷ es) k v s = by (R k e.0) refl (entered es k v (sorted_tail R e.0 (keys_of es) s))
    where
      below : R k e.0 ≡ Less → lookup (is_at (R k)) (e ∷ es) ≡ None
      below less = lookup-none (is_at (R k)) (e ∷ es) (none_below_head total k e es s less)

      by : (o : Ordering) → R k e.0 ≡ o → length (insert_entry R es k v) ≡ length es + lacking (is_some (lookup (is_at (R k)) es))
          → length (match_ordering o ((k, v) ∷ e ∷ es) ((e.0, v) ∷ es) (e ∷ insert_entry R es k v)) ≡ length (e ∷ es) + lacking (is_some (lookup (is_at (R k)) (e ∷ es)))
      by Less is later = omega (arith, ap (λ o. lacking (is_some o)) (below is))
      by Equal is later = omega (arith, ap (λ o. lacking (is_some (cond (is_eq o) (Some e.1) (lookup (is_at (R k)) es)))) is)
      by Greater is later = omega (arith, later, ap (λ o. lacking (is_some (cond (is_eq o) (Some e.1) (lookup (is_at (R k)) es)))) is)
