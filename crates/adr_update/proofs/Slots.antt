-- Slots in order of their keys, each with something or with nothing: what is told of them where one is made, filled or freed.
use Rattle.std.proofs.Common.{◌≡◌, List, [], ◌∷◌, Bool, true, false, cond, Option, Some, None, refl, sym, ap, ◌∙◌, subst}
use Rattle.std.specs.Prelude.{IsSome, unwrap_or}
use Rattle.std.specs.List.Sorted.{IsStrictlySortedBy}
use Rattle.std.specs.Map.{keys_of, lookup, remove_entry, set_value}
use Rattle.std.specs.BTreeMap.{insert_entry, is_at}
use Rattle.std.specs.Cmp.{IsTotalOrder}
use Rattle.std.specs.Ordering.{is_eq, match_ordering}
use Rattle.std.specs.declared.cmp.Ordering.{Ordering}
use Rattle.std.specs.declared.cmp.Ordering.TheVariants.{Less, Equal, Greater}
use Rattle.std.proofs.lemmas.Cmp.{eq_by_cmp_equiv}
use Rattle.std.proofs.lemmas.Map.{lookup-none}
use Rattle.std.proofs.lemmas.Map.Entries.{none_below_head, none_past_head}
use Rattle.std.proofs.lemmas.Map.Keys.{sorted_tail, IsDistinct-from_sorted}
use Rattle.std.proofs.lemmas.Map.Lookups.{CmpEqualImpliesEq}

pub still_some : {X : Type 0} (b : Bool) (v : X) (o : Option X) → IsSome o → IsSome (cond b (Some v) o)
still_some true v o some = refl
still_some false v o some = some

-- ---- look-ups

module _ {K V : Type 0} (order : K → K → Ordering) (total : IsTotalOrder order) where
  -- no later slot is that of the first one's key
  pub later_none : (k : K) (e : K × V) (es : List (K × V)) → IsStrictlySortedBy order (keys_of (e ∷ es)) → is_at (order k) e.0 ≡ true → lookup (is_at (order k)) es ≡ None
  later_none k e es sorted at = lookup-none (is_at (order k)) es (none_past_head (eq_by_cmp_equiv total) k e es (IsDistinct-from_sorted order (keys_of (e ∷ es)) sorted) at)

  -- nor is any that of a key below the first one
  pub none_below : (k : K) (e : K × V) (es : List (K × V)) → IsStrictlySortedBy order (keys_of (e ∷ es)) → order k e.0 ≡ Less → lookup (is_at (order k)) (e ∷ es) ≡ None
  none_below k e es sorted less = lookup-none (is_at (order k)) (e ∷ es) (none_below_head total k e es sorted less)

  -- what a slot has, put there again
  put_again : (es : List (K × V)) (k : K) (v : V) → IsStrictlySortedBy order (keys_of es) → lookup (is_at (order k)) es ≡ Some v → insert_entry order es k v ≡ es
  put_again [] k v sorted there = cc
  put_again (e ∷ es) k v sorted there = by (order k e.0) refl there (put_again es k v (sorted_tail order e.0 (keys_of es) sorted))
    where
      by : (o : Ordering) → order k e.0 ≡ o → cond (is_eq o) (Some e.1) (lookup (is_at (order k)) es) ≡ Some v → (lookup (is_at (order k)) es ≡ Some v → insert_entry order es k v ≡ es)
          → match_ordering o ((k, v) ∷ e ∷ es) ((e.0, v) ∷ es) (e ∷ insert_entry order es k v) ≡ e ∷ es
      by Less at is later = let wrong : None ≡ Some v = sym (none_below k e es sorted at) ∙ there in cc
      by Equal at is later = let same : e.1 ≡ v = cc in ap (λ w. (e.0, w) ∷ es) (sym same)
      by Greater at is later = ap (λ xs. e ∷ xs) (later is)

  -- a slot is made where there is none, and else all stays
  pub slot_made : (P : List (K × V) → Type 0) (es new : List (K × V)) (k : K) (v : V) → IsStrictlySortedBy order (keys_of es)
      → new ≡ insert_entry order es k (unwrap_or (lookup (is_at (order k)) es) v) → P es → (lookup (is_at (order k)) es ≡ None → P (insert_entry order es k v)) → P new
  slot_made P es new k v sorted is stays made = by (lookup (is_at (order k)) es) refl is
    where
      by : (o : Option V) → lookup (is_at (order k)) es ≡ o → new ≡ insert_entry order es k (unwrap_or o v) → P new
      by None none at = subst P (sym at) (made none)
      by (Some w) there at = subst P (sym (at ∙ put_again es k w sorted there)) stays

-- ---- what an empty slot adds nothing to

module _ {K X S : Type 0} (order : K → K → Ordering) (told : List (K × Option X) → S)
    (passes : (k : K) (es : List (K × Option X)) → told ((k, None) ∷ es) ≡ told es)
    (goes_on : (e : K × Option X) (es fs : List (K × Option X)) → told es ≡ told fs → told (e ∷ es) ≡ told (e ∷ fs))
  where
    pub made : (es : List (K × Option X)) (k : K) → lookup (is_at (order k)) es ≡ None → told (insert_entry order es k None) ≡ told es
    made [] k none = passes k []
    made (e ∷ es) k none = by (order k e.0) none (made es k)
      where
        by : (o : Ordering) → cond (is_eq o) (Some e.1) (lookup (is_at (order k)) es) ≡ None → (lookup (is_at (order k)) es ≡ None → told (insert_entry order es k None) ≡ told es)
            → told (match_ordering o ((k, None) ∷ e ∷ es) ((e.0, None) ∷ es) (e ∷ insert_entry order es k None)) ≡ told (e ∷ es)
        by Less n later = passes k (e ∷ es)
        by Equal n later = cc
        by Greater n later = goes_on e (insert_entry order es k None) es (later n)

    pub freed : (es : List (K × Option X)) (k : K) → lookup (is_at (order k)) es ≡ Some None → told (remove_entry (is_at (order k)) es) ≡ told es
    freed [] k empty = cc
    freed (e ∷ es) k empty = by (is_at (order k) e.0) empty (freed es k)
      where
        first : (o : Option X) → o ≡ None → told es ≡ told ((e.0, o) ∷ es)
        first None h = sym (passes e.0 es)
        first (Some x) h = cc

        by : (b : Bool) → cond b (Some e.1) (lookup (is_at (order k)) es) ≡ Some None → (lookup (is_at (order k)) es ≡ Some None → told (remove_entry (is_at (order k)) es) ≡ told es)
            → told (cond b es (e ∷ remove_entry (is_at (order k)) es)) ≡ told (e ∷ es)
        by true h later = let is : e.1 ≡ None = cc in first e.1 is
        by false h later = goes_on e (remove_entry (is_at (order k)) es) es (later h)

-- ---- what stands at its own key

module _ {K X : Type 0} (order : K → K → Ordering) (At : K → Option X → Type 0) (Home : List (K × Option X) → Type 0)
    (both : (e : K × Option X) (es : List (K × Option X)) → At e.0 e.1 → Home es → Home (e ∷ es))
    (parts : (e : K × Option X) (es : List (K × Option X)) → Home (e ∷ es) → At e.0 e.1 × Home es)
  where
    pub home_still : CmpEqualImpliesEq order → (es : List (K × Option X)) (k : K) (v : Option X) → At k v → Home es → Home (insert_entry order es k v)
    home_still exact [] k v at home = both (k, v) [] at home
    home_still exact (e ∷ es) k v at home = by (order k e.0) refl (home_still exact es k v at (parts e es home).1)
      where
        by : (o : Ordering) → order k e.0 ≡ o → Home (insert_entry order es k v) → Home (match_ordering o ((k, v) ∷ e ∷ es) ((e.0, v) ∷ es) (e ∷ insert_entry order es k v))
        by Less is later = both (k, v) (e ∷ es) at home
        by Equal is later = both (e.0, v) es (subst (λ l. At l v) (exact k e.0 is) at) (parts e es home).1
        by Greater is later = both e (insert_entry order es k v) (parts e es home).0 later

    pub freed_home : (es : List (K × Option X)) (k : K) → Home es → Home (remove_entry (is_at (order k)) es)
    freed_home [] k home = home
    freed_home (e ∷ es) k home = by (is_at (order k) e.0) (freed_home es k (parts e es home).1)
      where
        by : (b : Bool) → Home (remove_entry (is_at (order k)) es) → Home (cond b es (e ∷ remove_entry (is_at (order k)) es))
        by true rest = (parts e es home).1
        by false rest = both e (remove_entry (is_at (order k)) es) (parts e es home).0 rest

    pub emptied_home : ((k : K) → At k None) → (es : List (K × Option X)) (k : K) → Home es → Home (set_value (is_at (order k)) es None)
    emptied_home none [] k home = home
    emptied_home none (e ∷ es) k home = by (is_at (order k) e.0) (emptied_home none es k (parts e es home).1)
      where
        by : (b : Bool) → Home (set_value (is_at (order k)) es None) → Home (cond b ((e.0, None) ∷ es) (e ∷ set_value (is_at (order k)) es None))
        by true rest = both (e.0, None) es (none e.0) (parts e es home).1
        by false rest = both e (set_value (is_at (order k)) es None) (parts e es home).0 rest

    -- a search that knows what is at home by its key finds what is in the slot of the key
    module _ (total : IsTotalOrder order) (flat : Option (Option X) → Option X) (flat_none : flat None ≡ None) (flat_some : (o : Option X) → flat (Some o) ≡ o)
        (k : K) (told : List (K × Option X) → Option X) (nothing : told [] ≡ None)
        (passes : (l : K) (es : List (K × Option X)) → told ((l, None) ∷ es) ≡ told es)
        (tests : (l : K) (x : X) (es : List (K × Option X)) → At l (Some x) → told ((l, Some x) ∷ es) ≡ cond (is_at (order k) l) (Some x) (told es))
      where
        pub found : (es : List (K × Option X)) → IsStrictlySortedBy order (keys_of es) → Home es → flat (lookup (is_at (order k)) es) ≡ told es
        found [] sorted home = flat_none ∙ sym nothing
        found (e ∷ es) sorted home = by e.1 (parts e es home).0 (found es (sorted_tail order e.0 (keys_of es) sorted) (parts e es home).1)
          where
            empty : (b : Bool) → is_at (order k) e.0 ≡ b → flat (lookup (is_at (order k)) es) ≡ told es → flat (cond b (Some None) (lookup (is_at (order k)) es)) ≡ told es
            empty true at later = flat_some None ∙ sym (sym later ∙ ap flat (later_none order total k e es sorted at) ∙ flat_none)
            empty false at later = later

            full : (x : X) (b : Bool) → flat (lookup (is_at (order k)) es) ≡ told es → flat (cond b (Some (Some x)) (lookup (is_at (order k)) es)) ≡ cond b (Some x) (told es)
            full x true later = flat_some (Some x)
            full x false later = later

            by : (o : Option X) → At e.0 o → flat (lookup (is_at (order k)) es) ≡ told es → flat (cond (is_at (order k) e.0) (Some o) (lookup (is_at (order k)) es)) ≡ told ((e.0, o) ∷ es)
            by None at later = empty (is_at (order k) e.0) refl later ∙ sym (passes e.0 es)
            by (Some x) at later = full x (is_at (order k) e.0) later ∙ sym (tests e.0 x es at)
