-- Where the slot of an attribute stands among those of a shelf, and where it would.
use Rattle.std.proofs.Common.{◌≡◌, ℕ, ◌+◌, ◌<◌, ◌≤◌, zero, suc, List, [], ◌∷◌, ◌++◌, length, get_or, take, drop, slice_set, Bool, true, false, cond, Option, Some, None, refl, sym, ap, ◌∙◌, subst, arith, add-one}
use Rattle.std.specs.Prelude.{insert, unwrap_or}
use Rattle.std.specs.List.{AllByRecursion, remove}
use Rattle.std.specs.List.Sorted.{IsStrictlySortedBy}
use Rattle.std.specs.Map.{keys_of, lookup, remove_entry, set_value}
use Rattle.std.specs.BTreeMap.{insert_entry, is_at}
use Rattle.std.specs.Cmp.{IsTotalOrder, nat_cmp_is}
use Rattle.std.specs.Ordering.{is_eq, nat_cmp}
use Rattle.std.specs.declared.cmp.Ordering.{Ordering}
use Rattle.std.specs.declared.cmp.Ordering.TheVariants.{Less, Equal, Greater}
use Rattle.std.proofs.lemmas.Cmp.{nat_cmp_total}
use Rattle.std.proofs.lemmas.List.{append-nil, take-append-drop, take_all, drop_more, set_split, get_or_read}
use Rattle.std.proofs.lemmas.Map.Keys.{sorted_tail}
use Rattle.std.proofs.lemmas.Map.Lookups.{exact_unsigned}
use Rattle.std.proofs.Math.Seq.{drop-length, take-length}
use Rattle.adr_model.specs.Store.{Held}
use Rattle.adr_update.proofs.Slots.{none_below}
use Rattle.adr_shelves.specs.Shelf.{Slots, IsGapFor, IsPlaceOf}

-- the key is above those of all these entries
abbrev pub IsAbove : {K V : Type 0} → (K → K → Ordering) → K → List (K × V) → Type 0
IsAbove order k es = AllByRecursion (λ e. order k e.0 ≡ Greater) es

-- ---- entries below the key are passed

module _ {K V : Type 0} (order : K → K → Ordering) (k : K) where
  insert_behind : (front rest : List (K × V)) (v : V) → IsAbove order k front → insert_entry order (front ++ rest) k v ≡ front ++ insert_entry order rest k v
  insert_behind [] rest v a = refl
  insert_behind (e ∷ es) rest v a = rw a.0 (ap (λ t. e ∷ t) (insert_behind es rest v a.1))

  lookup_behind : (front rest : List (K × V)) → IsAbove order k front → lookup (is_at (order k)) (front ++ rest) ≡ lookup (is_at (order k)) rest
  lookup_behind [] rest a = refl
  lookup_behind (e ∷ es) rest a = rw a.0 (lookup_behind es rest a.1)

  set_behind : (front rest : List (K × V)) (v : V) → IsAbove order k front → set_value (is_at (order k)) (front ++ rest) v ≡ front ++ set_value (is_at (order k)) rest v
  set_behind [] rest v a = refl
  set_behind (e ∷ es) rest v a = rw a.0 (ap (λ t. e ∷ t) (set_behind es rest v a.1))

  remove_behind : (front rest : List (K × V)) → IsAbove order k front → remove_entry (is_at (order k)) (front ++ rest) ≡ front ++ remove_entry (is_at (order k)) rest
  remove_behind [] rest a = refl
  remove_behind (e ∷ es) rest a = rw a.0 (ap (λ t. e ∷ t) (remove_behind es rest a.1))

  above_more : (es : List (K × V)) (i : ℕ) (x : K × V) → i < length es → x ≡ get_or es i x → IsAbove order k (take i es) → order k x.0 ≡ Greater → IsAbove order k (take (i + 1) es)
  above_more es i x lt is above here = rw (add-one i) (onward es i lt is above)
    where
      onward : (xs : List (K × V)) (j : ℕ) → j < length xs → x ≡ get_or xs j x → IsAbove order k (take j xs) → IsAbove order k (take (suc j) xs)
      onward [] j l e a = absurd (omega (arith, l))
      onward (y ∷ ys) zero l e a = (subst (λ z. order k z.0 ≡ Greater) e here, tt)
      onward (y ∷ ys) (suc j) l e a = (a.0, onward ys j (omega (arith, l)) e a.1)

  sorted_rest : (front rest : List (K × V)) → IsStrictlySortedBy order (keys_of (front ++ rest)) → IsStrictlySortedBy order (keys_of rest)
  sorted_rest [] rest s = s
  sorted_rest (e ∷ es) rest s = sorted_rest es rest (sorted_tail order e.0 (keys_of (es ++ rest)) s)

-- where nothing is looked up, nothing is replaced
none_set : {K V : Type 0} (test : K → Bool) (es : List (K × V)) (v : V) → lookup test es ≡ None → set_value test es v ≡ es
none_set test [] v none = refl
none_set test (e ∷ es) v none = by (test e.0) none (none_set test es v)
  where
    by : (b : Bool) → cond b (Some e.1) (lookup test es) ≡ None → (lookup test es ≡ None → set_value test es v ≡ es) → cond b ((e.0, v) ∷ es) (e ∷ set_value test es v) ≡ e ∷ es
    by true wrong later = cc
    by false n later = ap (λ xs. e ∷ xs) (later n)

-- ---- at an entry that these stand in front of

module _ {K V : Type 0} (order : K → K → Ordering) (k : K) (es : List (K × V)) (i : ℕ) (x : K × V) (lt : i < length es) (is : x ≡ get_or es i x) (above : IsAbove order k (take i es)) where
  abbrev rest : List (K × V)
  rest = drop (suc i) es

  left : drop i es ≡ x ∷ rest
  left = drop_more es i x lt ∙ ap (λ y. y ∷ drop (i + 1) es) (sym is) ∙ ap (λ n. x ∷ drop n es) (add-one i)

  parts : es ≡ take i es ++ x ∷ rest
  parts = sym (take-append-drop i es) ∙ ap (λ xs. take i es ++ xs) left

  module _ (at : order k x.0 ≡ Equal) where
    found : lookup (is_at (order k)) es ≡ Some x.1
    found = ap (lookup (is_at (order k))) parts ∙ lookup_behind order k (take i es) (x ∷ rest) above ∙ first
      where
        first : lookup (is_at (order k)) (x ∷ rest) ≡ Some x.1
        first = rw at refl

    again : insert_entry order es k x.1 ≡ es
    again = ap (λ xs. insert_entry order xs k x.1) parts ∙ insert_behind order k (take i es) (x ∷ rest) x.1 above ∙ ap (λ xs. take i es ++ xs) first ∙ sym parts
      where
        first : insert_entry order (x ∷ rest) k x.1 ≡ x ∷ rest
        first = rw at refl

    removed : remove_entry (is_at (order k)) es ≡ remove es i
    removed = ap (remove_entry (is_at (order k))) parts ∙ remove_behind order k (take i es) (x ∷ rest) above ∙ ap (λ xs. take i es ++ xs) first
      where
        first : remove_entry (is_at (order k)) (x ∷ rest) ≡ rest
        first = rw at refl

    module _ (same : x.0 ≡ k) (v : V) where
      put_there : take i es ++ (x.0, v) ∷ rest ≡ slice_set es i (k, v)
      put_there = ap (λ l. take i es ++ (l, v) ∷ rest) same ∙ sym (set_split es i (k, v) lt)

      inserted : insert_entry order es k v ≡ slice_set es i (k, v)
      inserted = ap (λ xs. insert_entry order xs k v) parts ∙ insert_behind order k (take i es) (x ∷ rest) v above ∙ ap (λ xs. take i es ++ xs) first ∙ put_there
        where
          first : insert_entry order (x ∷ rest) k v ≡ (x.0, v) ∷ rest
          first = rw at refl

      replaced : set_value (is_at (order k)) es v ≡ slice_set es i (k, v)
      replaced = ap (λ xs. set_value (is_at (order k)) xs v) parts ∙ set_behind order k (take i es) (x ∷ rest) v above ∙ ap (λ xs. take i es ++ xs) first ∙ put_there
        where
          first : set_value (is_at (order k)) (x ∷ rest) v ≡ (x.0, v) ∷ rest
          first = rw at refl

  module _ (at : order k x.0 ≡ Less) where
    entered : (v : V) → insert_entry order es k v ≡ insert es i (k, v)
    entered v =
        ap (λ xs. insert_entry order xs k v) parts ∙ insert_behind order k (take i es) (x ∷ rest) v above
        ∙ ap (λ xs. take i es ++ xs) (first ∙ ap (λ xs. (k, v) ∷ xs) (sym left))
      where
        first : insert_entry order (x ∷ rest) k v ≡ (k, v) ∷ x ∷ rest
        first = rw at refl

    absent : IsTotalOrder order → IsStrictlySortedBy order (keys_of es) → lookup (is_at (order k)) es ≡ None
    absent total sorted =
        ap (lookup (is_at (order k))) parts ∙ lookup_behind order k (take i es) (x ∷ rest) above
        ∙ none_below order total k x rest (sorted_rest order k (take i es) (x ∷ rest) (subst (λ xs. IsStrictlySortedBy order (keys_of xs)) parts sorted)) at

-- ---- slots

less_is : (a b : ℕ) → a < b → nat_cmp a b ≡ Less
less_is a b h = sym (nat_cmp_is a b Less h)

equal_is : (a b : ℕ) → a ≡ b → nat_cmp a b ≡ Equal
equal_is a b h = sym (nat_cmp_is a b Equal h)

greater_is : (a b : ℕ) → b < a → nat_cmp a b ≡ Greater
greater_is a b h = sym (nat_cmp_is a b Greater h)

module _ (attr : ℕ) (slots : Slots) (i : ℕ) (x : ℕ × Option Held) (lt : i < length slots) (is : x ≡ get_or slots i x) (above : IsAbove nat_cmp attr (take i slots)) where
  pub place_here : x.0 ≡ attr → IsPlaceOf slots attr i
  place_here same = record {
    in_range = lt;
    there = there;
    takes = inserted nat_cmp attr slots i x lt is above at same;
    stays = ap (λ o. insert_entry nat_cmp slots attr (unwrap_or o None)) (found nat_cmp attr slots i x lt is above at) ∙ again nat_cmp attr slots i x lt is above at;
    empties = replaced nat_cmp attr slots i x lt is above at same None;
    leaves = removed nat_cmp attr slots i x lt is above at;
  }
    where
      at : nat_cmp attr x.0 ≡ Equal
      at = equal_is attr x.0 (sym same)

      there : (s : ℕ × Option Held) → s ≡ get_or slots i s → lookup (is_at (nat_cmp attr)) slots ≡ Some s.1
      there s read = found nat_cmp attr slots i x lt is above at ∙ ap (λ (y : ℕ × Option Held). Some y.1) (is ∙ sym (get_or_read slots i s lt read x))

  pub gap_here : IsStrictlySortedBy nat_cmp (keys_of slots) → attr < x.0 → IsGapFor slots attr i
  gap_here sorted less = record {
    in_range = omega (arith, lt);
    none = none;
    enters = entered nat_cmp attr slots i x lt is above at;
    keeps = none_set (is_at (nat_cmp attr)) slots None none;
  }
    where
      at : nat_cmp attr x.0 ≡ Less
      at = less_is attr x.0 less

      none : lookup (is_at (nat_cmp attr)) slots ≡ None
      none = absent nat_cmp attr slots i x lt is above at nat_cmp_total sorted

  pub above_here : x.0 < attr → IsAbove nat_cmp attr (take (i + 1) slots)
  above_here more = above_more nat_cmp attr slots i x lt is above (greater_is attr x.0 more)

pub gap_at_end : (attr : ℕ) (slots : Slots) (i : ℕ) → length slots ≤ i → IsAbove nat_cmp attr (take i slots) → IsGapFor slots attr (length slots)
gap_at_end attr slots i ge above = record {
  in_range = omega arith;
  none = none;
  enters = enters;
  keeps = none_set (is_at (nat_cmp attr)) slots None none;
}
  where
    all : IsAbove nat_cmp attr slots
    all = subst (IsAbove nat_cmp attr) (take_all i slots ge) above

    whole : slots ++ [] ≡ slots
    whole = append-nil slots

    none : lookup (is_at (nat_cmp attr)) slots ≡ None
    none = ap (lookup (is_at (nat_cmp attr))) (sym whole) ∙ lookup_behind nat_cmp attr slots [] all

    enters : (row : Option Held) → insert_entry nat_cmp slots attr row ≡ insert slots (length slots) (attr, row)
    enters row =
        ap (λ xs. insert_entry nat_cmp xs attr row) (sym whole) ∙ insert_behind nat_cmp attr slots [] row all
        ∙ ap (λ xs. xs ++ (attr, row) ∷ []) (sym (take-length slots)) ∙ ap (λ xs. take (length slots) slots ++ (attr, row) ∷ xs) (sym (drop-length slots))

-- ---- a search for the slot of the attribute, from a place on

module _ (attr : ℕ) (slots : Slots) (i : ℕ) (x : ℕ × Option Held) (lt : i < length slots) (is : x ≡ get_or slots i x) where
  next : lookup (is_at (nat_cmp attr)) (drop i slots) ≡ cond (is_at (nat_cmp attr) x.0) (Some x.1) (lookup (is_at (nat_cmp attr)) (drop (i + 1) slots))
  next = ap (lookup (is_at (nat_cmp attr))) (drop_more slots i x lt ∙ ap (λ y. y ∷ drop (i + 1) slots) (sym is))

  pub slot_here : x.0 ≡ attr → lookup (is_at (nat_cmp attr)) (drop i slots) ≡ Some x.1
  slot_here same = next ∙ ap (λ o. cond (is_eq o) (Some x.1) (lookup (is_at (nat_cmp attr)) (drop (i + 1) slots))) (equal_is attr x.0 (sym same))

  pub slot_later : (x.0 ≡ attr → ⊥) → lookup (is_at (nat_cmp attr)) (drop i slots) ≡ lookup (is_at (nat_cmp attr)) (drop (i + 1) slots)
  slot_later other = next ∙ by (nat_cmp attr x.0) refl
    where
      by : (o : Ordering) → nat_cmp attr x.0 ≡ o → cond (is_eq o) (Some x.1) (lookup (is_at (nat_cmp attr)) (drop (i + 1) slots)) ≡ lookup (is_at (nat_cmp attr)) (drop (i + 1) slots)
      by Less e = refl
      by Equal e = absurd (other (sym (exact_unsigned attr x.0 e)))
      by Greater e = refl
