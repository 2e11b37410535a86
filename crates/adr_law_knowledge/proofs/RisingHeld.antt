-- Rows in order of their keys stay so where one is put, and which rows stand then.
use Rattle.std.proofs.Common.{◌≡◌, ◌⊎◌, inl, inr, ⊎_elim, List, [], ◌∷◌, Bool, refl, sym, ap, ◌∙◌, subst, filter, fold, map, Option, Some, None, not}
use Rattle.std.specs.List.{AllByRecursion}
use Rattle.std.specs.List.Sorted.{IsStrictlySortedBy}
use Rattle.std.specs.Ordering.{match_ordering, ordering_reverse}
use Rattle.std.specs.declared.cmp.Ordering.{Ordering}
use Rattle.std.specs.declared.cmp.Ordering.TheVariants.{Less, Equal, Greater}
use Rattle.std.proofs.lemmas.Map.Keys.{sorted_head, sorted_tail}
use Rattle.adr_values.specs.declared.stamp.Oid.{Oid}
use Rattle.adr_model.specs.Member.{Member}
use Rattle.adr_model.specs.Update.{Key, key_order}
use Rattle.adr_model.specs.Store.{Held, with_row, is_row_of}
use Rattle.adr_model.specs.Change.{goes_with, killed_by, stripped, put, without_object, rows_after}
use Rattle.adr_model.specs.Formed.{AreRising}
use Rattle.adr_model.proofs.Keys.{exact_keys, keys_total}
use Rattle.adr_law_knowledge.proofs.Counting.{filtered_rise}

-- a key below those of all these rows
abbrev pub IsBelow : Key → List Held → Type 0
IsBelow k rows = AllByRecursion (λ l. key_order k l ≡ Less) (map (λ (h : Held). h.update.key) rows)

pub head_below : (x : Held) (xs : List Held) → AreRising (x ∷ xs) → IsBelow x.update.key xs
head_below x xs r = sorted_head key_order x.update.key (map (λ (h : Held). h.update.key) xs) r

pub tail_rising : (x : Held) (xs : List Held) → AreRising (x ∷ xs) → AreRising xs
tail_rising x xs r = sorted_tail key_order x.update.key (map (λ (h : Held). h.update.key) xs) r

pub none_rising : AreRising []
unfolding IsStrictlySortedBy
none_rising = tt

one_more : (x : Held) (xs : List Held) → IsBelow x.update.key xs → AreRising xs → AreRising (x ∷ xs)
unfolding IsStrictlySortedBy
one_more x xs b r = (b, r)

pub below_all : (k l : Key) (xs : List Held) → key_order k l ≡ Less → IsBelow l xs → IsBelow k xs
below_all k l [] less b = tt
below_all k l (x ∷ xs) less b = (keys_total.trans k l x.update.key less b.0, below_all k l xs less b.1)

pub below_same : (k l : Key) (xs : List Held) → k ≡ l → IsBelow l xs → IsBelow k xs
below_same k l xs e b = subst (λ m. IsBelow m xs) (sym e) b

-- ---- a row more

below_with_row : (k : Key) (xs : List Held) (h : Held) → key_order k h.update.key ≡ Less → IsBelow k xs → IsBelow k (with_row xs h)
below_with_row k [] h less b = (less, tt)
below_with_row k (x ∷ xs) h less b = by (key_order h.update.key x.update.key) (below_with_row k xs h less b.1)
  where
    by : (o : Ordering) → IsBelow k (with_row xs h) → IsBelow k (match_ordering o (h ∷ x ∷ xs) (h ∷ xs) (x ∷ with_row xs h))
    by Less rest = (less, b)
    by Equal rest = (less, b.1)
    by Greater rest = (b.0, rest)

pub with_row_rises : (xs : List Held) (h : Held) → AreRising xs → AreRising (with_row xs h)
with_row_rises [] h r = one_more h [] tt none_rising
with_row_rises (x ∷ xs) h r = by (key_order h.update.key x.update.key) refl (with_row_rises xs h (tail_rising x xs r))
  where
    by : (o : Ordering) → key_order h.update.key x.update.key ≡ o → AreRising (with_row xs h) → AreRising (match_ordering o (h ∷ x ∷ xs) (h ∷ xs) (x ∷ with_row xs h))
    by Less is rest = one_more h (x ∷ xs) (is, below_all h.update.key x.update.key xs is (head_below x xs r)) r
    by Equal is rest = one_more h xs (below_same h.update.key x.update.key xs (exact_keys h.update.key x.update.key is) (head_below x xs r)) (tail_rising x xs r)
    by Greater is rest = one_more x (with_row xs h) (below_with_row x.update.key xs h (keys_total.antisymm x.update.key h.update.key ∙ ap ordering_reverse is) (head_below x xs r)) rest

-- ---- rows fewer

pub fewer_rise : (test : Key → Bool) (rows : List Held) → AreRising rows → AreRising (filter (λ h. test h.update.key) rows)
fewer_rise test rows r = filtered_rise key_order (λ (h : Held). h.update.key) (λ h. test h.update.key) rows r

stripped_rises : (o : Option Oid) (rows : List Held) → AreRising rows → AreRising (stripped o rows)
stripped_rises None rows r = r
stripped_rises (Some o) rows r = fewer_rise (λ k. not (goes_with o k)) rows r

pub put_rises : (rows : List Held) (h : Held) → AreRising rows → AreRising (put rows h)
put_rises rows h r = stripped_rises (killed_by h.update.key) (with_row rows h) (with_row_rises rows h r)

pub puts_rise : (writes rows : List Held) → AreRising rows → AreRising (fold put rows writes)
puts_rise [] rows r = r
puts_rise (h ∷ hs) rows r = puts_rise hs (put rows h) (put_rises rows h r)

pub removals_rise : (removed : List Oid) (rows : List Held) → AreRising rows → AreRising (fold without_object rows removed)
removals_rise [] rows r = r
removals_rise (o ∷ os) rows r = removals_rise os (without_object rows o) (fewer_rise (λ k. not (is_row_of o k)) rows r)

pub rows_after_rise : (removed : List Oid) (writes rows : List Held) → AreRising rows → AreRising (rows_after removed writes rows)
rows_after_rise removed writes rows r = removals_rise removed (fold put rows writes) (puts_rise writes rows r)

-- a row that stands behind a put is that row, or stood before
pub of_with_row : (rows : List Held) (x h : Held) → Member h (with_row rows x) → (h ≡ x) ⊎ Member h rows
of_with_row [] x h (inl e) = inl e
of_with_row [] x h (inr m) = absurd m
of_with_row (y ∷ ys) x h m = by (key_order x.update.key y.update.key) m (of_with_row ys x h)
  where
    by : (o : Ordering) → Member h (match_ordering o (x ∷ y ∷ ys) (x ∷ ys) (y ∷ with_row ys x)) → (Member h (with_row ys x) → (h ≡ x) ⊎ Member h ys) → (h ≡ x) ⊎ Member h (y ∷ ys)
    by Less (inl e) rest = inl e
    by Less (inr n) rest = inr n
    by Equal (inl e) rest = inl e
    by Equal (inr n) rest = inr (inr n)
    by Greater (inl e) rest = inr (inl e)
    by Greater (inr n) rest = ⊎_elim (λ e. inl e) (λ o. inr (inr o)) (rest n)
