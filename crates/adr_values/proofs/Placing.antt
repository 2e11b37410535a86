-- What a search among cursors finds, and what is written at the place that it finds.
use Rattle.std.proofs.Common.{◌≡◌, ℕ, zero, suc, ◌≤◌, ◌<◌, ◌+◌, Bool, true, false, cond, List, [], ◌∷◌, length, get_or, set, refl, sym, ap, subst, ◌∙◌, arith, Result, Ok, Err, IfOk, IfErr}
use Rattle.std.proofs.lemmas.Bool.{le-leb, lt-leb}
use Rattle.std.specs.List.{insert}
use Rattle.std.specs.List.Sorted.{IsSearchInRange, IsBinarySearchResult, IsNonDecreasingBy, IsSortedBy}
use Rattle.std.specs.Map.{keys_of}
use Rattle.std.specs.Ordering.{is_lt, ordering_index}
use Rattle.std.specs.BTreeMap.{insert_entry}
use Rattle.std.specs.declared.cmp.Ordering.TheVariants.{Less, Equal, Greater}
use Rattle.std.proofs.lemmas.Cmp.{nat_list_cmp_total}
use Rattle.std.proofs.lemmas.List.{get_or-map, get_or_default}
use Rattle.std.proofs.lemmas.List.Edits.{length-insert}
use Rattle.std.proofs.Math.ListN.{length-set}
use Rattle.std.proofs.lemmas.List.Sorted.{searchable_from_sorted}
use Rattle.std.proofs.lemmas.Map.Keys.{Less-from_sorted}
use Rattle.std.proofs.lemmas.Map.Entries.{length-keys_of}
use Rattle.std.proofs.lemmas.Map.Lookups.{exact_bytes}
use Rattle.adr_values.specs.Order.{identifier_order}
use Rattle.adr_values.specs.Vector.{Cursors, at, covers, raised, cursor_limit, IsVector}
use Rattle.adr_values.specs.Place.{identifier_at, AreLessBefore, IsAt, IsGapFor}
use Rattle.adr_values.proofs.Cursors.{IsRising, FromOne, turned, turned_back, itself, below_all, at_below, head_below, tail_rising, rising-insert_entry, from_one-insert_entry}

-- ---- one place further

later_before : (c : List ℕ × ℕ) (cs : Cursors) (inv : List ℕ) (i : ℕ) → AreLessBefore (c ∷ cs) inv (suc i) → AreLessBefore cs inv i
later_before c cs inv i h j lt = h (suc j) (omega arith)

later_at : (c : List ℕ × ℕ) (cs : Cursors) (inv : List ℕ) (i : ℕ) → IsAt (c ∷ cs) inv (suc i) → IsAt cs inv i
later_at c cs inv i h = record { in_range = omega (arith, h.in_range); is_there = h.is_there; before = later_before c cs inv i h.before }

later_gap : (c : List ℕ × ℕ) (cs : Cursors) (inv : List ℕ) (i : ℕ) → IsGapFor (c ∷ cs) inv (suc i) → IsGapFor cs inv i
later_gap c cs inv i h = record { in_range = omega (arith, h.in_range); before = later_before c cs inv i h.before; after = λ lt. h.after (omega arith) }

-- the head is less than what is placed behind it
passed : (c : List ℕ × ℕ) (cs : Cursors) (inv : List ℕ) (i : ℕ) → AreLessBefore (c ∷ cs) inv (suc i) → identifier_order inv c.0 ≡ Greater
passed c cs inv i h = turned_back c.0 inv (h 0 (omega arith))

here : (c : List ℕ × ℕ) (inv : List ℕ) → c.0 ≡ inv → identifier_order inv c.0 ≡ Equal
here c inv h = ap (identifier_order inv) h ∙ itself inv

-- ---- the number at a place, and in a gap

pub at_place : (cs : Cursors) (inv : List ℕ) (i : ℕ) → IsAt cs inv i → at cs inv ≡ (get_or cs i ([], 0)).1
at_place [] inv i h = absurd (omega (arith, h.in_range))
at_place (c ∷ cs) inv zero h = rw (here c inv h.is_there) refl
at_place (c ∷ cs) inv (suc i) h = rw (passed c cs inv i h.before) (at_place cs inv i (later_at c cs inv i h))

pub at_gap : (cs : Cursors) (inv : List ℕ) (i : ℕ) → IsRising cs → IsGapFor cs inv i → at cs inv ≡ 0
at_gap [] inv i s h = refl
at_gap (c ∷ cs) inv zero s h = let less = h.after (omega arith) in at_below inv (c ∷ cs) (less, below_all inv c.0 cs less (head_below c cs s))
at_gap (c ∷ cs) inv (suc i) s h = rw (passed c cs inv i h.before) (at_gap cs inv i (tail_rising c cs s) (later_gap c cs inv i h))

-- ---- writing

pub set_place : (cs : Cursors) (inv : List ℕ) (usn i : ℕ) → IsAt cs inv i → set cs i (inv, usn) ≡ insert_entry identifier_order cs inv usn
set_place [] inv usn i h = absurd (omega (arith, h.in_range))
set_place (c ∷ cs) inv usn zero h = rw (here c inv h.is_there) (ap (λ (k : List ℕ). (k, usn) ∷ cs) (sym h.is_there))
set_place (c ∷ cs) inv usn (suc i) h = rw (passed c cs inv i h.before) (ap (λ (l : Cursors). c ∷ l) (set_place cs inv usn i (later_at c cs inv i h)))

pub insert_gap : (cs : Cursors) (inv : List ℕ) (usn i : ℕ) → IsGapFor cs inv i → insert cs i (inv, usn) ≡ insert_entry identifier_order cs inv usn
insert_gap [] inv usn zero h = refl
insert_gap [] inv usn (suc i) h = absurd (omega (arith, h.in_range))
insert_gap (c ∷ cs) inv usn zero h = rw (h.after (omega arith)) refl
insert_gap (c ∷ cs) inv usn (suc i) h = rw (passed c cs inv i h.before) (ap (λ (l : Cursors). c ∷ l) (insert_gap cs inv usn i (later_gap c cs inv i h)))

-- ---- the search

module _ (cs : Cursors) (s : IsRising cs) (inv : List ℕ) where
  neighbours : (k : ℕ) (d : List ℕ × ℕ) → k + 1 < length cs → identifier_order (get_or cs k d).0 (get_or cs (k + 1) d).0 ≡ Less
  neighbours k d lt =
      let first : get_or (keys_of cs) k d.0 ≡ (get_or cs k d).0 = get_or-map (λ (c : List ℕ × ℕ). c.0) cs k d d.0 (omega arith) in
      let second : get_or (keys_of cs) (k + 1) d.0 ≡ (get_or cs (k + 1) d).0 = get_or-map (λ (c : List ℕ × ℕ). c.0) cs (k + 1) d d.0 lt in
      let less = Less-from_sorted identifier_order (keys_of cs) k (k + 1) d.0 s (omega arith) (omega (arith, length-keys_of cs)) in
      rw (first, second) at less

  sorted : IsSortedBy (λ (a b : List ℕ × ℕ). is_lt (identifier_order a.0 b.0)) cs
  sorted k d ge lt = ap is_lt (turned_back (get_or cs k d).0 (get_or cs (k + 1) d).0 (neighbours k d lt))

  compared : IsNonDecreasingBy (λ (c : List ℕ × ℕ). ordering_index (identifier_order c.0 inv)) cs
  compared = searchable_from_sorted nat_list_cmp_total (λ (c : List ℕ × ℕ). c.0) cs inv sorted

  less_before : (i j : ℕ) → j < i → i < length cs → identifier_order (identifier_at cs j) (identifier_at cs i) ≡ Less
  less_before i j lt le =
      let first : get_or (keys_of cs) j [] ≡ identifier_at cs j = get_or-map (λ (c : List ℕ × ℕ). c.0) cs j ([], 0) [] (omega arith) in
      let second : get_or (keys_of cs) i [] ≡ identifier_at cs i = get_or-map (λ (c : List ℕ × ℕ). c.0) cs i ([], 0) [] le in
      let less = Less-from_sorted identifier_order (keys_of cs) j i [] s lt (omega (arith, length-keys_of cs)) in
      rw (first, second) at less

  pub searched : (r : Result ℕ ℕ) → IsSearchInRange r (length cs) → IsBinarySearchResult (λ c. identifier_order c.0 inv) cs r → IfOk r (IsAt cs inv) × IfErr r (IsGapFor cs inv)
  searched (Ok i) in_range equal =
      let same : identifier_at cs i ≡ inv = exact_bytes (identifier_at cs i) inv (equal ([], 0)) in
      (record { in_range = in_range; is_there = same; before = λ j lt. subst (λ (x : List ℕ). identifier_order (identifier_at cs j) x ≡ Less) same (less_before i j lt in_range) }, tt)
  searched (Err i) in_range parted = (
    tt,
    record {
      in_range = in_range;
      before = λ j lt. (parted compared).0 j ([], 0) (omega arith) lt;
      after = λ lt. turned (identifier_at cs i) inv ((parted compared).1 i ([], 0) (omega arith) lt);
    },
  )

-- ---- the vector that is written

pub written_over : (cs : Cursors) (inv : List ℕ) (usn i : ℕ) → IsVector cs → 1 ≤ usn → IsAt cs inv i → IsVector (set cs i (inv, usn))
written_over cs inv usn i v one h = record {
  rising = subst IsRising (sym (set_place cs inv usn i h)) (rising-insert_entry cs inv usn v.rising);
  from_one = subst FromOne (sym (set_place cs inv usn i h)) (from_one-insert_entry cs inv usn one v.from_one);
  few = rw (length-set cs i (inv, usn)) v.few;
}

pub written_between : (cs : Cursors) (inv : List ℕ) (usn i : ℕ) → IsVector cs → 1 ≤ usn → length cs < cursor_limit → IsGapFor cs inv i → (b : Bool) → IsVector (cond b (insert cs i (inv, usn)) cs)
written_between cs inv usn i v one room h false = v
written_between cs inv usn i v one room h true = record {
  rising = subst IsRising (sym (insert_gap cs inv usn i h)) (rising-insert_entry cs inv usn v.rising);
  from_one = subst FromOne (sym (insert_gap cs inv usn i h)) (from_one-insert_entry cs inv usn one v.from_one);
  few = omega (arith, length-insert cs i (inv, usn) h.in_range);
}

-- ---- raising

pub raised_seen : (cs : Cursors) (inv : List ℕ) (usn : ℕ) → usn ≤ at cs inv → cs ≡ raised cs inv usn
raised_seen cs inv usn h = rw (le-leb usn (at cs inv) h) refl

pub raised_new : (cs : Cursors) (inv : List ℕ) (usn : ℕ) → at cs inv < usn → insert_entry identifier_order cs inv usn ≡ raised cs inv usn
raised_new cs inv usn h = rw (lt-leb usn (at cs inv) h) refl

pub raised_over : (cs : Cursors) (inv : List ℕ) (usn i : ℕ) (c : List ℕ × ℕ) → IsAt cs inv i → c ≡ get_or cs i c → c.1 < usn → set cs i (inv, usn) ≡ raised cs inv usn
raised_over cs inv usn i c h e lt =
    let value = at_place cs inv i h in
    let read = get_or_default cs i c ([], 0) h.in_range in
    let same : c.1 ≡ at cs inv = ap (λ (d : List ℕ × ℕ). d.1) (e ∙ read) ∙ sym value in
    set_place cs inv usn i h ∙ raised_new cs inv usn (omega arith)

pub raised_under : (cs : Cursors) (inv : List ℕ) (usn i : ℕ) (c : List ℕ × ℕ) → IsAt cs inv i → c ≡ get_or cs i c → usn ≤ c.1 → cs ≡ raised cs inv usn
raised_under cs inv usn i c h e le =
    let value = at_place cs inv i h in
    let read = get_or_default cs i c ([], 0) h.in_range in
    let same : c.1 ≡ at cs inv = ap (λ (d : List ℕ × ℕ). d.1) (e ∙ read) ∙ sym value in
    raised_seen cs inv usn (omega arith)

pub raised_between : (cs : Cursors) (inv : List ℕ) (usn i : ℕ) → IsRising cs → IsGapFor cs inv i → 1 ≤ usn → insert cs i (inv, usn) ≡ raised cs inv usn
raised_between cs inv usn i s h one = insert_gap cs inv usn i h ∙ raised_new cs inv usn (omega (arith, at_gap cs inv i s h))

-- in a gap there is one cursor more
pub length_between : (cs : Cursors) (inv : List ℕ) (usn i : ℕ) → IsRising cs → IsGapFor cs inv i → 1 ≤ usn → length (raised cs inv usn) ≡ length cs + 1
length_between cs inv usn i s h one = ap length (sym (raised_between cs inv usn i s h one)) ∙ length-insert cs i (inv, usn) h.in_range

-- at a cursor there is none more
pub length_over : (cs : Cursors) (inv : List ℕ) (usn i : ℕ) → IsAt cs inv i → length (raised cs inv usn) ≡ length cs
length_over cs inv usn i h = by (covers cs inv usn)
  where
    by : (b : Bool) → length (cond b cs (insert_entry identifier_order cs inv usn)) ≡ length cs
    by true = refl
    by false = ap length (sym (set_place cs inv usn i h)) ∙ length-set cs i (inv, usn)
