-- Where a row is written among rows.
use Rattle.std.proofs.Common.{◌≡◌, ℕ, ◌+◌, ◌<◌, ◌≤◌, zero, suc, List, [], ◌∷◌, ◌++◌, length, get_or, take, drop, slice_set, refl, sym, ap, ◌∙◌, subst, arith, add-one, Bor}
use Rattle.std.specs.Prelude.{insert}
use Rattle.std.specs.List.{AllByRecursion}
use Rattle.std.specs.declared.cmp.Ordering.TheVariants.{Less, Equal, Greater}
use Rattle.std.proofs.lemmas.List.{take-append-drop, take_all, drop_more}
use Rattle.std.proofs.Math.Seq.{take-length, drop-length}
use Rattle.adr_model.specs.Update.{Key, key_order}
use Rattle.adr_model.specs.Store.{Held, with_row}
use Rattle.adr_update.specs.Referents.{referents}
use Rattle.adr_update.proofs.Referred.{length_referents, referent_at}
use Rattle.adr_state.specs.Gap.{IsPlaceOf, IsGapFor}

-- the key is above those of all these rows
abbrev pub IsAbove : Key → List Held → Type 0
IsAbove key rows = AllByRecursion (λ x. key_order key x.update.key ≡ Greater) rows

above_more : (key : Key) (rows : List Held) (i : ℕ) (x : Held) → i < length rows → x ≡ get_or rows i x → IsAbove key (take i rows) → key_order key x.update.key ≡ Greater → IsAbove key (take (i + 1) rows)
above_more key rows i x lt is above here = rw (add-one i) (onward rows i lt is above)
  where
    onward : (xs : List Held) (j : ℕ) → j < length xs → x ≡ get_or xs j x → IsAbove key (take j xs) → IsAbove key (take (suc j) xs)
    onward [] j l e a = absurd (omega (arith, l))
    onward (y ∷ ys) zero l e a = (subst (λ z. key_order key z.update.key ≡ Greater) e here, tt)
    onward (y ∷ ys) (suc j) l e a = (a.0, onward ys j (omega (arith, l)) e a.1)

-- rows below the key are passed
behind : (front rest : List Held) (h : Held) → IsAbove h.update.key front → with_row (front ++ rest) h ≡ front ++ with_row rest h
behind [] rest h a = refl
behind (x ∷ xs) rest h a = rw a.0 (ap (λ t. x ∷ t) (behind xs rest h a.1))

-- behind these rows the row is written among the others
written : (rows : List Held) (i : ℕ) (h : Held) → IsAbove h.update.key (take i rows) → with_row rows h ≡ take i rows ++ with_row (drop i rows) h
written rows i h a = ap (λ xs. with_row xs h) (sym (take-append-drop i rows)) ∙ behind (take i rows) (drop i rows) h a

set_at : (rows : List Held) (i : ℕ) (h : Held) → i < length rows → take i rows ++ h ∷ drop (i + 1) rows ≡ slice_set rows i h
set_at rows i h lt = rw (add-one i) (onward rows i lt)
  where
    onward : (xs : List Held) (j : ℕ) → j < length xs → take j xs ++ h ∷ drop (suc j) xs ≡ slice_set xs j h
    onward [] j l = absurd (omega (arith, l))
    onward (y ∷ ys) zero l = refl
    onward (y ∷ ys) (suc j) l = ap (λ t. y ∷ t) (onward ys j (omega (arith, l)))

first_less : (h x : Held) (xs : List Held) → key_order h.update.key x.update.key ≡ Less → with_row (x ∷ xs) h ≡ h ∷ x ∷ xs
first_less h x xs e = rw e refl

first_equal : (h x : Held) (xs : List Held) → key_order h.update.key x.update.key ≡ Equal → with_row (x ∷ xs) h ≡ h ∷ xs
first_equal h x xs e = rw e refl

module _ (key : Key) (rows : List Held) (i : ℕ) (x : Held) (lt : i < length rows) (is : x ≡ get_or rows i x) (above : IsAbove key (take i rows)) where
  left : drop i rows ≡ x ∷ drop (i + 1) rows
  left = drop_more rows i x lt ∙ ap (λ y. y ∷ drop (i + 1) rows) (sym is)

  onto : (h : Held) → h.update.key ≡ key → with_row rows h ≡ take i rows ++ with_row (x ∷ drop (i + 1) rows) h
  onto h of = written rows i h (subst (λ k. IsAbove k (take i rows)) (sym of) above) ∙ ap (λ xs. take i rows ++ with_row xs h) left

  place_at : key_order key x.update.key ≡ Equal → IsPlaceOf rows key i
  place_at here = record { in_range = lt; takes = by }
    where
      by : (h : Held) → h.update.key ≡ key → with_row rows h ≡ slice_set rows i h
      by h of = onto h of ∙ ap (λ xs. take i rows ++ xs) (first_equal h x (drop (i + 1) rows) (subst (λ k. key_order k x.update.key ≡ Equal) (sym of) here)) ∙ set_at rows i h lt

  gap_at : key_order key x.update.key ≡ Less → IsGapFor rows key i
  gap_at here = record { in_range = omega (arith, lt); enters = by }
    where
      by : (h : Held) → h.update.key ≡ key → with_row rows h ≡ insert rows i h
      by h of = onto h of ∙ ap (λ xs. take i rows ++ xs) (first_less h x (drop (i + 1) rows) (subst (λ k. key_order k x.update.key ≡ Less) (sym of) here) ∙ ap (λ xs. h ∷ xs) (sym left))

pub gap_at_end : (key : Key) (rows : List Held) (i : ℕ) → length rows ≤ i → IsAbove key (take i rows) → IsGapFor rows key (length rows)
gap_at_end key rows i ge above = record { in_range = omega arith; enters = by }
  where
    all : IsAbove key (take (length rows) rows)
    all = subst (IsAbove key) (take_all i rows ge ∙ sym (take-length rows)) above

    none : drop (length rows) rows ≡ []
    none = drop-length rows

    by : (h : Held) → h.update.key ≡ key → with_row rows h ≡ insert rows (length rows) h
    by h of = written rows (length rows) h (subst (λ k. IsAbove k (take (length rows) rows)) (sym of) all)
        ∙ ap (λ xs. take (length rows) rows ++ xs) (ap (λ xs. with_row xs h) none ∙ ap (λ xs. h ∷ xs) (sym none))

-- the same of rows that are referred to
module _ (key : Key) (rows : List (Bor Held)) (i : ℕ) (x : Bor Held) (lt : i < length rows) (is : x ≡ get_or rows i x) (above : IsAbove key (take i (referents rows))) where
  within : i < length (referents rows)
  within = subst (λ n. i < n) (sym (length_referents rows)) lt

  pub gap_here : key_order key x.now.update.key ≡ Less → IsGapFor (referents rows) key i
  gap_here = gap_at key (referents rows) i x.now within (referent_at rows i x lt is) above

  pub place_here : key_order key x.now.update.key ≡ Equal → IsPlaceOf (referents rows) key i
  place_here = place_at key (referents rows) i x.now within (referent_at rows i x lt is) above

  pub above_here : key_order key x.now.update.key ≡ Greater → IsAbove key (take (i + 1) (referents rows))
  above_here = above_more key (referents rows) i x.now within (referent_at rows i x lt is) above
