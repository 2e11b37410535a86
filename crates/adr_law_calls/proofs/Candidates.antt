-- Each row that may be sent is in a candidate, and candidates rise.
use Rattle.std.proofs.Common.{◌≡◌, ◌⊎◌, inl, inr, ⊎_elim, ℕ, ◌<◌, List, [], ◌∷◌, refl, sym, ◌∙◌, subst, ap, arith, fold, map, filter}
use Rattle.std.specs.Ordering.{match_ordering, nat_cmp, MatchOrdering}
use Rattle.std.specs.declared.cmp.Ordering.{Ordering}
use Rattle.std.specs.declared.cmp.Ordering.TheVariants.{Less, Equal, Greater}
use Rattle.std.specs.BTreeMap.{insert_entry}
use Rattle.std.proofs.lemmas.Cmp.{ranked}
use Rattle.std.proofs.lemmas.Map.Lookups.{exact_unsigned}
use Rattle.adr_values.specs.declared.stamp.Unit.{Unit as Named}
use Rattle.adr_values.specs.Order.{unit_order}
use Rattle.adr_values.proofs.Units.{units_total, exact_units}
use Rattle.adr_model.specs.Member.{Member, Each}
use Rattle.adr_model.specs.Update.{unit_of, same_unit}
use Rattle.adr_model.specs.Store.{Held}
use Rattle.adr_model.specs.Change.{Item}
use Rattle.adr_model.specs.Serve.{last_local, units_of, item_of, by_last_local}
use Rattle.adr_model.proofs.Members.{in_filter, member_mapped, mapped_member}
use Rattle.adr_law_knowledge.proofs.Lists.{in_sorted, of_sorted}
use Rattle.adr_law_calls.proofs.Rows.{updated}
use Rattle.adr_law_calls.proofs.Locals.{units_same}
use Rattle.adr_law_calls.proofs.Tables.{entry_from, entry_there, entry_stays}

-- ---- units

pub unit_there : (rows : List Held) (x : Held) → Member x rows → Member (unit_of x.update.key) (units_of rows)
unit_there rows x m = in_sorted unit_order units_total exact_units (map (λ (h : Held). unit_of h.update.key) rows) [] (unit_of x.update.key) (member_mapped (λ (h : Held). unit_of h.update.key) rows x m)

pub unit_of_row : (rows : List Held) (u : Named) → Member u (units_of rows) → (x : Held) × Member x rows × (u ≡ unit_of x.update.key)
unit_of_row rows u m = ⊎_elim (λ i. mapped_member (λ (h : Held). unit_of h.update.key) rows u i) (λ i. absurd i) (of_sorted unit_order units_total exact_units (map (λ (h : Held). unit_of h.update.key) rows) [] u m)

-- ---- entries by numbers

abbrev pub Rises : List (ℕ × Item) → Type 0
Rises [] = Unit {0}
Rises (x ∷ xs) = Each (λ (y : ℕ × Item). x.0 < y.0) xs × Rises xs

rises_inserted : (t : List (ℕ × Item)) (n : ℕ) (i : Item) → Rises t → Rises (insert_entry nat_cmp t n i)
rises_inserted [] n i r = ((λ y m. absurd m), tt)
rises_inserted (x ∷ xs) n i r = by (nat_cmp n x.0) (ranked n x.0 (nat_cmp n x.0) refl) (rises_inserted xs n i r.1)
  where
    by : (o : Ordering) → MatchOrdering o (n < x.0) (n ≡ x.0) (x.0 < n) → Rises (insert_entry nat_cmp xs n i) → Rises (match_ordering o ((n, i) ∷ x ∷ xs) ((x.0, i) ∷ xs) (x ∷ insert_entry nat_cmp xs n i))
    by Less lt rest = (above, r)
      where
        above : Each (λ (y : ℕ × Item). n < y.0) (x ∷ xs)
        above y (inl e) = subst (λ (z : ℕ × Item). n < z.0) (sym e) lt
        above y (inr m) = omega (arith, lt, r.0 y m)
    by Equal eq rest = (r.0, r.1)
    by Greater gt rest = ((λ y m. ⊎_elim (λ e. omega (arith, ap (λ (z : ℕ × Item). z.0) e, gt)) (λ j. r.0 y j) (entry_from nat_cmp exact_unsigned xs n i y m)), rest)

-- ---- candidates

module _ (all rows : List Held) where
  abbrev pub entry_of : Named → ℕ × Item
  entry_of u = (last_local all u, item_of rows u)

  abbrev with_unit : List (ℕ × Item) → Named → List (ℕ × Item)
  with_unit t u = insert_entry nat_cmp t (last_local all u) (item_of rows u)

  gathered : (us : List Named) (t : List (ℕ × Item)) (u : Named)
      → Each (λ (v : Named). last_local all u ≡ last_local all v → u ≡ v) us
      → Member (entry_of u) t ⊎ Member u us → Member (entry_of u) (fold with_unit t us)
  gathered [] t u one (inl m) = m
  gathered [] t u one (inr m) = absurd m
  gathered (v ∷ vs) t u one (inl m) = gathered vs (with_unit t v) u (λ w j. one w (inr j))
      (inl (⊎_elim (λ j. j) (λ e. subst (λ (w : Named). Member (entry_of w) (with_unit t v)) (sym (one v (inl refl) e)) (entry_there nat_cmp exact_unsigned t (last_local all v) (item_of rows v))) (entry_stays nat_cmp exact_unsigned t (last_local all v) (item_of rows v) (entry_of u) m)))
  gathered (v ∷ vs) t u one (inr (inl e)) = gathered vs (with_unit t v) u (λ w j. one w (inr j))
      (inl (subst (λ (w : Named). Member (entry_of w) (with_unit t v)) (sym e) (entry_there nat_cmp exact_unsigned t (last_local all v) (item_of rows v))))
  gathered (v ∷ vs) t u one (inr (inr m)) = gathered vs (with_unit t v) u (λ w j. one w (inr j)) (inr m)

  risen : (us : List Named) (t : List (ℕ × Item)) → Rises t → Rises (fold with_unit t us)
  risen [] t r = r
  risen (u ∷ us) t r = risen us (with_unit t u) (rises_inserted t (last_local all u) (item_of rows u) r)

  pub candidates_rise : Rises (by_last_local all rows)
  candidates_rise = risen (units_of rows) [] tt

  -- the candidate of a row
  pub candidate_there : ((x y : Held) → Member x rows → Member y rows → last_local all (unit_of x.update.key) ≡ last_local all (unit_of y.update.key) → unit_of x.update.key ≡ unit_of y.update.key)
      → (x : Held) → Member x rows → Member (entry_of (unit_of x.update.key)) (by_last_local all rows)
  candidate_there alone x m = gathered (units_of rows) [] (unit_of x.update.key) one (inr (unit_there rows x m))
    where
      one : (v : Named) → Member v (units_of rows) → last_local all (unit_of x.update.key) ≡ last_local all v → unit_of x.update.key ≡ v
      one v i e = let t = unit_of_row rows v i in alone x t.0 m t.1 (e ∙ ap (last_local all) t.2) ∙ sym t.2

  gathered_from : (us : List Named) (t : List (ℕ × Item)) (e : ℕ × Item) → Member e (fold with_unit t us) → Member e t ⊎ ((u : Named) × Member u us × (e ≡ entry_of u))
  gathered_from [] t e m = inl m
  gathered_from (u ∷ us) t e m = ⊎_elim
      (λ i. ⊎_elim (λ s. inr (u, inl refl, s)) (λ j. inl j) (entry_from nat_cmp exact_unsigned t (last_local all u) (item_of rows u) e i))
      (λ v. inr (v.0, inr v.1, v.2)) (gathered_from us (with_unit t u) e m)

  -- what a candidate is of
  pub candidate_from : (e : ℕ × Item) → Member e (by_last_local all rows) → (x : Held) × Member x rows × (e ≡ entry_of (unit_of x.update.key))
  candidate_from e m = ⊎_elim (λ i. absurd i) (λ u. let x = unit_of_row rows u.0 u.1 in (x.0, x.1, u.2 ∙ ap entry_of x.2)) (gathered_from (units_of rows) [] e m)

  pub row_in_item : (x : Held) → Member x rows → Member x.update (item_of rows (unit_of x.update.key)).rows
  row_in_item x m = updated (filter (λ (h : Held). same_unit (unit_of h.update.key) (unit_of x.update.key)) rows) x
      (in_filter (λ (h : Held). same_unit (unit_of h.update.key) (unit_of x.update.key)) rows x m (units_same (unit_of x.update.key) (unit_of x.update.key) refl))
