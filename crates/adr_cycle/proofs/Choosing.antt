-- The items that may be sent: which one stands under a number, and that they rise from the mark by the last local USNs of units that are held.
use Rattle.std.proofs.Common.{◌≡◌, inl, inr, ⊎_elim, ℕ, ◌<◌, ◌≤◌, List, [], ◌∷◌, Bool, true, false, cond, ◌&&◌, Option, Some, None, ◌==◌, nat_lt, refl, sym, ap, ◌∙◌, subst, map, filter, fold, option_map, arith}
use Rattle.std.specs.List.{list_any}
use Rattle.std.specs.Option.{option_or}
use Rattle.std.specs.Ordering.{nat_cmp, is_eq}
use denote.Ref.{Bor}
use Rattle.std.specs.Map.{lookup}
use Rattle.std.specs.BTreeMap.{insert_entry, is_at}
use Rattle.std.proofs.lemmas.Bool.{ltb-true, lt-ltb, eqb-true, eq-eqb, and_parts}
use Rattle.std.proofs.lemmas.Cmp.{tied_itself}
use Rattle.std.proofs.lemmas.Map.Views.{tells_apart}
use Rattle.adr_values.specs.declared.stamp.Unit.{Unit as Named}
use Rattle.adr_values.specs.Order.{unit_order}
use Rattle.adr_values.proofs.Units.{units_total, exact_units}
use Rattle.adr_values.specs.Vector.{Cursors}
use Rattle.adr_values.specs.declared.mark.Mark.{Mark}
use Rattle.adr_model.specs.Member.{Member, Each}
use Rattle.adr_model.specs.Update.{same_unit, unit_of}
use Rattle.adr_model.specs.Store.{Held, updates_of}
use Rattle.adr_model.specs.Change.{Item}
use Rattle.adr_model.specs.Serve.{candidates, is_above_mark, is_unseen, item_of, last_local, sendable, units_of}
use Rattle.adr_model.proofs.Members.{in_filter, of_filter, mapped_member, member_mapped, one_passes}
use Rattle.adr_law_knowledge.specs.Rises.{Rises}
use Rattle.adr_law_knowledge.proofs.Lists.{filter_rises, in_sorted, not_both_ways, of_sorted, same_members_one_list, sorted_rises}
use Rattle.adr_update.specs.Referents.{referents}
use Rattle.adr_update.specs.Sought.{IsNextLocal, units_at}
use Rattle.adr_cycle.specs.Candidates.{some_item, unseen_of}
use Rattle.adr_cycle.proofs.Numbered.{RisesFrom, at_number, insert_numbers, insert_rises, itself, looked, next, next_is, next_none}

-- ---- the units of rows

abbrev of_row : Held → Named
of_row h = unit_of h.update.key

held_unit : (hs : List Held) (unit : Named) → Member unit (units_of hs) → (h : Held) × Member h hs × (unit ≡ of_row h)
held_unit hs unit m = mapped_member of_row hs unit (⊎_elim (λ n. n) (λ n. absurd n) (of_sorted unit_order units_total exact_units (map of_row hs) [] unit m))

unit_held : (hs : List Held) (h : Held) → Member h hs → Member (of_row h) (units_of hs)
unit_held hs h m = in_sorted unit_order units_total exact_units (map of_row hs) [] (of_row h) (member_mapped of_row hs h m)

pub units_rise : (hs : List Held) → Rises unit_order (units_of hs)
units_rise hs = sorted_rises unit_order units_total exact_units (map of_row hs) [] tt

is_own_unit : (unit : Named) → same_unit unit unit ≡ true
is_own_unit unit = ap is_eq (tied_itself units_total unit)

-- ---- whether there are rows

abbrev is_some_row : List Held → Bool
is_some_row [] = false
is_some_row (h ∷ hs) = true

some_row : (hs : List Held) → is_some_row hs ≡ true → (h : Held) × Member h hs
some_row [] is = absurd (cc)
some_row (h ∷ hs) is = (h, inl refl)

has_row : (hs : List Held) (h : Held) → Member h hs → is_some_row hs ≡ true
has_row [] h m = absurd m
has_row (x ∷ hs) h m = refl

module _ (rows : List Held) (from : Mark) (asked : Cursors) where
  abbrev may_send : Held → Bool
  may_send h = is_above_mark from rows h && is_unseen from asked h

  -- the rows of a unit among those that may be sent
  abbrev own : Named → List Held
  own unit = filter (λ h. same_unit (of_row h) unit) (filter may_send rows)

  above : (unit : Named) → from.obj < last_local rows unit → (h : Held) → same_unit (of_row h) unit ≡ true → is_above_mark from rows h ≡ true
  above unit higher h same = ap (λ u. nat_lt from.obj (last_local rows u)) (tells_apart exact_units (of_row h) unit same) ∙ lt-ltb from.obj (last_local rows unit) higher

  either_order : (unit : Named) → from.obj < last_local rows unit → (hs : List Held)
      → filter (is_unseen from asked) (filter (λ h. same_unit (of_row h) unit) hs) ≡ filter (λ h. same_unit (of_row h) unit) (filter may_send hs)
  either_order unit higher [] = refl
  either_order unit higher (h ∷ hs) = by (same_unit (of_row h) unit) (is_unseen from asked h) (is_above_mark from rows h) refl refl refl (either_order unit higher hs)
    where
      units : List Held
      units = filter (λ k. same_unit (of_row k) unit) hs

      sent : List Held
      sent = filter may_send hs

      by : (o s a : Bool) → same_unit (of_row h) unit ≡ o → is_unseen from asked h ≡ s → is_above_mark from rows h ≡ a
          → filter (is_unseen from asked) units ≡ filter (λ k. same_unit (of_row k) unit) sent
          → filter (is_unseen from asked) (cond o (h ∷ units) units) ≡ filter (λ k. same_unit (of_row k) unit) (cond (a && s) (h ∷ sent) sent)
      by true true true x y z rest =
          ap (λ b. cond b (h ∷ filter (is_unseen from asked) units) (filter (is_unseen from asked) units)) y ∙ ap (λ hs. h ∷ hs) rest
          ∙ sym (ap (λ b. cond b (h ∷ filter (λ k. same_unit (of_row k) unit) sent) (filter (λ k. same_unit (of_row k) unit) sent)) x)
      by true true false x y z rest = let yes : is_above_mark from rows h ≡ true = above unit higher h x in cc
      by true false true x y z rest = ap (λ b. cond b (h ∷ filter (is_unseen from asked) units) (filter (is_unseen from asked) units)) y ∙ rest
      by true false false x y z rest = ap (λ b. cond b (h ∷ filter (is_unseen from asked) units) (filter (is_unseen from asked) units)) y ∙ rest
      by false true true x y z rest = rest ∙ sym (ap (λ b. cond b (h ∷ filter (λ k. same_unit (of_row k) unit) sent) (filter (λ k. same_unit (of_row k) unit) sent)) x)
      by false true false x y z rest = rest
      by false false true x y z rest = rest
      by false false false x y z rest = rest

  -- ---- the item under a number

  abbrev built : List (ℕ × Item) → List Named → List (ℕ × Item)
  built t units = fold (λ t unit. insert_entry nat_cmp t (last_local rows unit) (item_of (sendable rows from asked) unit)) t units

  abbrev last_item : Option Item → List Named → Option Item
  last_item o [] = o
  last_item o (unit ∷ units) = last_item (Some (item_of (sendable rows from asked) unit)) units

  abbrev of_number : ℕ → List Named → List Named
  of_number n units = filter (λ unit. is_at (nat_cmp n) (last_local rows unit)) units

  looked_up : (units : List Named) (t : List (ℕ × Item)) (n : ℕ) → lookup (is_at (nat_cmp n)) (built t units) ≡ last_item (lookup (is_at (nat_cmp n)) t) (of_number n units)
  looked_up [] t n = refl
  looked_up (u ∷ us) t n =
      looked_up us (insert_entry nat_cmp t (last_local rows u) (item_of (sendable rows from asked) u)) n
      ∙ ap (λ o. last_item o (of_number n us)) (looked t (last_local rows u) (item_of (sendable rows from asked) u) n) ∙ by (is_at (nat_cmp n) (last_local rows u))
    where
      by : (b : Bool) → last_item (cond b (Some (item_of (sendable rows from asked) u)) (lookup (is_at (nat_cmp n)) t)) (of_number n us)
          ≡ last_item (lookup (is_at (nat_cmp n)) t) (cond b (u ∷ of_number n us) (of_number n us))
      by true = refl
      by false = refl

  -- the item of the last of some units that has rows that the asker may lack
  abbrev pub chosen : Option Item → List Named → Option Item
  chosen o units = fold (λ o unit. option_or (some_item unit (unseen_of rows from asked unit)) o) o units

  chosen_is : (units : List Named) (o : Option Item) → Each (λ unit. from.obj < last_local rows unit) units → chosen o units ≡ last_item o (filter (λ unit. is_some_row (own unit)) units)
  chosen_is [] o higher = refl
  chosen_is (u ∷ us) o higher =
      ap (λ hs. chosen (option_or (some_item u hs) o) us) (either_order u (higher u (inl refl)) rows)
      ∙ by (own u) refl (λ p. chosen_is us p (λ v m. higher v (inr m)))
    where
      rest : List Named
      rest = filter (λ unit. is_some_row (own unit)) us

      by : (hs : List Held) → own u ≡ hs → ((p : Option Item) → chosen p us ≡ last_item p rest) → chosen (option_or (some_item u hs) o) us ≡ last_item o (cond (is_some_row hs) (u ∷ rest) rest)
      by [] is later = later o
      by (h ∷ hs) is later = later (some_item u (h ∷ hs)) ∙ ap (λ (ks : List Held). last_item (Some (record { unit = u; rows = updates_of ks })) rest) (sym is)

  number_is : (n : ℕ) (unit : Named) → (last_local rows unit == n) ≡ true → is_at (nat_cmp n) (last_local rows unit) ≡ true
  number_is n unit is = ap (λ m. is_at (nat_cmp n) m) (eqb-true (last_local rows unit) n is) ∙ itself n

  same_units : (n : ℕ) → filter (λ unit. is_some_row (own unit)) (units_at rows n) ≡ of_number n (units_of (sendable rows from asked))
  same_units n =
      same_members_one_list unit_order (not_both_ways unit_order units_total exact_units) _ _
      (filter_rises unit_order (λ unit. is_some_row (own unit)) (units_at rows n) (filter_rises unit_order (λ unit. last_local rows unit == n) (units_of rows) (units_rise rows)))
      (filter_rises unit_order (λ unit. is_at (nat_cmp n) (last_local rows unit)) (units_of (sendable rows from asked)) (units_rise (sendable rows from asked)))
      to back
    where
      to : Each (λ z. Member z (of_number n (units_of (sendable rows from asked)))) (filter (λ unit. is_some_row (own unit)) (units_at rows n))
      to z m =
          let t = of_filter (λ unit. is_some_row (own unit)) (units_at rows n) z m in
          let s = of_filter (λ unit. last_local rows unit == n) (units_of rows) z t.0 in
          let r = some_row (own z) t.1 in
          let q = of_filter (λ h. same_unit (of_row h) z) (sendable rows from asked) r.0 r.1 in
          let here : Member z (units_of (sendable rows from asked)) = subst (λ u. Member u (units_of (sendable rows from asked))) (tells_apart exact_units (of_row r.0) z q.1) (unit_held (sendable rows from asked) r.0 q.0) in
          in_filter (λ unit. is_at (nat_cmp n) (last_local rows unit)) (units_of (sendable rows from asked)) z here (number_is n z s.1)

      back : Each (λ z. Member z (filter (λ unit. is_some_row (own unit)) (units_at rows n))) (of_number n (units_of (sendable rows from asked)))
      back z m =
          let t = of_filter (λ unit. is_at (nat_cmp n) (last_local rows unit)) (units_of (sendable rows from asked)) z m in
          let r = held_unit (sendable rows from asked) z t.0 in
          let q = of_filter may_send rows r.0 r.1 in
          let there : Member z (units_of rows) = subst (λ u. Member u (units_of rows)) (sym r.2) (unit_held rows r.0 q.0) in
          let number : (last_local rows z == n) ≡ true = eq-eqb (last_local rows z) n (sym (at_number n (last_local rows z) t.1)) in
          let its : same_unit (of_row r.0) z ≡ true = ap (λ u. same_unit (of_row r.0) u) r.2 ∙ is_own_unit (of_row r.0) in
          let row : is_some_row (own z) ≡ true = has_row (own z) r.0 (in_filter (λ h. same_unit (of_row h) z) (sendable rows from asked) r.0 r.1 its) in
          in_filter (λ unit. is_some_row (own unit)) (units_at rows n) z (in_filter (λ unit. last_local rows unit == n) (units_of rows) z there number) row

  -- the item under a number is that of the last of its units that has one
  pub candidate_is : (n : ℕ) → from.obj < n → chosen None (units_at rows n) ≡ lookup (is_at (nat_cmp n)) (candidates rows from asked)
  candidate_is n higher =
      chosen_is (units_at rows n) None (λ u m. let t = eqb-true (last_local rows u) n (of_filter (λ unit. last_local rows unit == n) (units_of rows) u m).1 in omega arith)
      ∙ ap (last_item None) (same_units n)
      ∙ sym (looked_up (units_of (sendable rows from asked)) [] n)

  -- ---- the numbers of the items

  rises_built : (units : List Named) (t : List (ℕ × Item)) → Each (λ unit. from.obj < last_local rows unit) units → RisesFrom from.obj t → RisesFrom from.obj (built t units)
  rises_built [] t higher r = r
  rises_built (u ∷ us) t higher r =
      rises_built us (insert_entry nat_cmp t (last_local rows u) (item_of (sendable rows from asked) u)) (λ v m. higher v (inr m))
      (insert_rises from.obj t (last_local rows u) (item_of (sendable rows from asked) u) (higher u (inl refl)) r)

  pub candidates_rise : RisesFrom from.obj (candidates rows from asked)
  candidates_rise = rises_built (units_of (sendable rows from asked)) []
      (λ u m.
      let t = held_unit (sendable rows from asked) u m in
      let may = and_parts (is_above_mark from rows t.0) (is_unseen from asked t.0) (of_filter may_send rows t.0 t.1).1 in
      subst (λ v. from.obj < last_local rows v) (sym t.2) (ltb-true from.obj (last_local rows (of_row t.0)) may.0))
      tt

  -- it is the last local USN of a unit that is held
  abbrev IsLast : ℕ → Type 0
  IsLast n = (unit : Named) × (list_any (λ h. same_unit (of_row h) unit) rows ≡ true) × (last_local rows unit ≡ n)

  lasts_built : (units : List Named) (t : List (ℕ × Item)) → Each (λ unit. list_any (λ h. same_unit (of_row h) unit) rows ≡ true) units → Each (λ e. IsLast e.0) t → Each (λ e. IsLast e.0) (built t units)
  lasts_built [] t held lasts = lasts
  lasts_built (u ∷ us) t held lasts =
      lasts_built us (insert_entry nat_cmp t (last_local rows u) (item_of (sendable rows from asked) u)) (λ v m. held v (inr m))
      (insert_numbers IsLast t (last_local rows u) (item_of (sendable rows from asked) u) (u, held u (inl refl), refl) lasts)

  lasts : Each (λ e. IsLast e.0) (candidates rows from asked)
  lasts = lasts_built (units_of (sendable rows from asked)) []
      (λ u m.
      let t = held_unit (sendable rows from asked) u m in
      one_passes (λ h. same_unit (of_row h) u) rows t.0 (of_filter may_send rows t.0 t.1).0 (ap (λ v. same_unit (of_row t.0) v) t.2 ∙ is_own_unit (of_row t.0)))
      (λ e m. absurd m)

  -- the first item behind a number is that of the next number, or the first behind that
  pub next_found : (n k : ℕ) → IsNextLocal rows n (Some k)
      → next n (candidates rows from asked) ≡ option_or (option_map (λ i. (k, i)) (lookup (is_at (nat_cmp k)) (candidates rows from asked))) (next k (candidates rows from asked))
  next_found n k is =
      next_is from.obj n k (candidates rows from asked) candidates_rise is.0
      (λ e m below. let t = lasts e m in subst (λ j. k ≤ j) t.2 (is.1 t.0 t.1 (subst (λ j. n < j) (sym t.2) below)))

  pub next_ends : (n : ℕ) → IsNextLocal rows n None → next n (candidates rows from asked) ≡ None
  next_ends n is =
      next_none n (candidates rows from asked)
      (λ e m below. let t = lasts e m in is t.0 t.1 (subst (λ j. n < j) (sym t.2) below))

-- what is kept of references by what they refer to
pub kept_referents : (test : Held → Bool) (xs : List (Bor Held)) → referents (filter (λ (x : Bor Held). test x.now) xs) ≡ filter test (referents xs)
kept_referents test [] = refl
kept_referents test (x ∷ xs) = by (test x.now) (kept_referents test xs)
  where
    by : (b : Bool) → referents (filter (λ (y : Bor Held). test y.now) xs) ≡ filter test (referents xs)
        → referents (cond b (x ∷ filter (λ (y : Bor Held). test y.now) xs) (filter (λ (y : Bor Held). test y.now) xs)) ≡ cond b (x.now ∷ filter test (referents xs)) (filter test (referents xs))
    by true rest = ap (λ hs. x.now ∷ hs) rest
    by false rest = rest
