-- The rows of places that stand together, read from the first place on.
use Rattle.std.proofs.Common.{◌≡◌, refl, sym, ap, ◌∙◌, subst, List, [], ◌∷◌, Bool, true, false, cond, not, ◌&&◌, Option, Some, None, filter}
use Rattle.std.specs.Prelude.{IfSome}
use Rattle.std.specs.List.{cons_option, AllByRecursion}
use Rattle.std.specs.List.Sorted.{IsStrictlySortedBy}
use Rattle.std.specs.Map.{keys_of}
use Rattle.std.specs.BTreeMap.Range.{IsLeBy, range_contains, entries_between}
use Rattle.std.specs.Ordering.{is_gt, is_le}
use Rattle.std.specs.declared.ops.Bound.TheVariants.{Included, Unbounded}
use Rattle.std.specs.declared.cmp.Ordering.{Ordering}
use Rattle.std.specs.declared.cmp.Ordering.TheVariants.{Less, Equal, Greater}
use Rattle.std.proofs.lemmas.List.Kept.{IsStrictlySortedBy-filter}
use Rattle.std.proofs.lemmas.Map.Keys.{sorted_head, sorted_tail}
use Rattle.adr_model.specs.Store.{Held}
use Rattle.adr_shelves.specs.declared.place.Place.{Place}
use Rattle.adr_shelves.specs.Place.{place_of, place_order}
use Rattle.adr_table.specs.Slots.{seen, AreAtHome}
use Rattle.adr_shelves.proofs.Entries.{Entries, AreSorted}

-- ---- what is behind a place

told : (o : Ordering) → (is_le o && not false) ≡ true → is_gt o ≡ false
told Less e = refl
told Equal e = refl
told Greater e = cc

pub tested : (o : Ordering) → is_gt o ≡ false → (is_le o && not false) ≡ true
tested Less e = refl
tested Equal e = refl
tested Greater e = cc

module _ (s : Place) where
  abbrev pub behind : Place → Bool
  behind q = range_contains place_order (Included s) Unbounded q

  abbrev pub from_start : Entries → Entries
  from_start es = entries_between place_order (Included s) Unbounded es

  home_from : (es : Entries) → AreAtHome es → AreAtHome (from_start es)
  home_from [] home = tt
  home_from (e ∷ es) home = by (behind e.0) (home_from es home.1)
    where
      by : (b : Bool) → AreAtHome (from_start es) → AreAtHome (cond b (e ∷ from_start es) (from_start es))
      by true h = (home.0, h)
      by false h = h

  all_behind : (es : Entries) → AllByRecursion (λ q. IsLeBy place_order s q) (keys_of (from_start es))
  all_behind [] = tt
  all_behind (e ∷ es) = by (behind e.0) refl (all_behind es)
    where
      by : (b : Bool) → behind e.0 ≡ b → AllByRecursion (λ q. IsLeBy place_order s q) (keys_of (from_start es)) → AllByRecursion (λ q. IsLeBy place_order s q) (keys_of (cond b (e ∷ from_start es) (from_start es)))
      by true is h = (told (place_order s e.0) is, h)
      by false is h = h

  keys_from : (es : Entries) → keys_of (from_start es) ≡ filter behind (keys_of es)
  keys_from [] = refl
  keys_from (e ∷ es) = by (behind e.0) (keys_from es)
    where
      by : (b : Bool) → keys_of (from_start es) ≡ filter behind (keys_of es) → keys_of (cond b (e ∷ from_start es) (from_start es)) ≡ cond b (e.0 ∷ filter behind (keys_of es)) (filter behind (keys_of es))
      by true h = ap (λ ks. e.0 ∷ ks) h
      by false h = h

-- ---- the rows at some places

module _ (at : Place → Bool) where
  -- whether a row stands at one of the places
  abbrev pub of : Held → Bool
  of h = at (place_of h.update.key)

  -- at the first slot of another place no row of them is left
  abbrev pub Ends : Entries → Type 0
  Ends [] = Unit {0}
  Ends (e ∷ es) = (at e.0 ≡ false → filter of (seen (e ∷ es)) ≡ []) × Ends es

  -- a slot at another place gives no row of them
  pub outside : (e : Place × Option Held) (rows : List Held) → IfSome e.1 (λ h. place_of h.update.key ≡ e.0) → at e.0 ≡ false → filter of (cons_option e.1 rows) ≡ filter of rows
  outside e rows home out = by e.1 home
    where
      by : (o : Option Held) → IfSome o (λ h. place_of h.update.key ≡ e.0) → filter of (cons_option o rows) ≡ filter of rows
      by None own = refl
      by (Some h) own = ap (λ b. cond b (h ∷ filter of rows) (filter of rows)) (ap at own ∙ out)

  -- a slot at one of them gives its row
  pub inside : (e : Place × Option Held) (rows : List Held) → IfSome e.1 (λ h. place_of h.update.key ≡ e.0) → at e.0 ≡ true → filter of (cons_option e.1 rows) ≡ cons_option e.1 (filter of rows)
  inside e rows home own = by e.1 home
    where
      by : (o : Option Held) → IfSome o (λ h. place_of h.update.key ≡ e.0) → filter of (cons_option o rows) ≡ cons_option o (filter of rows)
      by None there = refl
      by (Some h) there = ap (λ b. cond b (h ∷ filter of rows) (filter of rows)) (ap at there ∙ own)

  -- slots that a walk has left, and what holds of their rows at the places
  pub record Walk (P : List Held → Type 0) (left : Entries) : Type 0 where
    pub rows : P (filter of (seen left))
    pub home : AreAtHome left
    pub ends : Ends left

  -- behind another place, from the first one on, there is none of them
  abbrev pub AreTogether : Place → Type 0
  AreTogether s = (p : Place) → at p ≡ false → IsLeBy place_order s p → (q : Place) → place_order p q ≡ Less → at q ≡ false

module _ (s : Place) (at : Place → Bool) where
  -- none of the places is before the first one
  whole_from : ((q : Place) → behind s q ≡ false → at q ≡ false) → (es : Entries) → AreAtHome es → filter (of at) (seen (from_start s es)) ≡ filter (of at) (seen es)
  whole_from before [] home = refl
  whole_from before (e ∷ es) home = by (behind s e.0) refl (whole_from before es home.1)
    where
      more : (o : Option Held) → filter (of at) (seen (from_start s es)) ≡ filter (of at) (seen es) → filter (of at) (cons_option o (seen (from_start s es))) ≡ filter (of at) (cons_option o (seen es))
      more None h = h
      more (Some x) h = ap (λ hs. cond (of at x) (x ∷ hs) hs) h

      by : (b : Bool) → behind s e.0 ≡ b → filter (of at) (seen (from_start s es)) ≡ filter (of at) (seen es) → filter (of at) (seen (cond b (e ∷ from_start s es) (from_start s es))) ≡ filter (of at) (seen (e ∷ es))
      by true is h = more e.1 h
      by false is h = h ∙ sym (outside at e (seen es) home.0 (before e.0 is))

  none_later : AreTogether at s → (p : Place) → at p ≡ false → IsLeBy place_order s p → (es : Entries) → AreAtHome es → AllByRecursion (λ q. place_order p q ≡ Less) (keys_of es) → filter (of at) (seen es) ≡ []
  none_later later p out above [] home a = refl
  none_later later p out above (e ∷ es) home a = outside at e (seen es) home.0 (later p out above e.0 a.0) ∙ none_later later p out above es home.1 a.1

  ends : AreTogether at s → (es : Entries) → AreAtHome es → AreSorted es → AllByRecursion (λ q. IsLeBy place_order s q) (keys_of es) → Ends at es
  ends later [] home sorted above = tt
  ends later (e ∷ es) home sorted above = (
    (λ out. outside at e (seen es) home.0 out ∙ none_later later e.0 out above.0 es home.1 (sorted_head place_order e.0 (keys_of es) sorted)),
    ends later es home.1 (sorted_tail place_order e.0 (keys_of es) sorted) above.1,
  )

  pub begun : AreTogether at s → ((q : Place) → behind s q ≡ false → at q ≡ false) → (P : List Held → Type 0) (es left : Entries) → left ≡ from_start s es → AreAtHome es → AreSorted es
      → P (filter (of at) (seen es)) → Walk at P left
  begun later before P es left is home sorted all = subst (Walk at P) (sym is) (record {
    rows = subst P (sym (whole_from before es home)) all;
    home = home_from s es home;
    ends = ends later (from_start s es) (home_from s es home) (subst (IsStrictlySortedBy place_order) (sym (keys_from s es)) (IsStrictlySortedBy-filter place_order (behind s) (keys_of es) sorted)) (all_behind s es);
  })

-- ---- one slot after the other

module _ (at : Place → Bool) (P : List Held → Type 0) where
  pub ended : (left : Entries) → left ≡ [] → Walk at P left → P []
  ended left is walk = let end = subst (Walk at P) is walk in end.rows

  module _ (e : Place × Option Held) (es left : Entries) (is : left ≡ e ∷ es) (walk : Walk at P left) where
    here : Walk at P (e ∷ es)
    here = subst (Walk at P) is walk

    abbrev rest : List Held
    rest = filter (of at) (seen es)

    pub stopped : at e.0 ≡ false → P []
    stopped out = subst P (here.ends.0 out) here.rows

    pub found : at e.0 ≡ true → P (cons_option e.1 rest)
    found own = subst P (inside at e (seen es) here.home.0 own) here.rows

    pub turned : at e.0 ≡ true → (Q : List Held → Type 0) → (P (cons_option e.1 rest) → Q rest) → Walk at Q es
    turned own Q next = record { rows = next (found own); home = here.home.1; ends = here.ends.1 }

    -- an empty slot is passed
    pub passed : at e.0 ≡ true → e.1 ≡ None → Walk at P es
    passed own none = turned own P (subst (λ o. P (cons_option o rest)) none)
