-- Units by their last local USNs, as a walk over the hints finds them.
use Rattle.std.proofs.Common.{◌≡◌, inl, inr, refl, sym, ap, ◌∙◌, subst, arith, ℕ, ◌+◌, ◌<◌, ◌≤◌, List, [], ◌∷◌, true, cond, Option, Some, None}
use Rattle.std.specs.List.{cons_option}
use Rattle.std.specs.Option.{option_map}
use Rattle.std.specs.BTreeMap.Range.{range_contains}
use Rattle.std.specs.BTreeSet.{BTreeSet}
use Rattle.std.specs.Ordering.{nat_cmp, ordering_then}
use Rattle.std.specs.declared.cmp.Ordering.TheVariants.{Less}
use Rattle.std.specs.declared.ops.Bound.TheVariants.{Included, Unbounded}
use Rattle.std.specs.List.Sorted.{IsStrictlySortedBy}
use Rattle.std.proofs.lemmas.Map.Keys.{le_from_not_gt}
use Rattle.adr_values.specs.declared.stamp.Unit.{Unit as Named}
use Rattle.adr_values.specs.Order.{unit_order}
use Rattle.adr_model.proofs.Members.{in_filter, in_filter_map, of_filter_map}
use Rattle.adr_model.specs.Member.{Member}
use Rattle.adr_model.specs.Store.{Held}
use Rattle.adr_model.specs.Serve.{last_local}
use Rattle.adr_law_knowledge.specs.Rises.{Rises}
use Rattle.adr_law_knowledge.proofs.Lists.{filter_map_rises}
use Rattle.adr_table.specs.declared.slots.Slots.{Slots}
use Rattle.adr_table.specs.declared.locals.Local.{Local}
use Rattle.adr_table.specs.Slots.{rows_seen}
use Rattle.adr_table.specs.Lasts.{AreAmong, AreLasts, Last, last_hinted, last_order, lasts_hinted}
use Rattle.adr_table.specs.Locals.{AreLocated, local_order, unit_at, unit_hinted, unit_place}
use Rattle.adr_table.proofs.LocalsFound.{behind_first, first_of, from_first, hinted_tells, left_rises, less_upto, member_there}
use Rattle.adr_table.proofs.LocalsKept.{holds_unit, is_last_of, last_hinted as is_hinted, local_at}
use Rattle.adr_table.proofs.LocalsSeats.{unit_is, unit_order_is}

last_tells : (rows : List Held) (b : Local) (e : Last) → last_hinted rows b ≡ Some e → (b ≡ local_at e.1 e.0) × (holds_unit rows e.1 ≡ true) × (last_local rows e.1 ≡ e.0)
last_tells rows b e is = by (unit_hinted rows b) refl is
  where
    by : (o : Option Named) → unit_hinted rows b ≡ o → option_map (λ u. (b.usn, u)) o ≡ Some e → (b ≡ local_at e.1 e.0) × (holds_unit rows e.1 ≡ true) × (last_local rows e.1 ≡ e.0)
    by None found pair = absurd (cc)
    by (Some u) found pair =
        let same : (b.usn, u) ≡ e = cc in
        subst (λ (f : Last). (b ≡ local_at f.1 f.0) × (holds_unit rows f.1 ≡ true) × (last_local rows f.1 ≡ f.0)) same (hinted_tells rows b u found)

by_units : (es : List Last) → Rises (λ (e f : Last). local_order (local_at e.1 e.0) (local_at f.1 f.0)) es → Rises last_order es
by_units [] r = r
by_units (e ∷ es) r = ((λ f m. ap (ordering_then (nat_cmp e.0 f.0)) (sym (unit_order_is e.1 f.1)) ∙ r.0 f m), by_units es r.1)

pub number_upto : (e f : Last) → last_order e f ≡ Less → e.0 ≤ f.0
number_upto e f less = le_from_not_gt e.0 f.0 (less_upto (nat_cmp e.0 f.0) (unit_order e.1 f.1) less)

-- the hints from the first of a number on have all units behind it
pub all_among : (slots : Slots) (locals : BTreeSet Local) (usn : ℕ) (left : List Local) → AreLocated slots locals → left ≡ from_first usn locals.keys → IsStrictlySortedBy local_order locals.keys
    → AreAmong (rows_seen slots) usn (lasts_hinted (rows_seen slots) left)
all_among slots locals usn left located is sorted = record {
  rises = by_units (lasts_hinted rows left)
      (filter_map_rises local_order (last_hinted rows) (λ e. local_at e.1 e.0) (λ b e told. sym (last_tells rows b e told).0) left (left_rises usn locals.keys left is sorted));
  own = λ e m.
      let t = of_filter_map (last_hinted rows) left e m in
      let told = last_tells rows t.0 e t.2 in
      record { held = told.1; number = told.2; from = omega arith };
  all = λ u held behind.
      let hint : Member (local_at u (last_local rows u)) left = subst (Member (local_at u (last_local rows u))) (sym is)
      (in_filter (range_contains local_order (Included (first_of usn)) Unbounded) locals.keys (local_at u (last_local rows u))
      (member_there locals.keys (local_at u (last_local rows u)) (is_hinted slots locals located u held))
      (behind_first usn (local_at u (last_local rows u)) (omega (arith, behind)))) in
      in_filter_map (last_hinted rows) left (local_at u (last_local rows u)) (last_local rows u, u) hint
      (ap (option_map (λ v. (last_local rows u, v))) (ap (λ b. cond b (unit_at (unit_place u)) None) (is_last_of rows u held) ∙ unit_is u));
}
  where
    rows : List Held
    rows = rows_seen slots

-- a unit that isn't behind the number is passed
pub one_passed : (rows : List Held) (usn : ℕ) (e : Last) (es : List Last) → AreAmong rows usn (e ∷ es) → e.0 ≤ usn → AreAmong rows usn es
one_passed rows usn e es among before = record {
  rises = among.rises.1;
  own = λ f m. among.own f (inr m);
  all = λ u held behind. by u behind (among.all u held behind);
}
  where
    by : (u : Named) → usn < last_local rows u → Member (last_local rows u, u) (e ∷ es) → Member (last_local rows u, u) es
    by u behind (inl is) = let number : last_local rows u ≡ e.0 = ap (λ (f : Last). f.0) is in absurd (omega arith)
    by u behind (inr m) = m

-- where the first one is behind the number, all are
pub all_behind : (rows : List Held) (usn : ℕ) (e : Last) (es : List Last) → AreAmong rows usn (e ∷ es) → usn < e.0 → AreLasts rows (usn + 1) (e ∷ es)
all_behind rows usn e es among behind = record {
  rises = among.rises;
  own = λ f m. let t = among.own f m in let up = from f m in record { held = t.held; number = t.number; from = omega (arith, behind, up) };
  all = λ u held more. among.all u held (omega (arith, more));
}
  where
    from : (f : Last) → Member f (e ∷ es) → e.0 ≤ f.0
    from f (inl is) = let number : f.0 ≡ e.0 = ap (λ (g : Last). g.0) is in omega (arith, number)
    from f (inr m) = number_upto e f (among.rises.0 f m)

pub none_behind : (rows : List Held) (usn : ℕ) → AreAmong rows usn [] → AreLasts rows (usn + 1) []
none_behind rows usn among = record { rises = tt; own = λ f m. absurd m; all = λ u held more. among.all u held (omega (arith, more)) }

-- what a hint tells that is passed
pub hint_has : (rows : List Held) (hints : List Local) (b : Local) (left : List Local) (u : Named) → hints ≡ b ∷ left → Some u ≡ unit_hinted rows b → lasts_hinted rows hints ≡ (b.usn, u) ∷ lasts_hinted rows left
hint_has rows hints b left u is has = ap (lasts_hinted rows) is ∙ ap (λ o. cons_option (option_map (λ v. (b.usn, v)) o) (lasts_hinted rows left)) (sym has)

pub hint_has_none : (rows : List Held) (hints : List Local) (b : Local) (left : List Local) → hints ≡ b ∷ left → None ≡ unit_hinted rows b → lasts_hinted rows hints ≡ lasts_hinted rows left
hint_has_none rows hints b left is none = ap (lasts_hinted rows) is ∙ ap (λ o. cons_option (option_map (λ v. (b.usn, v)) o) (lasts_hinted rows left)) (sym none)
