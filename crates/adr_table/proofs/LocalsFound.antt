-- What a walk over the hints finds.
use Rattle.std.proofs.Common.{◌≡◌, ◌⊎◌, inl, inr, refl, sym, ap, ◌∙◌, subst, arith, ℕ, ◌<◌, ◌≤◌, List, [], ◌∷◌, ◌++◌, append-nil, append_assoc, Bool, true, false, cond, not, ◌&&◌, Option, Some, None, filter, filter_map, map, eqb}
use Rattle.std.specs.List.{list_any, cons_option}
use Rattle.std.specs.BTreeMap.{is_at}
use Rattle.std.specs.BTreeMap.Range.{range_contains}
use Rattle.std.specs.BTreeSet.{BTreeSet}
use Rattle.std.specs.Option.{option_cmp}
use Rattle.std.specs.Ordering.{nat_cmp, is_gt, is_le, ordering_then}
use Rattle.std.specs.declared.ops.Bound.TheVariants.{Included, Unbounded}
use Rattle.std.specs.declared.cmp.Ordering.{Ordering}
use Rattle.std.specs.declared.cmp.Ordering.TheVariants.{Less, Equal, Greater}
use Rattle.std.specs.List.Sorted.{IsStrictlySortedBy}
use Rattle.std.proofs.lemmas.Bool.Decides.{nat_tests}
use Rattle.std.proofs.lemmas.Cmp.{nat_cmp_total, tied_itself}
use Rattle.std.proofs.lemmas.Map.Keys.{le_from_not_gt}
use Rattle.adr_values.specs.declared.stamp.Unit.{Unit as Named}
use Rattle.adr_values.specs.Order.{unit_order}
use Rattle.adr_values.proofs.Units.{units_total, exact_units}
use Rattle.adr_model.proofs.Keys.{equal_order}
use Rattle.adr_model.proofs.Members.{in_filter, in_filter_map, mapped_member, member_mapped, of_filter, of_filter_map, some_passes}
use Rattle.adr_model.specs.Member.{Member, Each}
use Rattle.adr_model.specs.Update.{same_unit, unit_of}
use Rattle.adr_model.specs.Store.{Held}
use Rattle.adr_model.specs.Serve.{last_local, units_of}
use Rattle.adr_law_knowledge.specs.Rises.{Rises}
use Rattle.adr_law_knowledge.proofs.Counting.{rises_from}
use Rattle.adr_law_knowledge.proofs.Lists.{filter_map_rises, filter_rises, in_sorted, not_both_ways, of_sorted, same_members_one_list, sorted_rises}
use Rattle.adr_update.specs.Sought.{IsNextLocal, units_at}
use Rattle.adr_shelves.specs.declared.place.Place.{Place}
use Rattle.adr_table.specs.declared.slots.Slots.{Slots}
use Rattle.adr_table.specs.declared.locals.Local.{Local}
use Rattle.adr_shelves.specs.Place.{place_order}
use Rattle.adr_table.specs.Slots.{rows_seen}
use Rattle.adr_table.specs.Locals.{local_order, unit_place, unit_at, unit_hinted, AreLocated, is_last}
use Rattle.adr_table.proofs.LocalsSeats.{unit_is, unit_order_is, units_tell}
use Rattle.adr_table.proofs.LocalsKept.{exact_locals, held_by, holds_unit, is_last_of, last_hinted, last_tells, local_at, same_number, itself, unequal}

-- ---- units of rows

units_rise : (rows : List Held) → Rises unit_order (units_of rows)
units_rise rows = sorted_rises unit_order units_total exact_units (map (λ (h : Held). unit_of h.update.key) rows) [] tt

-- a unit is among those of rows where it has a row
pub unit_among : (rows : List Held) (u : Named) → holds_unit rows u ≡ true → Member u (units_of rows)
unit_among rows u held =
    let t = some_passes (λ h. same_unit (unit_of h.update.key) u) rows held in
    in_sorted unit_order units_total exact_units (map (λ (h : Held). unit_of h.update.key) rows) [] u
    (subst (λ v. Member v (map (λ (h : Held). unit_of h.update.key) rows)) (units_tell (unit_of t.0.update.key) u t.2) (member_mapped (λ (h : Held). unit_of h.update.key) rows t.0 t.1))

pub among_unit : (rows : List Held) (u : Named) → Member u (units_of rows) → holds_unit rows u ≡ true
among_unit rows u m = by (of_sorted unit_order units_total exact_units (map (λ (h : Held). unit_of h.update.key) rows) [] u m)
  where
    by : Member u (map (λ (h : Held). unit_of h.update.key) rows) ⊎ Member u [] → holds_unit rows u ≡ true
    by (inl n) = let t = mapped_member (λ (h : Held). unit_of h.update.key) rows u n in subst (λ v. holds_unit rows v ≡ true) (sym t.2) (held_by rows t.0 t.1)
    by (inr n) = absurd n

-- ---- hints

pub member_there : (locals : List Local) (b : Local) → list_any (is_at (local_order b)) locals ≡ true → Member b locals
member_there locals b any =
    let t = some_passes (is_at (local_order b)) locals any in
    subst (λ c. Member c locals) (sym (exact_locals b t.0 (equal_order (local_order b t.0) t.2))) t.1

-- the unit of a hint of this number, if the number is its last
abbrev pub picks : List Held → ℕ → Local → Option Named
picks rows usn hint = cond (eqb hint.usn usn) (unit_hinted rows hint) None

abbrev pub picked : List Held → ℕ → List Local → List Named
picked rows usn hints = filter_map (picks rows usn) hints

pub hinted_tells : (rows : List Held) (hint : Local) (u : Named) → unit_hinted rows hint ≡ Some u → (hint ≡ local_at u hint.usn) × (holds_unit rows u ≡ true) × (last_local rows u ≡ hint.usn)
hinted_tells rows hint u is_it = by hint.unit refl is_it
  where
    test : (b : Bool) (p : Place) → is_last rows hint ≡ b → hint.unit ≡ Some p → cond b (unit_at p) None ≡ Some u → (hint ≡ local_at u hint.usn) × (holds_unit rows u ≡ true) × (last_local rows u ≡ hint.usn)
    test false p is there e = cc
    test true p is there e =
        let t = last_tells rows hint is in
        let unit : Some p ≡ Some (unit_place t.0) = sym there ∙ ap (λ (l : Local). l.unit) t.1 in
        let place : p ≡ unit_place t.0 = cc in
        let same : Some t.0 ≡ Some u = sym (ap unit_at place ∙ unit_is t.0) ∙ e in
        let own : t.0 ≡ u = cc in
        (subst (λ v. hint ≡ local_at v hint.usn) own t.1, subst (λ v. holds_unit rows v ≡ true) own t.2, subst (λ v. last_local rows v ≡ hint.usn) own t.3)

    by : (o : Option Place) → hint.unit ≡ o → unit_hinted rows (record { usn = hint.usn; unit = o }) ≡ Some u → (hint ≡ local_at u hint.usn) × (holds_unit rows u ≡ true) × (last_local rows u ≡ hint.usn)
    by None there e = cc
    by (Some p) there e = test (is_last rows hint) p refl there (ap (λ (o : Option Place). let l : Local = record { usn = hint.usn; unit = o } in cond (is_last rows l) (unit_at p) None) there ∙ e)

pub picks_tells : (rows : List Held) (usn : ℕ) (hint : Local) (u : Named) → picks rows usn hint ≡ Some u → (hint ≡ local_at u usn) × (holds_unit rows u ≡ true) × (last_local rows u ≡ usn)
picks_tells rows usn hint u e = by (eqb hint.usn usn) refl e
  where
    by : (b : Bool) → eqb hint.usn usn ≡ b → cond b (unit_hinted rows hint) None ≡ Some u → (hint ≡ local_at u usn) × (holds_unit rows u ≡ true) × (last_local rows u ≡ usn)
    by false is e = cc
    by true is e =
        let t = hinted_tells rows hint u e in
        let number : hint.usn ≡ usn = same_number hint.usn usn is in
        (t.0 ∙ ap (local_at u) number, t.1, t.2 ∙ number)

pub picks_last : (rows : List Held) (u : Named) → holds_unit rows u ≡ true → picks rows (last_local rows u) (local_at u (last_local rows u)) ≡ Some u
picks_last rows u held =
    ap (λ b. cond b (unit_hinted rows (local_at u (last_local rows u))) None) (itself (last_local rows u))
    ∙ ap (λ b. cond b (unit_at (unit_place u)) None) (is_last_of rows u held)
    ∙ unit_is u

in_turn : (usn : ℕ) (u v : Named) → local_order (local_at u usn) (local_at v usn) ≡ Less → unit_order u v ≡ Less
in_turn usn u v less =
    sym (unit_order_is u v)
    ∙ ap (λ o. ordering_then o (place_order (unit_place u) (unit_place v))) (sym (tied_itself nat_cmp_total usn))
    ∙ less

units_in_turn : (usn : ℕ) (us : List Named) → Rises (λ u v. local_order (local_at u usn) (local_at v usn)) us → Rises unit_order us
units_in_turn usn [] r = r
units_in_turn usn (u ∷ us) r = ((λ v m. in_turn usn u v (r.0 v m)), units_in_turn usn us r.1)

-- a walk over all hints finds the units of a number, rising
pub picked_all : (slots : Slots) (locals : BTreeSet Local) (usn : ℕ) → AreLocated slots locals → IsStrictlySortedBy local_order locals.keys
    → picked (rows_seen slots) usn locals.keys ≡ units_at (rows_seen slots) usn
picked_all slots locals usn located sorted =
    same_members_one_list unit_order (not_both_ways unit_order units_total exact_units) (picked rows usn locals.keys) (units_at rows usn)
    (units_in_turn usn (picked rows usn locals.keys)
    (filter_map_rises local_order (picks rows usn) (λ u. local_at u usn) (λ b u e. sym (picks_tells rows usn b u e).0) locals.keys (rises_from local_order locals.keys sorted)))
    (filter_rises unit_order (λ u. eqb (last_local rows u) usn) (units_of rows) (units_rise rows))
    to
    back
  where
    rows : List Held
    rows = rows_seen slots

    to : Each (λ u. Member u (units_at rows usn)) (picked rows usn locals.keys)
    to u m =
        let t = of_filter_map (picks rows usn) locals.keys u m in
        let told = picks_tells rows usn t.0 u t.2 in
        in_filter (λ v. eqb (last_local rows v) usn) (units_of rows) u (unit_among rows u told.1) (ap (λ n. eqb n usn) told.2 ∙ itself usn)

    back : Each (λ u. Member u (picked rows usn locals.keys)) (units_at rows usn)
    back u m =
        let t = of_filter (λ v. eqb (last_local rows v) usn) (units_of rows) u m in
        let held : holds_unit rows u ≡ true = among_unit rows u t.0 in
        let number : last_local rows u ≡ usn = same_number (last_local rows u) usn t.1 in
        subst (λ n. Member u (picked rows n locals.keys)) number
        (in_filter_map (picks rows (last_local rows u)) locals.keys (local_at u (last_local rows u)) u
        (member_there locals.keys (local_at u (last_local rows u)) (last_hinted slots locals located u held))
        (picks_last rows u held))

-- ---- hints from the first of a number on

abbrev pub first_of : ℕ → Local
first_of usn = record { usn = usn; unit = None }

abbrev pub from_first : ℕ → List Local → List Local
from_first usn hints = filter (range_contains local_order (Included (first_of usn)) Unbounded) hints

not_gt : (o x : Ordering) → (is_le (ordering_then o x) && not false) ≡ true → is_gt o ≡ false
not_gt Less x e = refl
not_gt Equal x e = refl
not_gt Greater x e = cc

up_to : (o x : Ordering) → is_gt o ≡ false → is_gt x ≡ false → (is_le (ordering_then o x) && not false) ≡ true
up_to Less x g h = refl
up_to Equal Less g h = refl
up_to Equal Equal g h = refl
up_to Equal Greater g h = cc
up_to Greater x g h = cc

not_above : (m n : ℕ) → m ≤ n → is_gt (nat_cmp m n) ≡ false
not_above m n le = grind (arith, nat_tests)

none_first : (o : Option Place) → is_gt (option_cmp place_order None o) ≡ false
none_first None = refl
none_first (Some p) = refl

not_before : (usn : ℕ) (b : Local) → range_contains local_order (Included (first_of usn)) Unbounded b ≡ true → usn ≤ b.usn
not_before usn b is = le_from_not_gt usn b.usn (not_gt (nat_cmp usn b.usn) (option_cmp place_order None b.unit) is)

pub behind_first : (usn : ℕ) (b : Local) → usn ≤ b.usn → range_contains local_order (Included (first_of usn)) Unbounded b ≡ true
behind_first usn b le = up_to (nat_cmp usn b.usn) (option_cmp place_order None b.unit) (not_above usn b.usn le) (none_first b.unit)

pub less_upto : (o x : Ordering) → ordering_then o x ≡ Less → is_gt o ≡ false
less_upto Less x e = refl
less_upto Equal x e = refl
less_upto Greater x e = cc

number_rises : (b c : Local) → local_order b c ≡ Less → b.usn ≤ c.usn
number_rises b c less = le_from_not_gt b.usn c.usn (less_upto (nat_cmp b.usn c.usn) (option_cmp place_order b.unit c.unit) less)

-- hints of no earlier number
abbrev pub Low : ℕ → List Local → Type 0
Low usn hints = Each (λ b. usn ≤ b.usn) hints

pub left_low : (usn : ℕ) (hints left : List Local) → left ≡ from_first usn hints → Low usn left
left_low usn hints left is b m = not_before usn b (of_filter (range_contains local_order (Included (first_of usn)) Unbounded) hints b (subst (Member b) is m)).1

pub left_rises : (usn : ℕ) (hints left : List Local) → left ≡ from_first usn hints → IsStrictlySortedBy local_order hints → Rises local_order left
left_rises usn hints left is sorted = subst (Rises local_order) (sym is) (filter_rises local_order (range_contains local_order (Included (first_of usn)) Unbounded) hints (rises_from local_order hints sorted))

skipped : (rows : List Held) (usn : ℕ) (b : Local) (bs : List Local) → eqb b.usn usn ≡ false → picked rows usn (b ∷ bs) ≡ picked rows usn bs
skipped rows usn b bs other = ap (λ t. cons_option (cond t (unit_hinted rows b) None) (picked rows usn bs)) other

-- none of the hints before it is of the number
pub picked_from : (rows : List Held) (usn : ℕ) (hints left : List Local) → left ≡ from_first usn hints → picked rows usn left ≡ picked rows usn hints
picked_from rows usn hints left is = ap (picked rows usn) is ∙ all hints
  where
    all : (bs : List Local) → picked rows usn (from_first usn bs) ≡ picked rows usn bs
    all [] = refl
    all (b ∷ bs) = by (range_contains local_order (Included (first_of usn)) Unbounded b) refl (all bs)
      where
        other : range_contains local_order (Included (first_of usn)) Unbounded b ≡ false → (e : Bool) → eqb b.usn usn ≡ e → e ≡ false
        other out false is = refl
        other out true is = let number : b.usn ≡ usn = same_number b.usn usn is in
            let in_range = behind_first usn b (omega arith) in cc

        by : (t : Bool) → range_contains local_order (Included (first_of usn)) Unbounded b ≡ t → picked rows usn (from_first usn bs) ≡ picked rows usn bs
            → picked rows usn (cond t (b ∷ from_first usn bs) (from_first usn bs)) ≡ picked rows usn (b ∷ bs)
        by true is rest = ap (cons_option (picks rows usn b)) rest
        by false is rest = rest ∙ sym (skipped rows usn b bs (other is (eqb b.usn usn) refl))

unlike : (b c usn : ℕ) → eqb b usn ≡ false → usn ≤ b → b ≤ c → eqb c usn ≡ false
unlike b c usn other above le = grind (arith, nat_tests)

-- at a hint of another number none of this number is left
pub none_picked : (rows : List Held) (usn : ℕ) (b : Local) (bs : List Local) → eqb b.usn usn ≡ false → Low usn (b ∷ bs) → Rises local_order (b ∷ bs) → picked rows usn (b ∷ bs) ≡ []
none_picked rows usn b bs other low rises = skipped rows usn b bs other ∙ none bs (λ c m. apart c (number_rises b c (rises.0 c m)))
  where
    apart : (c : Local) → b.usn ≤ c.usn → eqb c.usn usn ≡ false
    apart c le = let above : usn ≤ b.usn = low b (inl refl) in unlike b.usn c.usn usn other above le

    none : (cs : List Local) → Each (λ c. eqb c.usn usn ≡ false) cs → picked rows usn cs ≡ []
    none [] each = refl
    none (c ∷ cs) each = skipped rows usn c cs (each c (inl refl)) ∙ none cs (λ d m. each d (inr m))

-- ---- the next number

-- hints that are left, among them each of a last number behind this one
pub record IsLeft (rows : List Held) (usn : ℕ) (left : List Local) : Type 0 where
  pub rises : Rises local_order left
  pub has : (u : Named) → holds_unit rows u ≡ true → usn < last_local rows u → Member (local_at u (last_local rows u)) left

pub all_left : (slots : Slots) (locals : BTreeSet Local) (usn : ℕ) (left : List Local) → AreLocated slots locals → left ≡ from_first usn locals.keys → IsStrictlySortedBy local_order locals.keys
    → IsLeft (rows_seen slots) usn left
all_left slots locals usn left located is sorted = record {
  rises = left_rises usn locals.keys left is sorted;
  has = λ u held behind. subst (Member (local_at u (last_local (rows_seen slots) u))) (sym is)
      (in_filter (range_contains local_order (Included (first_of usn)) Unbounded) locals.keys (local_at u (last_local (rows_seen slots) u))
      (member_there locals.keys (local_at u (last_local (rows_seen slots) u)) (last_hinted slots locals located u held))
      (behind_first usn (local_at u (last_local (rows_seen slots) u)) (omega arith)));
}

-- a hint that isn't behind the number is passed
pub passed : (rows : List Held) (usn : ℕ) (b : Local) (bs : List Local) → IsLeft rows usn (b ∷ bs) → b.usn ≤ usn → IsLeft rows usn bs
passed rows usn b bs left before = record { rises = left.rises.1; has = λ u held behind. by u held behind (left.has u held behind) }
  where
    by : (u : Named) → holds_unit rows u ≡ true → usn < last_local rows u → Member (local_at u (last_local rows u)) (b ∷ bs) → Member (local_at u (last_local rows u)) bs
    by u held behind (inl e) = let number : last_local rows u ≡ b.usn = ap (λ (l : Local). l.usn) e in absurd (omega arith)
    by u held behind (inr m) = m

pub next_found : (rows : List Held) (usn : ℕ) (b : Local) (bs : List Local) → IsLeft rows usn (b ∷ bs) → usn < b.usn → IsNextLocal rows usn (Some b.usn)
next_found rows usn b bs left behind = (behind, λ u held more. least u (left.has u held more))
  where
    least : (u : Named) → Member (local_at u (last_local rows u)) (b ∷ bs) → b.usn ≤ last_local rows u
    least u (inl e) = let number : last_local rows u ≡ b.usn = ap (λ (l : Local). l.usn) e in omega arith
    least u (inr m) = number_rises b (local_at u (last_local rows u)) (left.rises.0 (local_at u (last_local rows u)) m)

pub none_found : (rows : List Held) (usn : ℕ) → IsLeft rows usn [] → IsNextLocal rows usn None
none_found rows usn left u held behind = left.has u held behind

-- ---- one turn of the walk over the hints of a number

taken : (rows : List Held) (usn : ℕ) (b : Local) (bs : List Local) (o : Option Named) → b.usn ≡ usn → o ≡ unit_hinted rows b → picked rows usn (b ∷ bs) ≡ cons_option o (picked rows usn bs)
taken rows usn b bs o number is =
    ap (λ t. cons_option (cond t (unit_hinted rows b) None) (picked rows usn bs)) (ap (λ n. eqb n usn) number ∙ itself usn)
    ∙ ap (λ p. cons_option p (picked rows usn bs)) (sym is)

-- the units so far and those of the hints that are left are all units
pub record IsWalked (rows : List Held) (usn : ℕ) (units : List Named) (left : List Local) : Type 0 where
  pub whole : units ++ picked rows usn left ≡ units_at rows usn
  pub low : Low usn left
  pub rises : Rises local_order left

pub walk_begun : (slots : Slots) (locals : BTreeSet Local) (usn : ℕ) (units : List Named) (left : List Local) → AreLocated slots locals → units ≡ [] → left ≡ from_first usn locals.keys
    → IsStrictlySortedBy local_order locals.keys → IsWalked (rows_seen slots) usn units left
walk_begun slots locals usn units left located none is sorted = record {
  whole = ap (λ us. us ++ picked (rows_seen slots) usn left) none ∙ picked_from (rows_seen slots) usn locals.keys left is ∙ picked_all slots locals usn located sorted;
  low = left_low usn locals.keys left is;
  rises = left_rises usn locals.keys left is sorted;
}

pub walk_stopped : (rows : List Held) (usn : ℕ) (units : List Named) (b : Local) (bs : List Local) → IsWalked rows usn units (b ∷ bs) → (b.usn ≡ usn → ⊥) → units ≡ units_at rows usn
walk_stopped rows usn units b bs walked other =
    sym (append-nil units) ∙ ap (λ us. units ++ us) (sym (none_picked rows usn b bs (unequal b.usn usn other) walked.low walked.rises)) ∙ walked.whole

pub walk_ended : (rows : List Held) (usn : ℕ) (units : List Named) → IsWalked rows usn units [] → units ≡ units_at rows usn
walk_ended rows usn units walked = sym (append-nil units) ∙ walked.whole

pub walk_passed : (rows : List Held) (usn : ℕ) (units : List Named) (b : Local) (bs : List Local) → IsWalked rows usn units (b ∷ bs) → b.usn ≡ usn → None ≡ unit_hinted rows b → IsWalked rows usn units bs
walk_passed rows usn units b bs walked number is = record {
  whole = ap (λ us. units ++ us) (sym (taken rows usn b bs None number is)) ∙ walked.whole;
  low = λ c m. walked.low c (inr m);
  rises = walked.rises.1;
}

pub walk_pushed : (rows : List Held) (usn : ℕ) (units more : List Named) (u : Named) (b : Local) (bs : List Local) → IsWalked rows usn units (b ∷ bs) → b.usn ≡ usn → Some u ≡ unit_hinted rows b
    → more ≡ units ++ u ∷ [] → IsWalked rows usn more bs
walk_pushed rows usn units more u b bs walked number is pushed = record {
  whole = ap (λ us. us ++ picked rows usn bs) pushed ∙ append_assoc units (u ∷ []) (picked rows usn bs) ∙ ap (λ us. units ++ us) (sym (taken rows usn b bs (Some u) number is)) ∙ walked.whole;
  low = λ c m. walked.low c (inr m);
  rises = walked.rises.1;
}
