-- Runs of places, which are emptied from one to the next.
use Rattle.std.proofs.Common.{◌≡◌, refl, sym, ap, ◌∙◌, subst, arith, ℕ, ◌+◌, ◌≤◌, List, [], ◌∷◌, Bool, true, false, cond, not, ◌&&◌, ◌||◌, Option, Some, None}
use Rattle.std.specs.Prelude.{◌↔◌, IsSome, is_some, nat_le, nat_lt}
use Rattle.std.specs.List.{AllByRecursion}
use Rattle.std.specs.Option.{is_none, option_cmp}
use Rattle.std.specs.Map.{keys_of, lookup}
use Rattle.std.specs.BTreeMap.{is_at}
use Rattle.std.specs.BTreeMap.Range.{entries_between, is_from_start, IsFromStart, IsLeBy}
use Rattle.std.specs.Ordering.{nat_cmp, bool_cmp, is_eq, is_gt, is_le, is_lt, ordering_then, ordering_reverse}
use Rattle.std.specs.declared.ops.Bound.{Bound}
use Rattle.std.specs.declared.ops.Bound.TheVariants.{Included, Excluded, Unbounded}
use Rattle.std.specs.declared.cmp.Ordering.{Ordering}
use Rattle.std.specs.declared.cmp.Ordering.TheVariants.{Less, Equal, Greater}
use Rattle.std.specs.Cmp.{IsTotalOrder, bool_cmp_total}
use Rattle.std.specs.Cmp.Lexicographic.{options_total}
use Rattle.adr_values.specs.contracts.stamp.BirthOrd.TheImpl.Laws.{total-law as births_total}
use Rattle.std.proofs.lemmas.Cmp.{tied_itself, upto, nat_list_cmp_total}
use Rattle.std.proofs.lemmas.Map.Keys.{sorted_head, sorted_tail}
use Rattle.std.proofs.lemmas.Map.Lookups.{CmpEqualImpliesEq, exact_bytes}
use Rattle.std.proofs.lemmas.Bool.Decides.{nat_tests}
use Rattle.adr_values.specs.declared.stamp.Oid.{Oid}
use Rattle.adr_values.specs.declared.stamp.Birth.{Birth}
use Rattle.adr_values.specs.Order.{identifier_order, birth_order, object_order}
use Rattle.adr_model.proofs.Keys.{equal_order}
use Rattle.adr_model.specs.Update.{same_identifier}
use Rattle.adr_model.specs.Store.{Held}
use Rattle.adr_shelves.specs.declared.place.Place.{Place}
use Rattle.adr_table.specs.declared.slots.Slots.{Slots}
use Rattle.adr_shelves.specs.Place.{IsStart, place_order, is_in_run}
use Rattle.adr_shelves.specs.Shelves.{flat}
use Rattle.adr_table.specs.Slots.{row_at}
use Rattle.adr_shelves.proofs.Places.{places_total, exact_places, exact_flags, exact_options}
use Rattle.adr_update.proofs.Slots.{still_some}
use Rattle.adr_shelves.proofs.Entries.{AreSorted, Entries}
use Rattle.adr_values.proofs.ExactOrders.{exact_births}

-- ---- bounds

at_most_told : (o : Ordering) → (is_le o ≡ true) ↔ (is_gt o ≡ false)
at_most_told Less = (λ e. refl, λ e. refl)
at_most_told Equal = (λ e. refl, λ e. refl)
at_most_told Greater = (λ e. cc, λ e. cc)

pub from_told : (b : Bound Place) (q : Place) → is_from_start place_order b q ≡ true → IsFromStart place_order b q
from_told (Included a) q e = (at_most_told (place_order a q)).0 e
from_told (Excluded a) q e = lt (place_order a q) e
  where
    lt : (o : Ordering) → is_lt o ≡ true → o ≡ Less
    lt Less e = refl
    lt Equal e = cc
    lt Greater e = cc
from_told Unbounded q e = tt

pub from_tested : (b : Bound Place) (q : Place) → IsFromStart place_order b q → is_from_start place_order b q ≡ true
from_tested (Included a) q e = (at_most_told (place_order a q)).1 e
from_tested (Excluded a) q e = ap is_lt e
from_tested Unbounded q e = refl

-- what is behind a place that is from a bound on is so too
pub onward : (b : Bound Place) (p q : Place) → IsFromStart place_order b p → place_order p q ≡ Less → IsFromStart place_order b q
onward (Included a) p q from less = upto places_total a p q from (ap is_gt less)
onward (Excluded a) p q from less = places_total.trans a p q from less
onward Unbounded p q from less = tt

-- ---- the first slot from a bound on

passes : (a : Bool) → (a && not false) ≡ a
passes true = refl
passes false = refl

at_itself : (p : Place) → is_at (place_order p) p ≡ true
at_itself p = ap is_eq (tied_itself places_total p)

-- what is found behind a place is so
below_found : (p q : Place) (es : Entries) → AllByRecursion (λ r. place_order p r ≡ Less) (keys_of es) → IsSome (lookup (is_at (place_order q)) es) → place_order p q ≡ Less
below_found p q [] below some = cc
below_found p q (e ∷ es) below some = by (is_at (place_order q) e.0) refl some (below_found p q es below.1)
  where
    by : (b : Bool) → is_at (place_order q) e.0 ≡ b → IsSome (cond b (Some e.1) (lookup (is_at (place_order q)) es)) → (IsSome (lookup (is_at (place_order q)) es) → place_order p q ≡ Less) → place_order p q ≡ Less
    by true at there later = subst (λ r. place_order p r ≡ Less) (sym (exact_places q e.0 (equal_order (place_order q e.0) at))) below.0
    by false at there later = later there

module _ (b : Bound Place) where
  abbrev pub from_bound : Entries → Entries
  from_bound es = entries_between place_order b Unbounded es

  abbrev from : Place → Bool
  from p = is_from_start place_order b p

  inside : (p : Place) → (from p && not false) ≡ true → IsFromStart place_order b p
  inside p is = from_told b p (sym (passes (from p)) ∙ is)

  outside : (p q : Place) → (from p && not false) ≡ false → is_at (place_order q) p ≡ true → IsFromStart place_order b q → ⊥
  outside p q out at here =
      let wrong : true ≡ false = sym (subst (λ r. from r ≡ true) (exact_places q p (equal_order (place_order q p) at)) (from_tested b q here)) ∙ sym (passes (from p)) ∙ out in cc

  -- what comes first is from the bound on, and has a slot
  pub first_there : (es : Entries) (e : Place × Option Held) (rest : Entries) → from_bound es ≡ e ∷ rest → IsFromStart place_order b e.0 × IsSome (lookup (is_at (place_order e.0)) es)
  first_there [] e rest is = cc
  first_there (x ∷ xs) e rest is = by (from x.0 && not false) refl is (first_there xs e rest)
    where
      by : (t : Bool) → (from x.0 && not false) ≡ t → cond t (x ∷ from_bound xs) (from_bound xs) ≡ e ∷ rest
          → (from_bound xs ≡ e ∷ rest → IsFromStart place_order b e.0 × IsSome (lookup (is_at (place_order e.0)) xs))
          → IsFromStart place_order b e.0 × IsSome (cond (is_at (place_order e.0) x.0) (Some x.1) (lookup (is_at (place_order e.0)) xs))
      by true t h later =
          let same : x ≡ e = cc in
          subst (λ y. IsFromStart place_order b y.0 × IsSome (cond (is_at (place_order y.0) x.0) (Some x.1) (lookup (is_at (place_order y.0)) xs))) same
          (inside x.0 t, ap (λ a. is_some (cond a (Some x.1) (lookup (is_at (place_order x.0)) xs))) (at_itself x.0))
      by false t h later = let more = later h in (more.0, still_some (is_at (place_order e.0) x.0) x.1 (lookup (is_at (place_order e.0)) xs) more.1)

  -- no slot from the bound on is before it
  pub first_least : (es : Entries) (e : Place × Option Held) (rest : Entries) → AreSorted es → from_bound es ≡ e ∷ rest
      → (q : Place) → IsFromStart place_order b q → IsSome (lookup (is_at (place_order q)) es) → IsLeBy place_order e.0 q
  first_least [] e rest sorted is q here there = cc
  first_least (x ∷ xs) e rest sorted is q here there =
      by (from x.0 && not false) refl is (is_at (place_order q) x.0) refl there (first_least xs e rest (sorted_tail place_order x.0 (keys_of xs) sorted))
    where
      by : (t : Bool) → (from x.0 && not false) ≡ t → cond t (x ∷ from_bound xs) (from_bound xs) ≡ e ∷ rest
          → (a : Bool) → is_at (place_order q) x.0 ≡ a → IsSome (cond a (Some x.1) (lookup (is_at (place_order q)) xs))
          → (from_bound xs ≡ e ∷ rest → (r : Place) → IsFromStart place_order b r → IsSome (lookup (is_at (place_order r)) xs) → IsLeBy place_order e.0 r)
          → IsLeBy place_order e.0 q
      by true t h true at some later =
          let same : x ≡ e = cc in
          subst (λ y. is_gt (place_order y.0 q) ≡ false) same
          (subst (λ r. is_gt (place_order x.0 r) ≡ false) (sym (exact_places q x.0 (equal_order (place_order q x.0) at))) (ap is_gt (tied_itself places_total x.0)))
      by true t h false at some later =
          let same : x ≡ e = cc in
          subst (λ y. is_gt (place_order y.0 q) ≡ false) same (ap is_gt (below_found x.0 q xs (sorted_head place_order x.0 (keys_of xs) sorted) some))
      by false t h true at some later = absurd (outside x.0 q t at here)
      by false t h false at some later = later h q here some

  -- where nothing comes, there is no slot
  pub first_none : (es : Entries) → from_bound es ≡ [] → (q : Place) → IsFromStart place_order b q → lookup (is_at (place_order q)) es ≡ None
  first_none [] is q here = refl
  first_none (x ∷ xs) is q here = by (from x.0 && not false) refl is (is_at (place_order q) x.0) refl (first_none xs)
    where
      by : (t : Bool) → (from x.0 && not false) ≡ t → cond t (x ∷ from_bound xs) (from_bound xs) ≡ []
          → (a : Bool) → is_at (place_order q) x.0 ≡ a → (from_bound xs ≡ [] → (r : Place) → IsFromStart place_order b r → lookup (is_at (place_order r)) xs ≡ None)
          → cond a (Some x.1) (lookup (is_at (place_order q)) xs) ≡ None
      by true t h a at later = cc
      by false t h true at later = absurd (outside x.0 q t at here)
      by false t h false at later = later h q here

-- ---- what is in a run

first_part : (o p : Ordering) → is_gt (ordering_then o p) ≡ false → is_gt o ≡ false
first_part Less p h = refl
first_part Equal p h = refl
first_part Greater p h = h

second_part : (o p : Ordering) → o ≡ Equal → is_gt (ordering_then o p) ≡ false → is_gt p ≡ false
second_part Less p e h = cc
second_part Equal p e h = h
second_part Greater p e h = cc

between : {K : Type 0} (R : K → K → Ordering) → IsTotalOrder R → (a b : K) → is_gt (R a b) ≡ false → is_gt (R b a) ≡ false → R a b ≡ Equal
between R total a b h g = by (R a b) (R b a) (total.antisymm b a) h g
  where
    by : (o p : Ordering) → p ≡ ordering_reverse o → is_gt o ≡ false → is_gt p ≡ false → o ≡ Equal
    by Less p e h g = cc
    by Equal p e h g = refl
    by Greater p e h g = cc

both : (a b : Bool) → (a && b) ≡ true → (a ≡ true) × (b ≡ true)
both true b e = (refl, e)
both false b e = cc

all_three : (a b c : Bool) → a ≡ true → b ≡ true → c ≡ true → (a && (b && c)) ≡ true
all_three true true c x y z = z
all_three true false c x y z = cc
all_three false b c x y z = cc

not_above : (a b : ℕ) → is_gt (nat_cmp a b) ≡ false → nat_le a b ≡ true
not_above a b h = grind (arith, nat_tests)

at_most : (a b : ℕ) (o : Ordering) → nat_le a b ≡ true → is_gt o ≡ false → is_gt (ordering_then (nat_cmp a b) o) ≡ false
at_most a b o h g = grind (arith, nat_tests)

from_zero : (a b : ℕ) → nat_lt 0 a ≡ false → nat_le a b ≡ true
from_zero a b h = grind (arith, nat_tests)

none_first : (o : Option Oid) → is_gt (option_cmp object_order None o) ≡ false
none_first None = refl
none_first (Some x) = refl

tied_then : (o p : Ordering) → o ≡ Equal → is_gt p ≡ false → is_gt (ordering_then o p) ≡ false
tied_then Less p e h = cc
tied_then Equal p e h = h
tied_then Greater p e h = cc

-- between two that are equal in their first parts all are, and their other parts are in order
tied_between : {K : Type 0} {R : K → K → Ordering} → IsTotalOrder R → CmpEqualImpliesEq R → (a b c : K) (x y : Ordering)
    → is_gt (ordering_then (R a b) x) ≡ false → is_gt (ordering_then (R b c) y) ≡ false → R a c ≡ Equal
    → (R a b ≡ Equal) × (is_gt x ≡ false) × (is_gt y ≡ false)
tied_between {K} {R} total exact a b c x y h g e =
    let here : R a b ≡ Equal = between R total a b (first_part (R a b) x h) (subst (λ d. is_gt (R b d) ≡ false) (sym (exact a c e)) (first_part (R b c) y g)) in
    let there : R b c ≡ Equal = subst (λ d. R d c ≡ Equal) (exact a b here) e in
    (here, second_part (R a b) x here h, second_part (R b c) y there g)

abbrev attrs : Place → Place → Ordering
attrs p q = ordering_then (nat_cmp p.attr q.attr) (option_cmp object_order p.other q.other)

abbrev births : Place → Place → Ordering
births p q = ordering_then (option_cmp birth_order p.birth q.birth) (attrs p q)

abbrev guids : Place → Place → Ordering
guids p q = ordering_then (identifier_order p.guid q.guid) (births p q)

abbrev within : Option Birth → Place → Place → Bool
within b s q = is_none b || (is_eq (option_cmp birth_order b q.birth) && nat_le s.attr q.attr)

-- a run goes on without gaps from its start
module _ (s : Place) where
  attrs_behind : s.other ≡ None → (q : Place) → nat_le s.attr q.attr ≡ true → is_gt (attrs s q) ≡ false
  attrs_behind bare q h =
      at_most s.attr q.attr (option_cmp object_order s.other q.other) h (subst (λ o. is_gt (option_cmp object_order o q.other) ≡ false) (sym bare) (none_first q.other))

  births_behind : IsStart s → (q : Place) → within s.birth s q ≡ true → is_gt (births s q) ≡ false
  births_behind start q r = by s.birth start.1 r
    where
      early : (c : Option Birth) → (true && nat_lt 0 s.attr) ≡ false → is_gt (ordering_then (option_cmp birth_order None c) (attrs s q)) ≡ false
      early None zero = attrs_behind start.0 q (from_zero s.attr q.attr zero)
      early (Some c) zero = refl

      by : (b : Option Birth) → (is_none b && nat_lt 0 s.attr) ≡ false → within b s q ≡ true → is_gt (ordering_then (option_cmp birth_order b q.birth) (attrs s q)) ≡ false
      by None zero r = early q.birth zero
      by (Some b) zero r =
          let parts = both (is_eq (option_cmp birth_order (Some b) q.birth)) (nat_le s.attr q.attr) r in
          tied_then (option_cmp birth_order (Some b) q.birth) (attrs s q) (equal_order (option_cmp birth_order (Some b) q.birth) parts.0) (attrs_behind start.0 q parts.1)

  pub run_behind : IsStart s → (q : Place) → is_in_run s q ≡ true → IsLeBy place_order s q
  run_behind start q r =
      let parts = both (is_eq (bool_cmp s.is_link q.is_link)) (same_identifier s.guid q.guid && within s.birth s q) r in
      let more = both (same_identifier s.guid q.guid) (within s.birth s q) parts.1 in
      tied_then (bool_cmp s.is_link q.is_link) (guids s q) (equal_order (bool_cmp s.is_link q.is_link) parts.0)
      (tied_then (identifier_order s.guid q.guid) (births s q) (equal_order (identifier_order s.guid q.guid) more.0) (births_behind start q more.1))

  births_between : (p q : Place) → is_gt (births s p) ≡ false → is_gt (births p q) ≡ false → within s.birth s q ≡ true → within s.birth s p ≡ true
  births_between p q above below r = by s.birth refl r
    where
      by : (b : Option Birth) → s.birth ≡ b → within b s q ≡ true → within b s p ≡ true
      by None is r = refl
      by (Some b) is r =
          let parts = both (is_eq (option_cmp birth_order (Some b) q.birth)) (nat_le s.attr q.attr) r in
          let tied : option_cmp birth_order s.birth q.birth ≡ Equal =
          subst (λ c. option_cmp birth_order c q.birth ≡ Equal) (sym is) (equal_order (option_cmp birth_order (Some b) q.birth) parts.0) in
          let three = tied_between (options_total births_total) (exact_options exact_births) s.birth p.birth q.birth (attrs s p) (attrs p q) above below tied in
          all_three true (is_eq (option_cmp birth_order (Some b) p.birth)) (nat_le s.attr p.attr) refl
          (subst (λ c. is_eq (option_cmp birth_order c p.birth) ≡ true) is (ap is_eq three.0))
          (not_above s.attr p.attr (first_part (nat_cmp s.attr p.attr) (option_cmp object_order s.other p.other) three.1))

  pub run_between : (p q : Place) → IsLeBy place_order s p → IsLeBy place_order p q → is_in_run s q ≡ true → is_in_run s p ≡ true
  run_between p q above below r =
      let parts = both (is_eq (bool_cmp s.is_link q.is_link)) (same_identifier s.guid q.guid && within s.birth s q) r in
      let more = both (same_identifier s.guid q.guid) (within s.birth s q) parts.1 in
      let one = tied_between bool_cmp_total exact_flags s.is_link p.is_link q.is_link (guids s p) (guids p q) above below (equal_order (bool_cmp s.is_link q.is_link) parts.0) in
      let two = tied_between nat_list_cmp_total exact_bytes s.guid p.guid q.guid (births s p) (births p q) one.1 one.2 (equal_order (identifier_order s.guid q.guid) more.0) in
      all_three (is_eq (bool_cmp s.is_link p.is_link)) (same_identifier s.guid p.guid) (within s.birth s p) (ap is_eq one.0) (ap is_eq two.0)
      (births_between p q two.1 two.2 more.1)

-- ---- how many places are left

abbrev pub count : (Place → Bool) → Entries → ℕ
count test [] = 0
count test (e ∷ es) = cond (test e.0) (1 + count test es) (count test es)

pub fewer : (test more : Place → Bool) → ((q : Place) → test q ≡ true → more q ≡ true) → (es : Entries) → count test es ≤ count more es
fewer test more f [] = omega arith
fewer test more f (e ∷ es) = by (test e.0) (more e.0) (f e.0) (fewer test more f es)
  where
    by : (a b : Bool) → (a ≡ true → b ≡ true) → count test es ≤ count more es → cond a (1 + count test es) (count test es) ≤ cond b (1 + count more es) (count more es)
    by true true g h = omega (arith, h)
    by true false g h = let no : false ≡ true = g refl in cc
    by false true g h = omega (arith, h)
    by false false g h = h

-- fewer by the place itself
pub fewer_by_one : (test more : Place → Bool) (p : Place) → test p ≡ false → more p ≡ true → ((q : Place) → test q ≡ true → more q ≡ true)
    → (es : Entries) → IsSome (lookup (is_at (place_order p)) es) → 1 + count test es ≤ count more es
fewer_by_one test more p out within f [] there = cc
fewer_by_one test more p out within f (e ∷ es) there = by (is_at (place_order p) e.0) refl there (fewer_by_one test more p out within f es)
  where
    here : (a b : Bool) → a ≡ false → b ≡ true → count test es ≤ count more es → 1 + cond a (1 + count test es) (count test es) ≤ cond b (1 + count more es) (count more es)
    here true b x y h = cc
    here false true x y h = omega (arith, h)
    here false false x y h = cc

    later : (a b : Bool) → (a ≡ true → b ≡ true) → 1 + count test es ≤ count more es → 1 + cond a (1 + count test es) (count test es) ≤ cond b (1 + count more es) (count more es)
    later true true g h = omega (arith, h)
    later true false g h = let no : false ≡ true = g refl in cc
    later false true g h = omega (arith, h)
    later false false g h = h

    by : (b : Bool) → is_at (place_order p) e.0 ≡ b → IsSome (cond b (Some e.1) (lookup (is_at (place_order p)) es)) → (IsSome (lookup (is_at (place_order p)) es) → 1 + count test es ≤ count more es)
        → 1 + cond (test e.0) (1 + count test es) (count test es) ≤ cond (more e.0) (1 + count more es) (count more es)
    by true at some rest =
        let same : p ≡ e.0 = exact_places p e.0 (equal_order (place_order p e.0) at) in
        here (test e.0) (more e.0) (subst (λ q. test q ≡ false) same out) (subst (λ q. more q ≡ true) same within) (fewer test more f es)
    by false at some rest = later (test e.0) (more e.0) (f e.0) (rest some)

abbrev countk : (Place → Bool) → List Place → ℕ
countk test [] = 0
countk test (p ∷ ps) = cond (test p) (1 + countk test ps) (countk test ps)

by_keys : (test : Place → Bool) (es : Entries) → count test es ≡ countk test (keys_of es)
by_keys test [] = refl
by_keys test (e ∷ es) = ap (λ n. cond (test e.0) (1 + n) n) (by_keys test es)

-- places are counted, and not rows
pub count_same : (test : Place → Bool) (es fs : Entries) → keys_of es ≡ keys_of fs → count test es ≡ count test fs
count_same test es fs same = by_keys test es ∙ ap (countk test) same ∙ sym (by_keys test fs)

-- ---- one place of a run after the other

pub begun : (r : Bool) (s q : Place) → (r ≡ true → IsLeBy place_order s q) → (o : Option Held) → o ≡ cond (r && not (is_le (place_order s q))) None o
begun false s q behind o = refl
begun true s q behind o = ap (λ b. cond (true && not b) None o) (sym (from_tested (Included s) q (behind refl)))

module _ (start : Place) (from : Bound Place) (slots : Slots) (init : Place → Option Held)
    (rows : (q : Place) → row_at slots q ≡ cond (is_in_run start q && not (is_from_start place_order from q)) None (init q)) where
  pub stopped : ((q : Place) → is_in_run start q ≡ true → is_from_start place_order from q ≡ true → row_at slots q ≡ None) → (q : Place) → row_at slots q ≡ cond (is_in_run start q) None (init q)
  stopped none q = by (is_in_run start q) (is_from_start place_order from q) refl refl (rows q)
    where
      by : (r f : Bool) → is_in_run start q ≡ r → is_from_start place_order from q ≡ f → row_at slots q ≡ cond (r && not f) None (init q) → row_at slots q ≡ cond r None (init q)
      by false f x y e = e
      by true false x y e = e
      by true true x y e = none q x y

  -- no place of the run has a slot behind one that isn't of the run
  pub passed : (p : Place) → is_in_run start p ≡ false → IsLeBy place_order start p → ((q : Place) → IsFromStart place_order from q → IsSome (lookup (is_at (place_order q)) slots.map) → IsLeBy place_order p q)
      → (q : Place) → is_in_run start q ≡ true → is_from_start place_order from q ≡ true → row_at slots q ≡ None
  passed p out above first q r f = by (lookup (is_at (place_order q)) slots.map) (first q (from_told from q f))
    where
      by : (o : Option (Option Held)) → (IsSome o → IsLeBy place_order p q) → flat o ≡ None
      by None h = refl
      by (Some v) h = let yes : is_in_run start p ≡ true = run_between start p q above (h refl) r in let no : false ≡ true = sym out ∙ yes in cc

  pub stepped : (p : Place) → is_in_run start p ≡ true → IsFromStart place_order from p → ((q : Place) → IsFromStart place_order from q → IsSome (lookup (is_at (place_order q)) slots.map) → IsLeBy place_order p q)
      → (next : Option Held) (q : Place) → next ≡ cond (is_at (place_order p) q) None (row_at slots q) → next ≡ cond (is_in_run start q && not (is_lt (place_order p q))) None (init q)
  stepped p within here first next q e = by (place_order p q) refl e
    where
      inside : (r : Bool) → is_in_run start q ≡ r → is_in_run start q ≡ true → None ≡ cond (r && true) None (init q)
      inside true x y = refl
      inside false x y = cc

      behind : (r : Bool) → is_in_run start q ≡ r → (f : Bool) → f ≡ true → row_at slots q ≡ cond (r && not f) None (init q) → row_at slots q ≡ cond (r && false) None (init q)
      behind false x f y h = h
      behind true x true y h = h
      behind true x false y h = cc

      before : (r f : Bool) → is_from_start place_order from q ≡ f → place_order p q ≡ Greater → row_at slots q ≡ cond (r && not f) None (init q) → row_at slots q ≡ cond (r && true) None (init q)
      before false f y above h = h
      before true false y above h = h
      before true true y above h = bare (lookup (is_at (place_order q)) slots.map) (first q (from_told from q y))
        where
          bare : (o : Option (Option Held)) → (IsSome o → IsLeBy place_order p q) → flat o ≡ None
          bare None g = refl
          bare (Some v) g = let no : is_gt Greater ≡ false = ap is_gt (sym above) ∙ g refl in cc

      by : (o : Ordering) → place_order p q ≡ o → next ≡ cond (is_eq o) None (row_at slots q) → next ≡ cond (is_in_run start q && not (is_lt o)) None (init q)
      by Equal is h = h ∙ inside (is_in_run start q) refl (subst (λ s. is_in_run start s ≡ true) (exact_places p q is) within)
      by Less is h = h ∙ behind (is_in_run start q) refl (is_from_start place_order from q) (from_tested from q (onward from p q here is)) (rows q)
      by Greater is h = h ∙ before (is_in_run start q) (is_from_start place_order from q) refl is (rows q)

pub not_behind_itself : (p : Place) → is_from_start place_order (Excluded p) p ≡ false
not_behind_itself p = ap is_lt (tied_itself places_total p)
