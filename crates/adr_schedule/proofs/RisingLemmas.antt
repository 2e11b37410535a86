-- Sets in rising order of attribute.
use Rattle.std.proofs.Common.{◌≡◌, ℕ, ◌<◌, Bool, true, false, cond, List, [], ◌∷◌, ◌++◌, Some, None, refl, sym, ap, subst, ◌∙◌, append_assoc, arith}
use Rattle.std.specs.Prelude.{is_some}
use Rattle.std.specs.List.{AllByRecursion}
use Rattle.std.specs.List.Sorted.{IsStrictlySortedBy}
use Rattle.std.specs.Ordering.{nat_cmp, match_ordering}
use Rattle.std.specs.declared.cmp.Ordering.{Ordering}
use Rattle.std.specs.declared.cmp.Ordering.TheVariants.{Less, Equal, Greater}
use Rattle.std.proofs.lemmas.Bool.{lt-ltb, le-ltb, ne_eqb}
use Rattle.std.proofs.lemmas.Bool.Decides.{nat_tests}
use Rattle.std.proofs.lemmas.List.{append-nil}
use Rattle.adr_values.specs.Assignments.{Given, attributes, given, placed}
use Rattle.adr_values.specs.declared.content.Value.{Value as Item}
use Rattle.adr_token.proofs.WordLaws.{bind_some}
use Rattle.adr_schedule.specs.Sets.{with_set, with_sets}
use Rattle.adr_schedule.specs.Grammar.{Set, sets, AreRising, HaveSpellings, IsSpelled}

less_below : (a b : ℕ) → nat_cmp a b ≡ Less → a < b
less_below a b h = grind (arith, nat_tests)

below_less : (a b : ℕ) → a < b → nat_cmp a b ≡ Less
below_less a b h = rw (lt-ltb a b h) refl

above_greater : (a b : ℕ) → a < b → nat_cmp b a ≡ Greater
above_greater a b h = rw (le-ltb b a (omega arith), ne_eqb b a (λ e. omega arith)) refl

greater_above : (a b : ℕ) → nat_cmp a b ≡ Greater → b < a
greater_above a b h = grind (arith, nat_tests)

equal_same : (a b : ℕ) → nat_cmp a b ≡ Equal → a ≡ b
equal_same a b h = grind (arith, nat_tests)

-- ---- one more set

pub unless_some : {A : Type 0} (b : Bool) (x y : A) → cond b None (Some x) ≡ Some y → (b ≡ false) × (x ≡ y)
unless_some true x y h = absurd (cc)
unless_some false x y h = (refl, cc)

-- what holds of an attribute and of the others holds of all
placed_all_by : (P : ℕ → Type 0) (attr : ℕ) (values : List Item) (g : Given) (gs : List Given) (r : Ordering) → P attr → P g.0 → AllByRecursion P (attributes gs)
    → AllByRecursion P (attributes (placed attr values gs)) → AllByRecursion P (attributes (match_ordering r ((attr, values) ∷ g ∷ gs) ((g.0, values) ∷ gs) (g ∷ placed attr values gs)))
placed_all_by P attr values g gs Less p q h more = (p, (q, h))
placed_all_by P attr values g gs Equal p q h more = (q, h)
placed_all_by P attr values g gs Greater p q h more = (q, more)

placed_all : (P : ℕ → Type 0) (attr : ℕ) (values : List Item) (gs : List Given) → P attr → AllByRecursion P (attributes gs) → AllByRecursion P (attributes (placed attr values gs))
placed_all P attr values [] p h = (p, tt)
placed_all P attr values (g ∷ gs) p h = placed_all_by P attr values g gs (nat_cmp attr g.0) p h.0 h.1 (placed_all P attr values gs p h.1)

below_all : (low n : ℕ) (gs : List Given) → low < n → AllByRecursion (λ m. nat_cmp n m ≡ Less) (attributes gs) → AllByRecursion (λ m. nat_cmp low m ≡ Less) (attributes gs)
below_all low n [] lt h = tt
below_all low n (g ∷ gs) lt h = let more : n < g.0 = less_below n g.0 h.0 in (below_less low g.0 (omega arith), below_all low n gs lt h.1)

placed_rising_by : (attr : ℕ) (values : List Item) (g : Given) (gs : List Given) (r : Ordering) → nat_cmp attr g.0 ≡ r → AreRising (g ∷ gs) → AreRising (placed attr values gs)
    → AreRising (match_ordering r ((attr, values) ∷ g ∷ gs) ((g.0, values) ∷ gs) (g ∷ placed attr values gs))
unfolding IsStrictlySortedBy
placed_rising_by attr values g gs Less at h more = ((at, below_all attr g.0 gs (less_below attr g.0 at) h.0), h)
placed_rising_by attr values g gs Equal at h more = h
placed_rising_by attr values g gs Greater at h more = (placed_all (λ m. nat_cmp g.0 m ≡ Less) attr values gs (below_less g.0 attr (greater_above attr g.0 at)) h.0, more)

placed_rising : (attr : ℕ) (values : List Item) (gs : List Given) → AreRising gs → AreRising (placed attr values gs)
unfolding IsStrictlySortedBy
placed_rising attr values [] h = (tt, tt)
placed_rising attr values (g ∷ gs) h = placed_rising_by attr values g gs (nat_cmp attr g.0) refl h (placed_rising attr values gs h.1)

-- ---- sets in any order

-- what holds of values holds where a set is added, and so where all are
added : (P : List Given → Type 0) → ((set : Given) (gs : List Given) → P gs → P (placed set.0 set.1 gs)) → (order gs values : List Given) → P gs → with_sets gs order ≡ Some values → P values
added P one [] gs values h w = let same : gs ≡ values = cc in subst P same h
added P one (set ∷ order) gs values h w =
    let t = bind_some (with_set gs set) (λ more. with_sets more order) values w in
    let s = unless_some (is_some (given set.0 gs)) (placed set.0 set.1 gs) t.0 t.1 in
    added P one order t.0 values (subst P s.1 (one set gs h)) t.2

pub rising_from : (order values : List Given) → with_sets [] order ≡ Some values → AreRising values
unfolding IsStrictlySortedBy
rising_from order values w = added AreRising (λ set gs h. placed_rising set.0 set.1 gs h) order [] values tt w

-- ---- sets in rising order

midst : (P : ℕ → Type 0) (gs rest : List Given) (set : Given) → AllByRecursion P (attributes (gs ++ set ∷ rest)) → P set.0
midst P [] rest set h = h.0
midst P (g ∷ gs) rest set h = midst P gs rest set h.1

-- a set above all others is new, and goes to the end
placed_last : (gs rest : List Given) (set : Given) → AreRising (gs ++ set ∷ rest) → (is_some (given set.0 gs) ≡ false) × (placed set.0 set.1 gs ≡ gs ++ set ∷ [])
unfolding IsStrictlySortedBy
placed_last [] rest set h = (refl, refl)
placed_last (g ∷ gs) rest set h =
    let above : nat_cmp set.0 g.0 ≡ Greater = above_greater g.0 set.0 (less_below g.0 set.0 (midst (λ m. nat_cmp g.0 m ≡ Less) gs rest set h.0)) in
    let more = placed_last gs rest set h.1 in
    (rw above more.0, rw above (ap (λ (xs : List Given). g ∷ xs) more.1))

rising_behind : (order gs : List Given) → AreRising (gs ++ order) → with_sets gs order ≡ Some (gs ++ order)
rising_behind [] gs h = ap Some (sym (append-nil gs))
rising_behind (set ∷ order) gs h =
    let one = placed_last gs order set h in
    let same : (gs ++ set ∷ []) ++ order ≡ gs ++ set ∷ order = append_assoc gs (set ∷ []) order in
    rw (one.0, one.1) (rising_behind order (gs ++ set ∷ []) (subst AreRising (sym same) h) ∙ ap Some same)

pub rising_stays : (values : List Given) → AreRising values → with_sets [] values ≡ Some values
rising_stays values h = rising_behind values [] h

-- ---- spellings

-- a set with a spelling
abbrev HasSpelling : ℕ → List Item → Type 0
HasSpelling attr values = (bytes : List ℕ) × IsSpelled (Set attr values) bytes

placed_spelled_by : (attr : ℕ) (values : List Item) (g : Given) (gs : List Given) (r : Ordering) → nat_cmp attr g.0 ≡ r → HasSpelling attr values → HaveSpellings (sets (g ∷ gs)) → HaveSpellings (sets (placed attr values gs))
    → HaveSpellings (sets (match_ordering r ((attr, values) ∷ g ∷ gs) ((g.0, values) ∷ gs) (g ∷ placed attr values gs)))
placed_spelled_by attr values g gs Less at s h more = (s, h)
placed_spelled_by attr values g gs Equal at s h more = (subst (λ n. HasSpelling n values) (equal_same attr g.0 at) s, h.1)
placed_spelled_by attr values g gs Greater at s h more = (h.0, more)

placed_spelled : (attr : ℕ) (values : List Item) (gs : List Given) → HasSpelling attr values → HaveSpellings (sets gs) → HaveSpellings (sets (placed attr values gs))
placed_spelled attr values [] s h = (s, tt)
placed_spelled attr values (g ∷ gs) s h = placed_spelled_by attr values g gs (nat_cmp attr g.0) refl s h (placed_spelled attr values gs s h.1)

spelled_behind : (order gs values : List Given) → with_sets gs order ≡ Some values → HaveSpellings (sets gs) → HaveSpellings (sets order) → HaveSpellings (sets values)
spelled_behind [] gs values w h k = let same : gs ≡ values = cc in subst (λ (xs : List Given). HaveSpellings (sets xs)) same h
spelled_behind (set ∷ order) gs values w h k =
    let t = bind_some (with_set gs set) (λ more. with_sets more order) values w in
    let s = unless_some (is_some (given set.0 gs)) (placed set.0 set.1 gs) t.0 t.1 in
    spelled_behind order t.0 values t.2 (subst (λ (xs : List Given). HaveSpellings (sets xs)) s.1 (placed_spelled set.0 set.1 gs k.0 h)) k.1

-- what has spellings in one order has them in rising order
pub spelled_rising : (order values : List Given) → with_sets [] order ≡ Some values → HaveSpellings (sets order) → HaveSpellings (sets values)
spelled_rising order values w h = spelled_behind order [] values w tt h
