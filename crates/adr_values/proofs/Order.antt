-- A table is orderly where its entries pass tests.
use Rattle.std.proofs.Common.{◌≡◌, ℕ, zero, suc, ◌+◌, List, [], ◌∷◌, map, Bool, true, false, cond, ◌&&◌, not, nat_lt, ◌==◌, Option, None, Some, refl, ap, eqb-true}
use Rattle.std.specs.Option.{option_map, option_map_or}
use Rattle.std.specs.List.{find, list_all, slice_get, AllByRecursion}
use Rattle.std.specs.List.Sorted.{IsStrictlySortedBy}
use Rattle.std.specs.Ordering.{nat_cmp}
use Rattle.std.specs.declared.cmp.Ordering.TheVariants.{Less}
use Rattle.std.proofs.lemmas.Bool.{and_parts}
use Rattle.adr_values.specs.declared.table.Kind.{Kind}
use Rattle.adr_values.specs.declared.table.Kind.TheVariants.{Reserved, Plain, Forward, Back}
use Rattle.adr_values.specs.Orderly.{IsOrderly}
use Rattle.adr_values.specs.Table.{Attribute, Class, Table, attribute_at, class_at, has, is_superior, kind_at}

abbrev pub rises : List ℕ → Bool
rises [] = true
rises (n ∷ ns) = list_all (nat_lt n) ns && rises ns

sorted_from_rises : (ns : List ℕ) → rises ns ≡ true → IsStrictlySortedBy nat_cmp ns
unfolding IsStrictlySortedBy
sorted_from_rises [] h = tt
sorted_from_rises (n ∷ ns) h =
    let parts = and_parts (list_all (nat_lt n) ns) (rises ns) h in
    (below ns parts.0, sorted_from_rises ns parts.1)
  where
    below : (ms : List ℕ) → list_all (nat_lt n) ms ≡ true → AllByRecursion (λ m. nat_cmp n m ≡ Less) ms
    below [] h = tt
    below (m ∷ ms) h =
        let parts = and_parts (nat_lt n m) (list_all (nat_lt n) ms) h in
        (rw parts.0 refl, below ms parts.1)

module _ {X : Type 0} (q : X → Bool) where
  passes_at : (xs : List X) → list_all q xs ≡ true → (k : ℕ) (x : X) → slice_get xs k ≡ Some x → q x ≡ true
  passes_at [] all k x at = cc
  passes_at (y ∷ ys) all zero x at = let same : y ≡ x = cc in rw (← same) (and_parts (q y) (list_all q ys) all).0
  passes_at (y ∷ ys) all (suc k) x at = passes_at ys (and_parts (q y) (list_all q ys) all).1 k x at

  -- what is found passes, where all do
  found_passes : (p : X → Bool) (xs : List X) → list_all q xs ≡ true → (x : X) → find p xs ≡ Some x → (p x ≡ true) × (q x ≡ true)
  found_passes p [] all x found = cc
  found_passes p (y ∷ ys) all x found = step (p y) refl (and_parts (q y) (list_all q ys) all) found (found_passes p ys)
    where
      step : (b : Bool) → p y ≡ b → (q y ≡ true) × (list_all q ys ≡ true) → cond b (Some y) (find p ys) ≡ Some x
          → (list_all q ys ≡ true → (z : X) → find p ys ≡ Some z → (p z ≡ true) × (q z ≡ true)) → (p x ≡ true) × (q x ≡ true)
      step true e all found rest = let same : y ≡ x = cc in rw (← same) (e, all.0)
      step false e all found rest = rest all.1 x found

-- whether a kind is that of a back link of an attribute, or of a forward link of one
abbrev is_back_of : ℕ → Option Kind → Bool
is_back_of forward (Some (Back other)) = other == forward
is_back_of forward _ = false

abbrev is_forward_of : ℕ → Option Kind → Bool
is_forward_of back (Some (Forward other)) = other == back
is_forward_of back _ = false

is_back : (forward : ℕ) (kind : Option Kind) → is_back_of forward kind ≡ true → kind ≡ Some (Back forward)
is_back forward (Some (Back other)) h = ap (λ n. Some (Back n)) (eqb-true other forward h)
is_back forward kind h = cc

is_forward : (back : ℕ) (kind : Option Kind) → is_forward_of back kind ≡ true → kind ≡ Some (Forward back)
is_forward back (Some (Forward other)) h = ap (λ n. Some (Forward n)) (eqb-true other back h)
is_forward back kind h = cc

-- whether the other end of a link has its link
abbrev is_paired : Table → ℕ → Kind → Bool
is_paired t number Reserved = true
is_paired t number (Plain syntax most) = true
is_paired t number (Forward back) = is_back_of number (kind_at t back)
is_paired t number (Back forward) = is_forward_of number (kind_at t forward)

abbrev pub all_paired : Table → Bool
all_paired t = list_all (λ a. is_paired t a.number a.kind) t.attributes

-- whether the back link of a link is the next attribute
abbrev is_next : ℕ → Kind → Bool
is_next number (Forward back) = back == number + 1
is_next number _ = true

abbrev pub all_next : Table → Bool
all_next t = list_all (λ a. is_next a.number a.kind) t.attributes

-- what all attributes pass, the one of a number does
of_kind : (t : Table) (q : ℕ → Kind → Bool) → list_all (λ (a : Attribute). q a.number a.kind) t.attributes ≡ true → (attr : ℕ) (kind : Kind) → kind_at t attr ≡ Some kind → q attr kind ≡ true
of_kind t q all attr kind at = step (attribute_at t attr) refl at
  where
    step : (o : Option Attribute) → attribute_at t attr ≡ o → option_map (λ a. a.kind) o ≡ Some kind → q attr kind ≡ true
    step None e h = cc
    step (Some a) e h =
        let here = found_passes (λ (b : Attribute). q b.number b.kind) (λ b. b.number == attr) t.attributes all a e in
        let same : a.kind ≡ kind = cc in
        rw (← same, ← (eqb-true a.number attr here.0)) here.1

abbrev pub none_under_lost : Table → Bool
none_under_lost t = list_all (λ c. not (has c.superiors 2)) t.classes

not_under_lost : (t : Table) → none_under_lost t ≡ true → (class : ℕ) → is_superior t class 2 ≡ false
not_under_lost t all class = step (class_at t class) refl
  where
    false_from_not : (b : Bool) → not b ≡ true → b ≡ false
    false_from_not true h = cc
    false_from_not false h = refl

    step : (o : Option Class) → class_at t class ≡ o → has (option_map_or (λ c. c.superiors) o []) 2 ≡ false
    step None e = refl
    step (Some c) e = false_from_not (has c.superiors 2) (found_passes (λ (d : Class). not (has d.superiors 2)) (λ d. d.number == class) t.classes all c e).1

pub orderly : (t : Table) → rises (map (λ c. c.number) t.classes) ≡ true → rises (map (λ a. a.number) t.attributes) ≡ true
    → list_all (λ (c : Class). rises c.must) t.classes ≡ true → all_paired t ≡ true → all_next t ≡ true → none_under_lost t ≡ true → IsOrderly t
orderly t classes attributes musts links next lost = record {
  classes = sorted_from_rises (map (λ c. c.number) t.classes) classes;
  attributes = sorted_from_rises (map (λ a. a.number) t.attributes) attributes;
  musts = λ place c at. sorted_from_rises c.must (passes_at (λ (d : Class). rises d.must) t.classes musts place c at);
  links = λ forward back. (
    (λ at. is_back forward (kind_at t back) (of_kind t (is_paired t) links forward (Forward back) at)),
    (λ at. is_forward back (kind_at t forward) (of_kind t (is_paired t) links back (Back forward) at)),
  );
  next = λ forward back at. eqb-true back (forward + 1) (of_kind t is_next next forward (Forward back) at);
  lost_and_found = not_under_lost t lost;
}
