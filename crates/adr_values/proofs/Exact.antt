-- Where nothing is refused is where the schema allows what is given.
use Rattle.std.proofs.Common.{◌≡◌, ℕ, ◌<◌, ◌≤◌, ◌⊎◌, List, length, take, Bool, true, false, not, nat_le, get_or, None, Some, Decides, inl, inr, refl, sym, ap, ◌∙◌, zero-add, arith}
use Rattle.std.specs.List.{list_any, range_with_len, slice_get}
use Rattle.std.specs.Ordering.{is_eq, bool_cmp}
use Rattle.std.proofs.lemmas.Bool.{or_parts, cases_lt, le-leb, leb-true, false≢true}
use Rattle.std.proofs.lemmas.Bool.Decides.{Decides-int_eq}
use Rattle.std.proofs.lemmas.Slice.Eq.{bytes_eq-Decides}
use Rattle.std.proofs.lemmas.Option.{slice_get_within, slice_get_cases}
use Rattle.adr_values.specs.declared.content.Value.{Value as Item}
use Rattle.adr_values.specs.declared.content.Value.TheVariants.{Text, Number, Flag, Octets, Ref}
use Rattle.adr_values.specs.declared.table.Syntax.{Syntax}
use Rattle.adr_values.specs.Allowed.{AreAllowed}
use Rattle.adr_values.specs.Values.{bad_place, fits, is_bad_at, is_misplaced, same_value}
use Rattle.adr_values.proofs.Firsts.{false_from_refuted, true_from_not, none_passes, none_from_each, any-take, none-take, slice_get-range_with_len, in_range}

Decides-flags : (a b : Bool) → Decides (is_eq (bool_cmp a b)) (a ≡ b)
Decides-flags true true = (λ e. refl, λ e. refl)
Decides-flags true false = (λ e. cc, λ e. cc)
Decides-flags false true = (λ e. cc, λ e. cc)
Decides-flags false false = (λ e. refl, λ e. refl)

-- two values are one exactly where they are equal
pub same_value-Decides : (a b : Item) → Decides (same_value a b) (a ≡ b)
same_value-Decides (Text a) (Text b) = (λ e. ap Text ((bytes_eq-Decides a b).0 e), λ e. (bytes_eq-Decides a b).1 (cc))
same_value-Decides (Number a) (Number b) = (λ e. ap Number ((Decides-int_eq a b).0 e), λ e. (Decides-int_eq a b).1 (cc))
same_value-Decides (Flag a) (Flag b) = (λ e. ap Flag ((Decides-flags a b).0 e), λ e. (Decides-flags a b).1 (cc))
same_value-Decides (Octets a) (Octets b) = (λ e. ap Octets ((bytes_eq-Decides a b).0 e), λ e. (bytes_eq-Decides a b).1 (cc))
same_value-Decides (Ref a) (Ref b) = (λ e. ap Ref ((bytes_eq-Decides a b).0 e), λ e. (bytes_eq-Decides a b).1 (cc))
same_value-Decides a b = (λ e. cc, λ e. cc)

module _ (syntax : Syntax) (most : ℕ) (values : List Item) where
  -- what is known of a place that is not bad
  good_at : bad_place syntax most values ≡ None → (place : ℕ) → place < length values → (nat_le most place ≡ false) × (is_misplaced syntax (take place values) (slice_get values place) ≡ false)
  unfolding bad_place
  good_at none place below =
      or_parts (nat_le most place) (is_misplaced syntax (take place values) (slice_get values place))
      (none_passes (is_bad_at syntax most values) (range_with_len 0 (length values)) none place place (slice_get-range_with_len 0 (length values) place place below (zero-add place)))

  few : bad_place syntax most values ≡ None → (most < length values) ⊎ (length values ≤ most) → length values ≤ most
  few none (inl over) = absurd (false≢true (sym (good_at none most over).0 ∙ le-leb most most (omega arith)))
  few none (inr within) = within

  -- what is known of a value at a good place
  well_at : bad_place syntax most values ≡ None → (place : ℕ) (v : Item) → slice_get values place ≡ Some v → (not (fits syntax v) ≡ false) × (list_any (λ w. same_value w v) (take place values) ≡ false)
  well_at none place v at =
      let good = (good_at none place (slice_get_within values place v at)).1 in
      or_parts (not (fits syntax v)) (list_any (λ w. same_value w v) (take place values)) (rw at at good)

  pub allowed_from_none : bad_place syntax most values ≡ None → AreAllowed syntax most values
  allowed_from_none none = record {
    few = few none (cases_lt most (length values));
    fit = λ place v at. true_from_not (fits syntax v) (well_at none place v at).0;
    differ = λ earlier place v before there at. false≢true (sym (well_at none place v at).1 ∙ any-take (λ w. same_value w v) values earlier place v before there ((same_value-Decides v v).1 refl));
  }

  -- a value that is allowed is well placed
  well_placed : AreAllowed syntax most values → (place : ℕ) (v : Item) → slice_get values place ≡ Some v → is_misplaced syntax (take place values) (Some v) ≡ false
  well_placed allowed place v at =
      let fit : fits syntax v ≡ true = allowed.fit place v at in
      let alone : list_any (λ w. same_value w v) (take place values) ≡ false =
      none-take (λ w. same_value w v) values place (λ earlier w before there. false_from_refuted (same_value w v) (λ same. allowed.differ earlier place v before (there ∙ ap Some ((same_value-Decides w v).0 same)) at)) in
      rw (fit, alone) refl

  not_bad : AreAllowed syntax most values → (place : ℕ) → place < length values → is_bad_at syntax most values place ≡ false
  not_bad allowed place below = found (slice_get_cases values place).1
    where
      under : nat_le most place ≡ false
      under = false_from_refuted (nat_le most place) (λ over. let past : most ≤ place = leb-true most place over in omega (arith, allowed.few))

      found : ((x : Item) × (place < length values) × (slice_get values place ≡ Some x) × (get_or values place x ≡ x)) ⊎ ((length values ≤ place) × (slice_get values place ≡ None)) → is_bad_at syntax most values place ≡ false
      found (inl there) = rw (under, there.2, well_placed allowed place there.0 there.2) refl
      found (inr past) = absurd (omega (arith, past.0))

  pub none_from_allowed : AreAllowed syntax most values → bad_place syntax most values ≡ None
  unfolding bad_place
  none_from_allowed allowed =
      none_from_each (is_bad_at syntax most values) (range_with_len 0 (length values))
      (λ k place at. let there = in_range 0 (length values) k place at in not_bad allowed place (omega (arith, there.0, there.1)))
