-- Where a row is not refused is where it may be held, and what is written may be held.
use Rattle.std.proofs.Common.{◌≡◌, ℕ, zero, suc, List, [], ◌∷◌, length, Bool, true, false, ◌&&◌, ◌==◌, None, Some, refl, ap, ◌∙◌}
use Rattle.std.specs.Bool.{then_some}
use Rattle.std.specs.Option.{option_or}
use Rattle.std.specs.List.{AllByRecursion, slice_get}
use Rattle.std.specs.List.Sorted.{IsStrictlySortedBy}
use Rattle.std.specs.Ordering.{nat_cmp, ordering_reverse}
use Rattle.std.specs.declared.cmp.Ordering.TheVariants.{Less, Equal, Greater}
use Rattle.std.proofs.lemmas.Cmp.{nat_cmp_total, tied_itself}
use Rattle.adr_values.specs.declared.content.Value.{Value as Item}
use Rattle.adr_values.specs.declared.refusal.SchemaRefusal.TheVariants.{BadValue}
use Rattle.adr_values.specs.Allowed.{MayBeAdded, MayBeHeld, MayBeModified}
use Rattle.adr_values.specs.Assignments.{Given, attributes, given}
use Rattle.adr_values.specs.Rules.{add_refusal, modify_refusal, row_refusal, values_refusal}
use Rattle.adr_values.specs.Table.{Table, is_must}
use Rattle.adr_values.proofs.ExactCalls.{neither, not_then, allowed_attribute, attribute_allowed, filled, not_empty, may_be_added, may_be_modified}

-- in a list that rises, what is given at a place is what its attribute is given
given_at : (gs : List Given) → IsStrictlySortedBy nat_cmp (attributes gs) → (place : ℕ) (g : Given) → slice_get gs place ≡ Some g → given g.0 gs ≡ Some g.1
unfolding IsStrictlySortedBy
given_at [] rising place g at = cc
given_at (f ∷ fs) rising zero g at =
    let same : f ≡ g = cc in
    let tied : nat_cmp g.0 f.0 ≡ Equal = rw same (tied_itself nat_cmp_total g.0) in
    rw (tied, same) refl
given_at (f ∷ fs) rising (suc place) g at =
    let below : nat_cmp f.0 g.0 ≡ Less = behind fs rising.0 place at in
    let above : nat_cmp g.0 f.0 ≡ Greater = nat_cmp_total.antisymm g.0 f.0 ∙ ap ordering_reverse below in
    rw above (given_at fs rising.1 place g at)
  where
    behind : (es : List Given) → AllByRecursion (λ attr. nat_cmp f.0 attr ≡ Less) (attributes es) → (k : ℕ) → slice_get es k ≡ Some g → nat_cmp f.0 g.0 ≡ Less
    behind [] all k there = cc
    behind (e ∷ es) all zero there = let same : e ≡ g = cc in rw (← same) all.0
    behind (e ∷ es) all (suc k) there = behind es all.1 k there

module _ (t : Table) (class : ℕ) where
  pub may_be_held : (attr : ℕ) (values : List Item) → row_refusal t (Some class) attr values ≡ None → MayBeHeld t class attr values
  unfolding row_refusal
  may_be_held attr values none =
      let parts = neither (values_refusal t (Some class) attr values) (option_or (then_some (is_must t (Some class) attr && (length values == 0)) (BadValue attr 0)) None) none in
      let empty = not_then (is_must t (Some class) attr && (length values == 0)) (BadValue attr 0) (neither (then_some (is_must t (Some class) attr && (length values == 0)) (BadValue attr 0)) None parts.1).0 in
      record {
        allowed = allowed_attribute t class attr values parts.0;
        filled = λ must. filled t class values (second (is_must t (Some class) attr) (length values == 0) must empty);
      }
    where
      second : (a b : Bool) → a ≡ true → (a && b) ≡ false → b ≡ false
      second true b e h = h
      second false b e h = cc

  pub not_refused_held : (attr : ℕ) (values : List Item) → MayBeHeld t class attr values → row_refusal t (Some class) attr values ≡ None
  unfolding row_refusal
  not_refused_held attr values may =
      let right = not_both (is_must t (Some class) attr) (length values == 0) (λ must. not_empty t class values (may.filled must)) in
      rw (attribute_allowed t class attr values may.allowed, right) refl
    where
      not_both : (a b : Bool) → (a ≡ true → b ≡ false) → (a && b) ≡ false
      not_both true b h = h refl
      not_both false b h = refl

  pub added_may_be_held : (gs : List Given) → add_refusal t class gs ≡ None → (place : ℕ) (g : Given) → slice_get gs place ≡ Some g → row_refusal t (Some class) g.0 g.1 ≡ None
  added_may_be_held gs none place g at =
      let may : MayBeAdded t class gs = may_be_added t class gs none in
      not_refused_held g.0 g.1 record { allowed = may.allowed place g at; filled = λ must. may.filled place g at }

  pub modified_may_be_held : (gs : List Given) → IsStrictlySortedBy nat_cmp (attributes gs) → modify_refusal t class gs ≡ None
      → (place : ℕ) (g : Given) → slice_get gs place ≡ Some g → row_refusal t (Some class) g.0 g.1 ≡ None
  modified_may_be_held gs rising none place g at =
      let may : MayBeModified t class gs = may_be_modified t class gs none in
      not_refused_held g.0 g.1 record {
        allowed = may.allowed place g at;
        filled = λ must gone. may.whole g.0 must (given_at gs rising place g at ∙ ap Some gone);
      }
