-- Hints of the links to an object, from one to the next.
use Rattle.std.proofs.Common.{◌≡◌, ◌⊎◌, inl, inr, refl, sym, ap, ◌∙◌, subst, ℕ, List, [], ◌∷◌, Bool, true, false, not, ◌&&◌, ◌||◌, Option, Some, None, filter}
use Rattle.std.specs.Prelude.{IsSome}
use Rattle.std.specs.List.{AllByRecursion, list_any}
use Rattle.std.specs.List.Sorted.{IsStrictlySortedBy}
use Rattle.std.specs.Option.{option_cmp}
use Rattle.std.specs.BTreeMap.{is_at}
use Rattle.std.specs.BTreeMap.Range.{IsLeBy, range_contains}
use Rattle.std.specs.Ordering.{is_eq, is_gt, is_le, ordering_then}
use Rattle.std.specs.declared.ops.Bound.TheVariants.{Included, Unbounded}
use Rattle.std.specs.declared.cmp.Ordering.{Ordering}
use Rattle.std.specs.declared.cmp.Ordering.TheVariants.{Less, Equal, Greater}
use Rattle.std.proofs.lemmas.Cmp.{tied_itself}
use Rattle.std.proofs.lemmas.List.Kept.{IsStrictlySortedBy-filter}
use Rattle.std.proofs.lemmas.Map.Keys.{sorted_head, sorted_tail}
use Rattle.std.proofs.lemmas.Map.Views.{any-filter_same}
use Rattle.std.proofs.lemmas.Map.Lookups.{CmpEqualImpliesEq, exact_pairs, exact_unsigned}
use Rattle.adr_values.specs.declared.stamp.Oid.{Oid}
use Rattle.adr_values.specs.declared.stamp.LinkKey.{LinkKey}
use Rattle.adr_values.specs.Order.{object_order}
use Rattle.adr_values.proofs.ExactOrders.{exact_objects}
use Rattle.adr_values.specs.contracts.stamp.OidOrd.TheImpl.Laws.{total-law as objects_total}
use Rattle.adr_model.proofs.Keys.{equal_order}
use Rattle.adr_model.specs.Update.{Key, LinkOf, same_object}
use Rattle.adr_model.specs.Store.{Held}
use Rattle.adr_update.proofs.Starts.{from_all}
use Rattle.adr_table.specs.declared.back.Source.{Source}
use Rattle.adr_table.specs.declared.back.Behind.{Behind}
use Rattle.adr_shelves.specs.Place.{place_of, place_order}
use Rattle.adr_update.specs.Sought.{is_link_to}
use Rattle.adr_table.specs.Back.{source_order, behind_order, hint, is_place_of, link_behind}
use Rattle.adr_shelves.proofs.Places.{places_total, exact_options, same_place}

-- ---- hints

exact_sources : CmpEqualImpliesEq source_order
exact_sources a b h =
    ap (λ (p : Oid × ℕ). let s : Source = record { object = p.0; attr = p.1 } in s) (exact_pairs _ _ exact_objects exact_unsigned (a.object, a.attr) (b.object, b.attr) h)

pub exact_behinds : CmpEqualImpliesEq behind_order
exact_behinds a b h =
    ap (λ (p : Oid × Option Source). let s : Behind = record { to = p.0; from = p.1 } in s) (exact_pairs _ _ exact_objects (exact_options exact_sources) (a.to, a.from) (b.to, b.from) h)

-- a hint of an object is of no row that isn't of a link to it
pub other_row : (o : Oid) (b : Behind) (k : Key) → same_object b.to o ≡ true → is_link_to o k ≡ false → is_place_of (link_behind b) (place_of k) ≡ false
other_row o b k to other = by b.from
  where
    at : (s : Source) (t : Bool) → is_at (place_order (place_of (LinkOf (record { from = s.object; attr = s.attr; to = b.to })))) (place_of k) ≡ t → t ≡ false
    at s true is =
        let same = same_place (LinkOf (record { from = s.object; attr = s.attr; to = b.to })) k is in
        let no : true ≡ false = sym to ∙ (ap (is_link_to o) same ∙ other) in cc
    at s false is = refl

    by : (f : Option Source) → is_place_of (link_behind (record { to = b.to; from = f })) (place_of k) ≡ false
    by None = refl
    by (Some s) = at s (is_at (place_order (place_of (LinkOf (record { from = s.object; attr = s.attr; to = b.to })))) (place_of k)) refl

-- the hint of a link is of its row
pub own_row : (b : Behind) (l : LinkKey) → is_at (behind_order (hint l)) b ≡ true → is_place_of (link_behind b) (place_of (LinkOf l)) ≡ true
own_row b l at =
    subst (λ c. is_place_of (link_behind c) (place_of (LinkOf l)) ≡ true) (exact_behinds (hint l) b (equal_order (behind_order (hint l) b) at))
    (ap is_eq (tied_itself places_total (place_of (LinkOf l))))

-- ---- the hints that are left

-- at the first hint of another object none of this object is left
abbrev pub Stops : Oid → List Behind → Type 0
Stops o [] = Unit {0}
Stops o (b ∷ bs) = (same_object b.to o ≡ false → (l : LinkKey) → same_object l.to o ≡ true → list_any (is_at (behind_order (hint l))) (b ∷ bs) ≡ false) × Stops o bs

pub stops_here : (o : Oid) (b : Behind) (bs left : List Behind) → left ≡ b ∷ bs → Stops o left → same_object b.to o ≡ false → (l : LinkKey) → same_object l.to o ≡ true → list_any (is_at (behind_order (hint l))) left ≡ false
stops_here o b bs left is s other l to = subst (λ xs. list_any (is_at (behind_order (hint l))) xs ≡ false) (sym is) ((subst (Stops o) is s).0 other l to)

pub stops_later : (o : Oid) (b : Behind) (bs left : List Behind) → left ≡ b ∷ bs → Stops o left → Stops o bs
stops_later o b bs left is s = (subst (Stops o) is s).1

pub first_part : (o p : Ordering) → is_gt (ordering_then o p) ≡ false → is_gt o ≡ false
first_part Less p h = refl
first_part Equal p h = refl
first_part Greater p h = h

less_part : (o p : Ordering) → ordering_then o p ≡ Less → is_gt o ≡ false
less_part Less p h = refl
less_part Equal p h = refl
less_part Greater p h = cc

pub strictly : (x : Ordering) → is_gt x ≡ false → is_eq x ≡ false → x ≡ Less
strictly Less g e = refl
strictly Equal g e = cc
strictly Greater g e = cc

then_less : (o p : Ordering) → o ≡ Less → is_eq (ordering_then o p) ≡ false
then_less Less p e = refl
then_less Equal p e = cc
then_less Greater p e = cc

upto_less : (a b c : Oid) → object_order a b ≡ Less → is_gt (object_order b c) ≡ false → object_order a c ≡ Less
upto_less a b c less g = by (object_order b c) refl g
  where
    by : (x : Ordering) → object_order b c ≡ x → is_gt x ≡ false → object_order a c ≡ Less
    by Less is g = objects_total.trans a b c less is
    by Equal is g = subst (λ d. object_order a d ≡ Less) (exact_objects b c is) less
    by Greater is g = cc

pub symmetric : (a b : Oid) → same_object a b ≡ false → is_eq (object_order b a) ≡ false
symmetric a b e = by (is_eq (object_order b a)) refl
  where
    by : (t : Bool) → is_eq (object_order b a) ≡ t → t ≡ false
    by true is = let same : b ≡ a = exact_objects b a (equal_order (object_order b a) is) in
        let no : true ≡ false = sym (ap is_eq (tied_itself objects_total a)) ∙ subst (λ c. same_object a c ≡ false) same e in cc
    by false is = refl

module _ (o : Oid) where
  abbrev start : Behind
  start = record { to = o; from = None }

  none_of : (l : LinkKey) → same_object l.to o ≡ true → (bs : List Behind) → AllByRecursion (λ b. object_order o b.to ≡ Less) bs → list_any (is_at (behind_order (hint l))) bs ≡ false
  none_of l to [] a = refl
  none_of l to (b ∷ bs) a =
      let same : o ≡ l.to = sym (exact_objects l.to o (equal_order (object_order l.to o) to)) in
      let apart : is_at (behind_order (hint l)) b ≡ false = then_less (object_order l.to b.to) (option_cmp source_order (hint l).from b.from) (subst (λ c. object_order c b.to ≡ Less) same a.0) in
      ap (λ t. t || list_any (is_at (behind_order (hint l))) bs) apart ∙ none_of l to bs a.1

  pub all_later : (b : Behind) → object_order o b.to ≡ Less → (bs : List Behind) → AllByRecursion (λ c. behind_order b c ≡ Less) bs → AllByRecursion (λ c. object_order o c.to ≡ Less) bs
  all_later b less [] a = tt
  all_later b less (c ∷ cs) a = (upto_less o b.to c.to less (less_part (object_order b.to c.to) (option_cmp source_order b.from c.from) a.0), all_later b less cs a.1)

  pub stops : (bs : List Behind) → IsStrictlySortedBy behind_order bs → AllByRecursion (λ b. IsLeBy behind_order start b) bs → Stops o bs
  stops [] sorted from = tt
  stops (b ∷ bs) sorted from = (
    (λ other l to.
        let less = strictly (object_order o b.to) (first_part (object_order o b.to) (option_cmp source_order None b.from) from.0) (symmetric b.to o other) in
        none_of l to (b ∷ bs) (less, all_later b less bs (sorted_head behind_order b bs sorted))),
    stops bs (sorted_tail behind_order b bs sorted) from.1,
  )

-- ---- the hints from an object's first on

pub first_hints : (o : Oid) (bs left : List Behind) → left ≡ filter (range_contains behind_order (Included (record { to = o; from = None })) Unbounded) bs → IsStrictlySortedBy behind_order bs → Stops o left
first_hints o bs left is sorted = subst (Stops o) (sym is) (stops o (filter (range_contains behind_order (Included (record { to = o; from = None })) Unbounded) bs) (IsStrictlySortedBy-filter behind_order (range_contains behind_order (Included (record { to = o; from = None })) Unbounded) bs sorted) (from_all behind_order (record { to = o; from = None }) bs))

pub hinted : (o : Oid) (bs left : List Behind) → left ≡ filter (range_contains behind_order (Included (record { to = o; from = None })) Unbounded) bs
    → (l : LinkKey) → same_object l.to o ≡ true → list_any (is_at (behind_order (hint l))) bs ≡ true → list_any (is_at (behind_order (hint l))) left ≡ true
hinted o bs left is l to any = subst (λ xs. list_any (is_at (behind_order (hint l))) xs ≡ true) (sym is)
    (any-filter_same (is_at (behind_order (hint l))) (range_contains behind_order (Included (record { to = o; from = None })) Unbounded) true from bs ∙ any)
  where
    here : (x : Ordering) → x ≡ Equal → (is_le (ordering_then x Less) && not false) ≡ true
    here Less e = refl
    here Equal e = refl
    here Greater e = cc

    from : (b : Behind) → is_at (behind_order (hint l)) b ≡ true → range_contains behind_order (Included (record { to = o; from = None })) Unbounded b ≡ true
    from b at = subst (λ c. range_contains behind_order (Included (record { to = o; from = None })) Unbounded c ≡ true) (exact_behinds (hint l) b (equal_order (behind_order (hint l) b) at))
        (here (object_order o l.to) (subst (λ p. object_order p l.to ≡ Equal) (exact_objects l.to o (equal_order (object_order l.to o) to)) (tied_itself objects_total l.to)))

pub some_or_none : {P : Type 0} (o : Option Held) → (IsSome o → P) → (o ≡ None) ⊎ P
some_or_none None f = inl refl
some_or_none (Some h) f = inr (f refl)
