-- What is read of an image is a store whose image it is.
use Rattle.std.proofs.Common.{◌≡◌, ℕ, Bool, true, false, List, [], ◌∷◌, map, Option, Some, None, refl, ap, subst}
use Rattle.std.specs.Prelude.{◌&&◌}
use Rattle.std.specs.List.{AllByRecursion}
use Rattle.std.specs.List.Sorted.{IsStrictlySortedBy}
use Rattle.std.specs.Ordering.{is_eq, is_lt, nat_cmp}
use Rattle.std.specs.declared.cmp.Ordering.{Ordering}
use Rattle.std.specs.declared.cmp.Ordering.TheVariants.{Less, Equal, Greater}
use Rattle.std.specs.Cmp.{IsTotalOrder}
use Rattle.adr_values.specs.declared.stamp.Oid.{Oid}
use Rattle.adr_values.specs.Order.{object_order, link_order}
use Rattle.adr_values.specs.declared.content.Content.{Content}
use Rattle.adr_values.specs.declared.content.Content.TheVariants.{Class, Name, Dead, Values}
use Rattle.adr_values.specs.Table.{Table}
use Rattle.adr_values.specs.Numbered.{numbered}
use Rattle.adr_wire.specs.Reading.{is_above}
use Rattle.adr_wire.specs.Ranges.{InTurn}
use Rattle.adr_model.specs.Update.{same_object}
use Rattle.adr_image.specs.declared.rows.Before.{Before}
use Rattle.adr_wire.specs.Gathering.{Along}
use Rattle.adr_image.specs.Image.{HeldRow, Rows, HeldLink, with_held, Earlier, no_objects, with_rows, is_whole, Linked, with_link}
use Rattle.adr_image.specs.Whole.{Parts}
use Rattle.adr_image.specs.Ranged.{IsHeldRow, IsObjectIn, IsLinkIn, AreParts}
use Rattle.adr_image.specs.Stored.{AreTidy, IsNotFirst, store_of, parts_in}
use Rattle.adr_image.proofs.Parting.{apart_again}

-- ---- rising keys

pub less_from_test : (o : Ordering) → is_lt o ≡ true → o ≡ Less
less_from_test Less h = refl
less_from_test Equal h = absurd (cc)
less_from_test Greater h = absurd (cc)

module _ {K : Type 0} (R : K → K → Ordering) (total : IsTotalOrder R) where
  abbrev pub AboveAll : Option K → List K → Type 0
  AboveAll None ks = Unit {0}
  AboveAll (Some k) ks = AllByRecursion (λ x. R k x ≡ Less) ks

  pub all_above : (j k : K) (ks : List K) → R j k ≡ Less → AllByRecursion (λ x. R k x ≡ Less) ks → AllByRecursion (λ x. R j x ≡ Less) ks
  all_above j k [] less all = tt
  all_above j k (x ∷ xs) less all = (total.trans j k x less all.0, all_above j k xs less all.1)

  none_above : (last : Option K) → AboveAll last []
  none_above None = tt
  none_above (Some k) = tt

  above_more : (last : Option K) (k : K) (ks : List K) → is_above R last k ≡ true → AboveAll (Some k) ks → AboveAll last (k ∷ ks)
  above_more None k ks h all = tt
  above_more (Some j) k ks h all = let less = less_from_test (R j k) h in (less, all_above j k ks less all)

  module _ {E : Type 0} (key : E → K) where
    abbrev Next : Option K → E → Type 0
    Next last e = is_above R last (key e) ≡ true

    pub chain : (last : Option K) (es : List E) → InTurn key Next last es → IsStrictlySortedBy R (map key es) × AboveAll last (map key es)
    unfolding IsStrictlySortedBy
    chain last [] h = (tt, none_above last)
    chain last (e ∷ es) h = let rest = chain (Some (key e)) es h.1 in ((rest.1, rest.0), above_more last (key e) (map key es) h.0 rest.1)

-- ---- what was read in turn

pub attr_told : (b : Before) (local attr : ℕ) (s : _) (c : Content) → (with_held b (local, (attr, s, c))).attr ≡ Some attr
attr_told b local attr s (Class n) = refl
attr_told b local attr s (Name t p) = refl
attr_told b local attr s Dead = refl
attr_told b local attr s (Values vs) = refl

module _ (usn : ℕ) (table : Table) where
  pub rows_in_turn : (o : Oid) (b : Before) (hs : List HeldRow) → Along with_held (IsHeldRow usn table o) b hs → InTurn (λ (h : HeldRow). h.1.0) (λ last h. is_above nat_cmp last h.1.0 ≡ true) b.attr hs
  rows_in_turn o b [] along = tt
  rows_in_turn o b (h ∷ hs) along =
      (along.0.0.1.1, subst (λ (last : Option ℕ). InTurn (λ (h : HeldRow). h.1.0) (λ last h. is_above nat_cmp last h.1.0 ≡ true) last hs) (attr_told b h.0 h.1.0 h.1.1 h.1.2) (rows_in_turn o (with_held b h) hs along.1))

  pub objects_in_turn : (e : Earlier) (os : List Rows) → Along with_rows (IsObjectIn usn table) e os → InTurn (λ (o : Rows). o.0) (λ last o. is_above object_order last o.0 ≡ true) e.last os
  objects_in_turn e [] along = tt
  objects_in_turn e (o ∷ os) along = (along.0.0.0.1, objects_in_turn (with_rows e o) os along.1)

  both_true : (a b : Bool) → (a && b) ≡ true → a ≡ true
  both_true true b e = refl
  both_true false b e = absurd (cc)

  pub links_in_turn : (dead : List Oid) (k : Linked) (ls : List HeldLink) → Along with_link (IsLinkIn usn table dead) k ls → InTurn (λ (l : HeldLink). l.1.0) (λ last l. is_above link_order last l.1.0 ≡ true) k.last ls
  links_in_turn dead k [] along = tt
  links_in_turn dead k (l ∷ ls) along = (both_true (is_above link_order k.last l.1.0) _ along.0.0.1.1, links_in_turn dead (with_link k l) ls along.1)

  -- ---- objects that were read are tidy

  some_row : (rows : List HeldRow) (used : List ℕ) → is_whole table used rows ≡ true → rows ≡ [] → ⊥
  some_row [] used whole none = absurd (cc)
  some_row (h ∷ hs) used whole none = absurd (cc)

  other_one : (o p : Oid) → is_lt (object_order o p) ≡ true → same_object o p ≡ false
  other_one o p less = ap is_eq (less_from_test (object_order o p) less)

  first_differs : (e : Earlier) (o : Rows) (os : List Rows) → Along with_rows (IsObjectIn usn table) (with_rows e o) os → IsNotFirst o.0 os
  first_differs e o [] along = tt
  first_differs e o (p ∷ ps) along = other_one o.0 p.0 along.0.0.0.1

  tidy : (e : Earlier) (os : List Rows) → Along with_rows (IsObjectIn usn table) e os → AreTidy os
  tidy e [] along = tt
  tidy e (o ∷ os) along = (some_row o.1 e.used along.0.1, first_differs e o os along.1, tidy (with_rows e o) os along.1)

-- what was put into a store comes out of it
pub parts_again_in : (p : Parts) → AreParts p → parts_in (store_of p) ≡ p
parts_again_in p q =
    ap (λ (a : List Rows × List HeldLink). let x : Parts = record { schema = p.schema; usn = p.usn; vector = p.vector; times = p.times; purged = p.purged; marks = p.marks; objects = a.0; links = a.1 } in x)
    (apart_again p.links p.objects (tidy p.usn (numbered p.schema) no_objects p.objects q.objects.1))
