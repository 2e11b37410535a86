-- Rows that rise are taken apart into objects and links that rise.
use Rattle.std.proofs.Common.{◌≡◌, ℕ, ◌<◌, Bool, true, false, cond, ltb, eqb, List, [], ◌∷◌, ◌++◌, map, Option, Some, None, refl, sym, ap, subst, ◌∙◌, append_assoc}
use Rattle.std.specs.List.{flat_map, AllByRecursion}
use Rattle.std.specs.List.Sorted.{IsStrictlySortedBy}
use Rattle.std.specs.Ordering.{is_eq, is_lt, nat_cmp, ordering_then}
use Rattle.std.specs.declared.cmp.Ordering.{Ordering}
use Rattle.std.specs.declared.cmp.Ordering.TheVariants.{Less, Equal, Greater}
use Rattle.std.proofs.lemmas.Bool.{ltb-true}
use Rattle.std.proofs.lemmas.Cmp.{tied_itself}
use Rattle.adr_values.specs.declared.stamp.Oid.{Oid}
use Rattle.adr_values.specs.declared.stamp.LinkStamp.{LinkStamp}
use Rattle.adr_values.specs.Order.{object_order, link_order}
use Rattle.adr_values.specs.contracts.stamp.OidOrd.TheImpl.Laws.{total-law as objects_total}
use Rattle.adr_wire.specs.Reading.{is_above}
use Rattle.adr_wire.specs.Ranges.{InTurn}
use Rattle.adr_model.specs.Update.{Key, RowOf, LinkOf, Said, Holds, IsPresent, key_order, same_object}
use Rattle.adr_model.specs.Store.{Held}
use Rattle.adr_model.proofs.Keys.{objects_tell}
use Rattle.adr_image.specs.Image.{HeldRow, Rows, HeldLink}
use Rattle.adr_image.specs.Stored.{AreTidy, IsNotFirst, held_of, link_of, rows_of_object, rows_of, put_row, with_one, apart}
use Rattle.adr_image.proofs.Formed.{EachSorted, keys, attrs, links}

-- ---- objects that are taken apart are tidy

put_tidy : (o : Oid) (h : HeldRow) (xs : List Rows) → AreTidy xs → AreTidy (put_row o h xs)
put_tidy o h [] tidy = ((λ e. cc), tt, tt)
put_tidy o h (x ∷ xs) tidy = by (same_object o x.0) refl
  where
    by : (b : Bool) → same_object o x.0 ≡ b → AreTidy (cond b ((o, h ∷ x.1) ∷ xs) ((o, h ∷ []) ∷ x ∷ xs))
    by true e = ((λ some. cc), subst (λ (p : Oid). IsNotFirst p xs) (sym (objects_tell o x.0 e)) tidy.1, tidy.2)
    by false e = ((λ some. cc), e, tidy)

one_tidy : (key : Key) (said : Said) (stamp : LinkStamp) (local : ℕ) (p : List Rows × List HeldLink) → AreTidy p.0 → AreTidy (with_one key said stamp local p).0
one_tidy (RowOf o attr) (Holds c) stamp local p tidy = put_tidy o (local, (attr, stamp.stamp, c)) p.0 tidy
one_tidy (RowOf o attr) (IsPresent b) stamp local p tidy = tidy
one_tidy (LinkOf l) (Holds c) stamp local p tidy = tidy
one_tidy (LinkOf l) (IsPresent b) stamp local p tidy = tidy

pub apart_tidy : (hs : List Held) → AreTidy (apart hs).0
apart_tidy [] = tt
apart_tidy (h ∷ hs) = one_tidy h.update.key h.update.said h.update.stamp h.local (apart hs) (apart_tidy hs)

-- ---- what rises was read in turn

module _ {K E : Type 0} (R : K → K → Ordering) (key : E → K) where
  abbrev pub AboveLast : Option K → List E → Type 0
  AboveLast None es = Unit {0}
  AboveLast (Some k) es = AllByRecursion (λ x. R k x ≡ Less) (map key es)

  pub unchain : (last : Option K) (es : List E) → IsStrictlySortedBy R (map key es) → AboveLast last es → InTurn key (λ l e. is_above R l (key e) ≡ true) last es
  unfolding IsStrictlySortedBy
  unchain last [] s above = tt
  unchain None (e ∷ es) s above = (refl, unchain (Some (key e)) es s.1 s.0)
  unchain (Some k) (e ∷ es) s above = (ap is_lt above.0, unchain (Some (key e)) es s.1 s.0)

-- ---- parts of rows that rise

abbrev pub Sorted : List Held → Type 0
Sorted hs = IsStrictlySortedBy key_order (keys hs)

-- the rows of the first object, and the others
pub split : (x : Rows) (xs : List Rows) (ls : List HeldLink) → rows_of (x ∷ xs, ls) ≡ map (held_of x.0) x.1 ++ rows_of (xs, ls)
split x xs ls = append_assoc (rows_of_object x) (flat_map rows_of_object xs) (map link_of ls)

own_above : (o : Oid) (a : ℕ) (hs : List HeldRow) (rest : List Held) → AllByRecursion (λ k. key_order (RowOf o a) k ≡ Less) (keys (map (held_of o) hs ++ rest)) → AllByRecursion (λ b. nat_cmp a b ≡ Less) (attrs hs)
own_above o a [] rest all = tt
own_above o a (h ∷ hs) rest all = (ap (λ (w : Ordering). ordering_then w (nat_cmp a h.1.0)) (sym (tied_itself objects_total o)) ∙ all.0, own_above o a hs rest all.1)

pub front_sorted : (o : Oid) (hs : List HeldRow) (rest : List Held) → Sorted (map (held_of o) hs ++ rest) → IsStrictlySortedBy nat_cmp (attrs hs) × Sorted rest
unfolding IsStrictlySortedBy
front_sorted o [] rest s = (tt, s)
front_sorted o (h ∷ hs) rest s = let r = front_sorted o hs rest s.1 in ((own_above o h.1.0 hs rest s.0, r.0), r.1)

pub each_rises : (os : List Rows) (ls : List HeldLink) → Sorted (rows_of (os, ls)) → EachSorted os × Sorted (map link_of ls)
each_rises [] ls s = (tt, s)
each_rises (x ∷ xs) ls s =
    let f = front_sorted x.0 x.1 (rows_of (xs, ls)) (subst Sorted (split x xs ls) s) in
    let r = each_rises xs ls f.1 in
    ((f.0, r.0), r.1)

pub links_rise : (ls : List HeldLink) → Sorted (map link_of ls) → IsStrictlySortedBy link_order (links ls)
unfolding IsStrictlySortedBy
links_rise [] s = tt
links_rise (l ∷ ls) s = (all ls s.0, links_rise ls s.1)
  where
    all : (ms : List HeldLink) → AllByRecursion (λ j. key_order (LinkOf l.1.0) j ≡ Less) (keys (map link_of ms)) → AllByRecursion (λ m. link_order l.1.0 m ≡ Less) (links ms)
    all [] h = tt
    all (m ∷ ms) h = (h.0, all ms h.1)

-- ---- objects that are neighbours rise

row_behind_row : (o p : Oid) (a : ℕ) (hs : List HeldRow) (g : HeldRow) (rest : List Held) → AllByRecursion (λ k. key_order (RowOf o a) k ≡ Less) (keys (map (held_of o) hs ++ (held_of p g ∷ rest)))
    → ordering_then (object_order o p) (nat_cmp a g.1.0) ≡ Less
row_behind_row o p a [] g rest all = all.0
row_behind_row o p a (h ∷ hs) g rest all = row_behind_row o p a hs g rest all.1

less_then : (w v : Ordering) → is_eq w ≡ false → ordering_then w v ≡ Less → is_lt w ≡ true
less_then Less v d e = refl
less_then Equal v d e = absurd (cc)
less_then Greater v d e = absurd (cc)

next_above : (o p : Oid) (hs gs : List HeldRow) (rest : List Held) → (hs ≡ [] → ⊥) → (gs ≡ [] → ⊥) → same_object o p ≡ false → Sorted (map (held_of o) hs ++ (map (held_of p) gs ++ rest))
    → is_lt (object_order o p) ≡ true
unfolding IsStrictlySortedBy
next_above o p [] gs rest some other differ s = absurd (some refl)
next_above o p (h ∷ hs) [] rest some other differ s = absurd (other refl)
next_above o p (h ∷ hs) (g ∷ gs) rest some other differ s =
    less_then (object_order o p) (nat_cmp h.1.0 g.1.0) differ (row_behind_row o p h.1.0 hs g (map (held_of p) gs ++ rest) s.0)

abbrev pub NextName : Option Oid → Rows → Type 0
NextName last x = is_above object_order last x.0 ≡ true

names_behind : (x : Rows) (xs : List Rows) (ls : List HeldLink) → AreTidy (x ∷ xs) → Sorted (rows_of (x ∷ xs, ls)) → InTurn (λ (o : Rows). o.0) NextName (Some x.0) xs
names_behind x [] ls tidy s = tt
names_behind x (y ∷ ys) ls tidy s =
    let two : Sorted (map (held_of x.0) x.1 ++ (map (held_of y.0) y.1 ++ rows_of (ys, ls))) = subst Sorted (split x (y ∷ ys) ls ∙ ap (λ (hs : List Held). map (held_of x.0) x.1 ++ hs) (split y ys ls)) s in
    let one : Sorted (map (held_of y.0) y.1 ++ rows_of (ys, ls)) = (front_sorted x.0 x.1 (map (held_of y.0) y.1 ++ rows_of (ys, ls)) two).1 in
    (next_above x.0 y.0 x.1 y.1 (rows_of (ys, ls)) tidy.0 tidy.2.0 tidy.1 two, names_behind y ys ls tidy.2 (subst Sorted (sym (split y ys ls)) one))

pub names_in_turn : (os : List Rows) (ls : List HeldLink) → AreTidy os → Sorted (rows_of (os, ls)) → InTurn (λ (o : Rows). o.0) NextName None os
names_in_turn [] ls tidy s = tt
names_in_turn (x ∷ xs) ls tidy s = (refl, names_behind x xs ls tidy s)

-- ---- numbers

pub less_is : (a b : ℕ) → nat_cmp a b ≡ Less → a < b
less_is a b e = by (ltb a b) refl e
  where
    by : (t : Bool) → ltb a b ≡ t → cond t Less (cond (eqb a b) Equal Greater) ≡ Less → a < b
    by true t h = ltb-true a b t
    by false t h = absurd (other (eqb a b) h)
      where
        other : (u : Bool) → cond u Equal Greater ≡ Less → ⊥
        other true h = cc
        other false h = cc
