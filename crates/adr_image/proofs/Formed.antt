-- Parts that are in range make a store that is formed, as far as its order and its local USNs go.
use Rattle.std.proofs.Common.{◌≡◌, ℕ, ◌≤◌, List, [], ◌∷◌, ◌++◌, map, None, refl, sym, ap, subst, ◌∙◌, inl, inr, append_assoc}
use Rattle.std.specs.List.{flat_map, AllByRecursion}
use Rattle.std.specs.List.Sorted.{IsStrictlySortedBy}
use Rattle.std.specs.Ordering.{nat_cmp, ordering_then}
use Rattle.std.specs.declared.cmp.Ordering.{Ordering}
use Rattle.std.specs.declared.cmp.Ordering.TheVariants.{Less}
use Rattle.std.proofs.lemmas.Bool.{leb-true}
use Rattle.std.proofs.lemmas.Cmp.{tied_itself, nat_cmp_total}
use Rattle.adr_values.specs.declared.stamp.Oid.{Oid}
use Rattle.adr_values.specs.declared.stamp.LinkKey.{LinkKey}
use Rattle.adr_values.specs.Order.{object_order, link_order}
use Rattle.adr_values.specs.contracts.stamp.OidOrd.TheImpl.Laws.{total-law as objects_total}
use Rattle.adr_values.specs.contracts.stamp.LinkKeyOrd.TheImpl.Laws.{total-law as links_total}
use Rattle.adr_values.specs.Table.{Table}
use Rattle.adr_values.specs.Numbered.{numbered}
use Rattle.adr_model.specs.Member.{Each}
use Rattle.adr_model.specs.Update.{Key, RowOf, LinkOf, key_order}
use Rattle.adr_model.specs.Store.{Held}
use Rattle.adr_model.specs.Formed.{AreRising}
use Rattle.adr_image.specs.declared.rows.Before.{Before}
use Rattle.adr_wire.specs.Gathering.{Along}
use Rattle.adr_image.specs.Image.{HeldRow, Rows, HeldLink, no_rows, with_held, Earlier, no_objects, with_rows, Linked, with_link}
use Rattle.adr_image.specs.Whole.{Parts, dead_of, no_links}
use Rattle.adr_image.specs.Ranged.{IsHeldRow, IsObjectIn, IsLinkIn, AreParts}
use Rattle.adr_image.specs.Stored.{held_of, link_of, rows_of_object, store_of}
use Rattle.adr_image.proofs.Storing.{chain, rows_in_turn, objects_in_turn, links_in_turn}

abbrev pub keys : List Held → List Key
keys hs = map (λ (h : Held). h.update.key) hs

abbrev pub attrs : List HeldRow → List ℕ
attrs hs = map (λ (h : HeldRow). h.1.0) hs

abbrev pub names : List Rows → List Oid
names os = map (λ (o : Rows). o.0) os

abbrev pub links : List HeldLink → List LinkKey
links ls = map (λ (l : HeldLink). l.1.0) ls

-- a key behind every row of an object
abbrev IsBehind : Oid → Key → Type 0
IsBehind o k = (attr : ℕ) → key_order (RowOf o attr) k ≡ Less

own_below : (o : Oid) (a : ℕ) (hs : List HeldRow) (rest : List Held) → AllByRecursion (λ b. nat_cmp a b ≡ Less) (attrs hs) → AllByRecursion (IsBehind o) (keys rest)
    → AllByRecursion (λ k. key_order (RowOf o a) k ≡ Less) (keys (map (held_of o) hs ++ rest))
own_below o a [] rest all behind = others (keys rest) behind
  where
    others : (ks : List Key) → AllByRecursion (IsBehind o) ks → AllByRecursion (λ k. key_order (RowOf o a) k ≡ Less) ks
    others [] b = tt
    others (k ∷ ks) b = (b.0 a, others ks b.1)
own_below o a (h ∷ hs) rest all behind =
    (ap (λ (w : Ordering). ordering_then w (nat_cmp a h.1.0)) (tied_itself objects_total o) ∙ all.0, own_below o a hs rest all.1 behind)

object_sorted : (o : Oid) (hs : List HeldRow) (rest : List Held) → IsStrictlySortedBy nat_cmp (attrs hs) → IsStrictlySortedBy key_order (keys rest) → AllByRecursion (IsBehind o) (keys rest)
    → IsStrictlySortedBy key_order (keys (map (held_of o) hs ++ rest))
unfolding IsStrictlySortedBy
object_sorted o [] rest own sorted behind = sorted
object_sorted o (h ∷ hs) rest own sorted behind = (own_below o h.1.0 hs rest own.0 behind, object_sorted o hs rest own.1 sorted behind)

links_behind : (o : Oid) (ls : List HeldLink) → AllByRecursion (IsBehind o) (keys (map link_of ls))
links_behind o [] = tt
links_behind o (l ∷ ls) = ((λ attr. refl), links_behind o ls)

row_behind : (o p : Oid) (hs : List HeldRow) (rest : List Held) → object_order o p ≡ Less → AllByRecursion (IsBehind o) (keys rest) → AllByRecursion (IsBehind o) (keys (map (held_of p) hs ++ rest))
row_behind o p [] rest less behind = behind
row_behind o p (h ∷ hs) rest less behind = ((λ attr. ap (λ (w : Ordering). ordering_then w (nat_cmp attr h.1.0)) less), row_behind o p hs rest less behind)

objects_behind : (o : Oid) (xs : List Rows) (rest : List Held) → AllByRecursion (λ p. object_order o p ≡ Less) (names xs) → AllByRecursion (IsBehind o) (keys rest) → AllByRecursion (IsBehind o) (keys (flat_map rows_of_object xs ++ rest))
objects_behind o [] rest less behind = behind
objects_behind o (x ∷ xs) rest less behind =
    subst (λ (hs : List Held). AllByRecursion (IsBehind o) (keys hs)) (sym (append_assoc (rows_of_object x) (flat_map rows_of_object xs) rest))
    (row_behind o x.0 x.1 (flat_map rows_of_object xs ++ rest) less.0 (objects_behind o xs rest less.1 behind))

links_sorted : (ls : List HeldLink) → IsStrictlySortedBy link_order (links ls) → IsStrictlySortedBy key_order (keys (map link_of ls))
unfolding IsStrictlySortedBy
links_sorted [] s = tt
links_sorted (l ∷ ls) s = (below ls s.0, links_sorted ls s.1)
  where
    below : (ms : List HeldLink) → AllByRecursion (λ m. link_order l.1.0 m ≡ Less) (links ms) → AllByRecursion (λ k. key_order (LinkOf l.1.0) k ≡ Less) (keys (map link_of ms))
    below [] all = tt
    below (m ∷ ms) all = (all.0, below ms all.1)

abbrev pub EachSorted : List Rows → Type 0
EachSorted os = AllByRecursion (λ (o : Rows). IsStrictlySortedBy nat_cmp (attrs o.1)) os

all_sorted : (os : List Rows) (rest : List Held) → IsStrictlySortedBy object_order (names os) → EachSorted os → IsStrictlySortedBy key_order (keys rest) → ((o : Oid) → AllByRecursion (IsBehind o) (keys rest))
    → IsStrictlySortedBy key_order (keys (flat_map rows_of_object os ++ rest))
unfolding IsStrictlySortedBy
all_sorted [] rest s each sorted behind = sorted
all_sorted (x ∷ xs) rest s each sorted behind =
    subst (λ (hs : List Held). IsStrictlySortedBy key_order (keys hs)) (sym (append_assoc (rows_of_object x) (flat_map rows_of_object xs) rest))
    (object_sorted x.0 x.1 (flat_map rows_of_object xs ++ rest) each.0 (all_sorted xs rest s.1 each.1 sorted behind) (objects_behind x.0 xs rest s.0 (behind x.0)))

each_sorted : (usn : ℕ) (table : Table) (e : Earlier) (os : List Rows) → Along with_rows (IsObjectIn usn table) e os → EachSorted os
each_sorted usn table e [] along = tt
each_sorted usn table e (o ∷ os) along =
    ((chain nat_cmp nat_cmp_total (λ (h : HeldRow). h.1.0) None o.1 (rows_in_turn usn table o.0 no_rows o.1 along.0.0.1.1)).0, each_sorted usn table (with_rows e o) os along.1)

pub rising : (p : Parts) → AreParts p → AreRising (store_of p).rows
rising p q =
    all_sorted p.objects (map link_of p.links)
    (chain object_order objects_total (λ (o : Rows). o.0) None p.objects (objects_in_turn p.usn (numbered p.schema) no_objects p.objects q.objects.1)).0
    (each_sorted p.usn (numbered p.schema) no_objects p.objects q.objects.1)
    (links_sorted p.links (chain link_order links_total (λ (l : HeldLink). l.1.0) None p.links (links_in_turn p.usn (numbered p.schema) (dead_of p.objects) (no_links p.objects) p.links q.links.1)).0)
    (λ o. links_behind o p.links)

-- ---- local USNs

module _ (usn : ℕ) where
  abbrev IsLocalOf : Held → Type 0
  IsLocalOf h = (1 ≤ h.local) × (h.local ≤ usn)

  joined : (xs ys : List Held) → AllByRecursion IsLocalOf xs → AllByRecursion IsLocalOf ys → AllByRecursion IsLocalOf (xs ++ ys)
  joined [] ys a b = b
  joined (x ∷ xs) ys a b = (a.0, joined xs ys a.1 b)

  row_locals : (table : Table) (o : Oid) (b : Before) (hs : List HeldRow) → Along with_held (IsHeldRow usn table o) b hs → AllByRecursion IsLocalOf (map (held_of o) hs)
  row_locals table o b [] along = tt
  row_locals table o b (h ∷ hs) along = ((along.0.0.0.0.0, leb-true h.0 usn along.0.0.0.1), row_locals table o (with_held b h) hs along.1)

  object_locals : (table : Table) (e : Earlier) (os : List Rows) → Along with_rows (IsObjectIn usn table) e os → AllByRecursion IsLocalOf (flat_map rows_of_object os)
  object_locals table e [] along = tt
  object_locals table e (o ∷ os) along = joined (rows_of_object o) (flat_map rows_of_object os) (row_locals table o.0 no_rows o.1 along.0.0.1.1) (object_locals table (with_rows e o) os along.1)

  link_locals : (table : Table) (dead : List Oid) (k : Linked) (ls : List HeldLink) → Along with_link (IsLinkIn usn table dead) k ls → AllByRecursion IsLocalOf (map link_of ls)
  link_locals table dead k [] along = tt
  link_locals table dead k (l ∷ ls) along = ((along.0.0.0.0.0.0, leb-true l.0 usn along.0.0.0.0.1), link_locals table dead (with_link k l) ls along.1)

  each : (hs : List Held) → AllByRecursion IsLocalOf hs → Each IsLocalOf hs
  each [] all h m = absurd m
  each (x ∷ xs) all h (inl e) = subst IsLocalOf (sym e) all.0
  each (x ∷ xs) all h (inr m) = each xs all.1 h m

pub locals : (p : Parts) → AreParts p → Each (λ h. (1 ≤ h.local) × (h.local ≤ p.usn)) (store_of p).rows
locals p q =
    each p.usn (store_of p).rows
    (joined p.usn (flat_map rows_of_object p.objects) (map link_of p.links) (object_locals p.usn (numbered p.schema) no_objects p.objects q.objects.1)
    (link_locals p.usn (numbered p.schema) (dead_of p.objects) (no_links p.objects) p.links q.links.1))

pub each_sorted_parts : (p : Parts) → AreParts p → EachSorted p.objects
each_sorted_parts p q = each_sorted p.usn (numbered p.schema) no_objects p.objects q.objects.1
