-- Only the rows of a GUID decide its node.
use Rattle.std.proofs.Common.{◌≡◌, ℕ, Bool, true, false, cond, not, ◌&&◌, List, [], ◌∷◌, Option, Some, None, refl, sym, ap, ap₂, ◌∙◌, subst, map, filter, filter_map, ◌==◌}
use Rattle.std.specs.List.{list_any, list_all, cons_option}
use Rattle.std.specs.List.Sorted.{IsStrictlySortedBy}
use Rattle.std.specs.Option.{option_and_then}
use Rattle.std.specs.Prelude.{if◌then◌else◌}
use Rattle.std.proofs.lemmas.List.Kept.{IsStrictlySortedBy-filter}
use Rattle.std.proofs.lemmas.Bool.{and_parts}
use Rattle.adr_values.specs.Order.{object_order}
use Rattle.adr_values.specs.declared.stamp.Oid.{Oid}
use Rattle.adr_values.specs.declared.stamp.LinkStamp.{LinkStamp}
use Rattle.adr_values.proofs.ExactOrders.{exact_objects}
use Rattle.adr_values.specs.declared.content.Content.TheVariants.{Class, Name, Dead, Values}
use Rattle.adr_model.specs.Update.{Identifier, Key, RowOf, LinkOf, Said, Holds, IsPresent, Update, same_identifier, same_object, same_key, key_order, class_attr, name_attr, deleted_attr, is_death_of, ends}
use Rattle.adr_model.specs.Winner.{winner, or_younger}
use Rattle.adr_model.specs.Live.{born, objects_of, standing, yields_to, live, is_among, live_rows}
use Rattle.adr_model.specs.Place.{Node, row_at, with_name, node_of, nodes_of, node_at}
use Rattle.adr_model.specs.Write.{is_of_guid}
use Rattle.adr_model.proofs.Keys.{equal_order, exact_keys, objects_tell}
use Rattle.adr_law_tree.specs.Local.{LocalLaw}
use Rattle.adr_law_tree.proofs.Fuel.{same_guid}
use Rattle.adr_law_knowledge.proofs.Filters.{filters_swap}
use Rattle.std.proofs.lemmas.Map.Views.{any-filter_same}
use Rattle.adr_law_tree.proofs.Kept.{find_kept, any_alike, any_of_filter, any_folded, filter_maps_alike, find_of_kept}
use Rattle.adr_law_tree.proofs.RisingRows.{rising_win}

key_of_guid : (g : Identifier) (k : Key) (o : Oid) (a : ℕ) → same_key k (RowOf o a) ≡ true → same_identifier o.guid g ≡ true → is_of_guid g k ≡ true
key_of_guid g k o a same is = ap (is_of_guid g) (exact_keys k (RowOf o a) (equal_order (key_order k (RowOf o a)) same)) ∙ is

-- the winner of a key
pub winner_of_kept : (q : Update → Bool) (key : Key) → ((u : Update) → same_key u.key key ≡ true → q u ≡ true) → (us : List Update) → winner (filter q us) key ≡ winner us key
winner_of_kept q key to [] = refl
winner_of_kept q key to (u ∷ us) = by (q u) refl (same_key u.key key) refl (winner_of_kept q key to us)
  where
    by : (b : Bool) → q u ≡ b → (c : Bool) → same_key u.key key ≡ c → winner (filter q us) key ≡ winner us key
        → winner (cond b (u ∷ filter q us) (filter q us)) key ≡ or_younger c u (winner us key)
    by true is c e rest = ap₂ (λ d o. or_younger d u o) e rest
    by false is true e rest = let k : q u ≡ true = to u e in cc
    by false is false e rest = rest

and_where : (a b c : Bool) → (c ≡ true → a ≡ b) → (a && c) ≡ (b && c)
and_where a b true same = ap (λ d. d && true) (same refl)
and_where true true false same = refl
and_where true false false same = refl
and_where false true false same = refl
and_where false false false same = refl

where_and : (a b c : Bool) → (c ≡ true → a ≡ b) → (c && a) ≡ (c && b)
where_and a b true same = same refl
where_and a b false same = refl

abbrev births : List Update → List Oid
births us = filter_map (λ (u : Update). born u.key) us

module _ (g : Identifier) where
  abbrev mine : Oid → Bool
  mine o = same_identifier o.guid g

  abbrev of : Update → Bool
  of u = is_of_guid g u.key

  births_kept : (us : List Update) → births (filter of us) ≡ filter mine (births us)
  births_kept [] = refl
  births_kept (u ∷ us) = by u.key refl (births_kept us)
    where
      born_is : Option Oid → List Oid → List Oid
      born_is o os = cons_option o os

      by : (k : Key) → u.key ≡ k → births (filter of us) ≡ filter mine (births us)
          → births (cond (is_of_guid g k) (u ∷ filter of us) (filter of us)) ≡ filter mine (cons_option (born k) (births us))
      by (LinkOf l) e rest = rest
      by (RowOf o a) e rest = row (mine o) refl (a == class_attr) refl
        where
          row : (b : Bool) → mine o ≡ b → (c : Bool) → (a == class_attr) ≡ c → births (cond b (u ∷ filter of us) (filter of us)) ≡ filter mine (cons_option (if c then Some o else None) (births us))
          row true is true of_class =
              ap (λ k. cons_option (born k) (births (filter of us))) e ∙ ap (λ c. cons_option (if c then Some o else None) (births (filter of us))) of_class
              ∙ ap (λ os. o ∷ os) rest ∙ sym (ap (λ b. cond b (o ∷ filter mine (births us)) (filter mine (births us))) is)
          row true is false of_class =
              ap (λ k. cons_option (born k) (births (filter of us))) e ∙ ap (λ c. cons_option (if c then Some o else None) (births (filter of us))) of_class ∙ rest
          row false is true of_class = rest ∙ sym (ap (λ b. cond b (o ∷ filter mine (births us)) (filter mine (births us))) is)
          row false is false of_class = rest

  module _ (us : List Update) where
    -- a test of objects of the GUID
    abbrev Mine : (Oid → Bool) → Type 0
    Mine t = (o : Oid) → t o ≡ true → mine o ≡ true

    of_birth : (t : Oid → Bool) → Mine t → list_any t (objects_of (filter of us)) ≡ list_any t (objects_of us)
    of_birth t only =
        any_folded object_order exact_objects t (births (filter of us)) []
        ∙ ap (list_any t) (births_kept us) ∙ any-filter_same t mine true only (births us)
        ∙ sym (any_folded object_order exact_objects t (births us) [])

    dies : (o : Oid) → mine o ≡ true → list_any (is_death_of o) (filter of us) ≡ list_any (is_death_of o) us
    dies o is = any-filter_same (is_death_of o) of true (λ u same. key_of_guid g u.key o deleted_attr same is) us

    and_second : (a c : Bool) → (a && c) ≡ true → c ≡ true
    and_second a c e = (and_parts a c e).1

    of_standing : (t : Oid → Bool) → Mine t → list_any t (standing (filter of us)) ≡ list_any t (standing us)
    of_standing t only =
        any_of_filter t (λ o. not (list_any (is_death_of o) (filter of us))) (objects_of (filter of us))
        ∙ of_birth (λ o. not (list_any (is_death_of o) (filter of us)) && t o) (λ o e. only o (and_second _ _ e))
        ∙ any_alike _ _ (λ o. and_where _ _ (t o) (λ e. ap not (dies o (only o e)))) (objects_of us)
        ∙ sym (any_of_filter t (λ o. not (list_any (is_death_of o) us)) (objects_of us))

    class_of_kept : (o : Oid) → mine o ≡ true → winner (filter of us) (RowOf o class_attr) ≡ winner us (RowOf o class_attr)
    class_of_kept o is = winner_of_kept of (RowOf o class_attr) (λ u same. key_of_guid g u.key o class_attr same is) us

    yields_kept : (o p : Oid) → mine o ≡ true → mine p ≡ true → yields_to (filter of us) o p ≡ yields_to us o p
    yields_kept o p is also = rw (class_of_kept o is, class_of_kept p also)

    mine_too : (o p : Oid) → mine o ≡ true → same_identifier o.guid p.guid ≡ true → mine p ≡ true
    mine_too o p is same = subst (λ h. same_identifier h g ≡ true) (same_guid o.guid p.guid same) is

    gives : (o : Oid) → mine o ≡ true
        → list_any (λ p. same_identifier o.guid p.guid && yields_to (filter of us) o p) (standing (filter of us)) ≡ list_any (λ p. same_identifier o.guid p.guid && yields_to us o p) (standing us)
    gives o is =
        of_standing (λ p. same_identifier o.guid p.guid && yields_to (filter of us) o p) (λ p e. mine_too o p is (and_parts _ _ e).0)
        ∙ any_alike _ _ (λ p. where_and _ _ (same_identifier o.guid p.guid) (λ e. yields_kept o p is (mine_too o p is e))) (standing us)

    of_live : (t : Oid → Bool) → Mine t → list_any t (live (filter of us)) ≡ list_any t (live us)
    of_live t only =
        any_of_filter t _ (standing (filter of us))
        ∙ of_standing (λ o. not (list_any (λ p. same_identifier o.guid p.guid && yields_to (filter of us) o p) (standing (filter of us))) && t o) (λ o e. only o (and_second _ _ e))
        ∙ any_alike _ _ (λ o. and_where _ _ (t o) (λ e. ap not (gives o (only o e)))) (standing us)
        ∙ sym (any_of_filter t _ (standing us))

    live_kept : (o : Oid) → mine o ≡ true → is_among (live (filter of us)) o ≡ is_among (live us) o
    live_kept o is = of_live (λ p. same_object p o) (λ p e. subst (λ (q : Oid). mine q ≡ true) (sym (objects_tell p o e)) is)

    row_stays : (u : Update) → of u ≡ true → list_all (is_among (live (filter of us))) (ends u.key) ≡ list_all (is_among (live us)) (ends u.key)
    row_stays u e = by u.key e
      where
        by : (k : Key) → is_of_guid g k ≡ true → list_all (is_among (live (filter of us))) (ends k) ≡ list_all (is_among (live us)) (ends k)
        by (RowOf o a) e = ap (λ b. b && true) (live_kept o e)
        by (LinkOf l) e = cc

  abbrev keys : List Update → List Key
  keys us = map (λ (u : Update). u.key) us

  keys_kept : (us : List Update) → keys (filter of us) ≡ filter (is_of_guid g) (keys us)
  keys_kept [] = refl
  keys_kept (u ∷ us) = by (of u) (keys_kept us)
    where
      by : (b : Bool) → keys (filter of us) ≡ filter (is_of_guid g) (keys us) → keys (cond b (u ∷ filter of us) (filter of us)) ≡ cond b (u.key ∷ filter (is_of_guid g) (keys us)) (filter (is_of_guid g) (keys us))
      by true rest = ap (λ ks. u.key ∷ ks) rest
      by false rest = rest

  -- the live rows of a GUID are those of its rows
  pub live_rows_kept : (us : List Update) → IsStrictlySortedBy key_order (keys us) → live_rows (filter of us) ≡ filter of (live_rows us)
  live_rows_kept us s =
      ap (filter (λ u. list_all (is_among (live (filter of us))) (ends u.key))) (rising_win (filter of us) (subst (IsStrictlySortedBy key_order) (sym (keys_kept us)) (IsStrictlySortedBy-filter key_order (is_of_guid g) (keys us) s)))
      ∙ filters_swap _ _ of (λ u e. row_stays us u e) us
      ∙ sym (ap (λ ws. filter of (filter (λ u. list_all (is_among (live us)) (ends u.key)) ws)) (rising_win us s))

  pub named_of : (o : Oid) (class : ℕ) (stamp : LinkStamp) (said : Said) (n : Node) → with_name o class stamp said ≡ Some n → o ≡ n.object
  named_of o class stamp (Holds (Name text parent)) n e = by e
    where
      by : Some (record { object = o; class = class; text = text; parent = parent; stamp = stamp }) ≡ Some n → o ≡ n.object
      by e = let f : record { object = o; class = class; text = text; parent = parent; stamp = stamp } ≡ n = cc in ap (λ (m : Node). m.object) f
  named_of o class stamp (Holds (Class c)) n e = cc
  named_of o class stamp (Holds Dead) n e = cc
  named_of o class stamp (Holds (Values vs)) n e = cc
  named_of o class stamp (IsPresent b) n e = cc

  -- a node is of the object of its rows
  node_mine : (rows : List Update) (k : Key) (said : Said) (n : Node) → node_of rows k said ≡ Some n → is_of_guid g k ≡ same_identifier n.object.guid g
  node_mine rows (RowOf o a) (Holds (Class class)) n e = by (a == class_attr) (row_at rows (RowOf o name_attr)) e
    where
      by : (c : Bool) (r : Option Update) → cond c (option_and_then (λ u. with_name o class u.stamp u.said) r) None ≡ Some n → same_identifier o.guid g ≡ same_identifier n.object.guid g
      by false r e = cc
      by true None e = cc
      by true (Some u) e = ap (λ (p : Oid). same_identifier p.guid g) (named_of o class u.stamp u.said n e)
  node_mine rows (RowOf o a) (Holds (Name text parent)) n e = cc
  node_mine rows (RowOf o a) (Holds Dead) n e = cc
  node_mine rows (RowOf o a) (Holds (Values vs)) n e = cc
  node_mine rows (RowOf o a) (IsPresent b) n e = cc
  node_mine rows (LinkOf l) said n e = cc

  node_kept : (rows : List Update) (k : Key) (said : Said) → is_of_guid g k ≡ true → node_of (filter of rows) k said ≡ node_of rows k said
  node_kept rows (RowOf o a) (Holds (Class class)) is =
      ap (λ r. if a == class_attr then option_and_then (λ u. with_name o class u.stamp u.said) r else None)
      (find_kept (λ u. same_key u.key (RowOf o name_attr)) of (λ u same. key_of_guid g u.key o name_attr same is) rows)
  node_kept rows (RowOf o a) (Holds (Name text parent)) is = refl
  node_kept rows (RowOf o a) (Holds Dead) is = refl
  node_kept rows (RowOf o a) (Holds (Values vs)) is = refl
  node_kept rows (RowOf o a) (IsPresent b) is = refl
  node_kept rows (LinkOf l) said is = refl

  pub node_at_kept : (rows : List Update) → node_at (nodes_of (filter of rows)) g ≡ node_at (nodes_of rows) g
  node_at_kept rows =
      ap (λ ns. node_at ns g) (filter_maps_alike (λ u. node_of (filter of rows) u.key u.said) (λ u. node_of rows u.key u.said) of (λ u is. node_kept rows u.key u.said is) rows)
      ∙ find_of_kept (λ (u : Update). node_of rows u.key u.said) of (λ n. same_identifier n.object.guid g) (λ u n e. node_mine rows u.key u.said n e) rows

pub local_law : LocalLaw
local_law us s g = ap (λ rows. node_at (nodes_of rows) g) (live_rows_kept g us s) ∙ node_at_kept g (live_rows us)
