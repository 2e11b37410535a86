-- Live objects are in order of GUID, and lists in order are known by their look-ups.
use Rattle.std.proofs.Common.{◌≡◌, ◌==◌, eqb-true, ◌⊎◌, inl, inr, ℕ, Bool, true, false, cond, List, [], ◌∷◌, Option, Some, None, refl, sym, ap, ap₂, ◌∙◌, subst, map, filter, filter_map}
use Rattle.std.specs.List.{list_all, cons_option, AllByRecursion}
use Rattle.std.specs.List.Sorted.{IsStrictlySortedBy}
use Rattle.std.specs.Option.{option_and_then}
use Rattle.std.specs.Ordering.{is_eq, ordering_then, ordering_reverse, nat_cmp}
use Rattle.std.specs.declared.cmp.Ordering.{Ordering}
use Rattle.std.specs.declared.cmp.Ordering.TheVariants.{Less, Equal, Greater}
use Rattle.std.proofs.lemmas.Cmp.{tied_itself, nat_list_cmp_total, nat_cmp_total}
use Rattle.std.proofs.lemmas.Bool.{and_parts}
use Rattle.std.proofs.lemmas.Map.Lookups.{exact_bytes}
use Rattle.adr_values.specs.Order.{object_order, identifier_order, birth_order}
use Rattle.adr_values.specs.declared.stamp.Oid.{Oid}
use Rattle.adr_values.specs.contracts.stamp.BirthOrd.TheImpl.Laws.{total-law as births_total}
use Rattle.adr_values.specs.declared.content.Content.TheVariants.{Class, Name, Dead, Values}
use Rattle.adr_model.specs.Member.{Member}
use Rattle.adr_model.specs.Update.{Identifier, Key, RowOf, LinkOf, Said, Holds, IsPresent, Update, same_identifier, key_order, class_attr, name_attr, ends}
use Rattle.adr_model.specs.Live.{live, is_among, live_rows}
use Rattle.adr_model.specs.Place.{Node, row_at, with_name, node_of, nodes_of, node_at}
use Rattle.adr_model.proofs.Members.{of_filter, of_filter_map}
use Rattle.adr_model.proofs.Keys.{keys_total}
use Rattle.adr_law_knowledge.proofs.Counting.{filtered_rise}
use Rattle.adr_law_tree.specs.InOrder.{AreInOrder, OrderLaw, LookUpLaw}
use Rattle.adr_law_tree.proofs.Fuel.{itself, one_or_not}
use Rattle.adr_law_tree.proofs.Walks.{one}
use Rattle.adr_law_tree.proofs.Rising.{below_head, tail}
use Rattle.adr_law_tree.proofs.RisingRows.{rising_win}
use Rattle.adr_law_tree.proofs.Local.{named_of}
use Rattle.adr_law_tree.proofs.Unique.{one_live}

abbrev key : Update → Key
key u = u.key

abbrev IsOf : Key → Said → Node → Type 0
IsOf k said n = (class : ℕ) × (k ≡ RowOf n.object class_attr) × (said ≡ Holds (Class class))

-- a node comes from the row of its object that says its class
row_of_node : (g : Identifier) (rows : List Update) (k : Key) (said : Said) (n : Node) → node_of rows k said ≡ Some n → IsOf k said n
row_of_node g rows (RowOf o a) (Holds (Class class)) n e = by (a == class_attr) refl (row_at rows (RowOf o name_attr)) e
  where
    by : (c : Bool) → (a == class_attr) ≡ c → (r : Option Update) → cond c (option_and_then (λ u. with_name o class u.stamp u.said) r) None ≡ Some n → IsOf (RowOf o a) (Holds (Class class)) n
    by false is r e = cc
    by true is None e = cc
    by true is (Some u) e = (class, ap₂ (λ (p : Oid) b. RowOf p b) (named_of g o class u.stamp u.said n e) (eqb-true a class_attr is), refl)
row_of_node g rows (RowOf o a) (Holds (Name text parent)) n e = cc
row_of_node g rows (RowOf o a) (Holds Dead) n e = cc
row_of_node g rows (RowOf o a) (Holds (Values vs)) n e = cc
row_of_node g rows (RowOf o a) (IsPresent b) n e = cc
row_of_node g rows (LinkOf l) said n e = cc

first_less : (r s : Ordering) → s ≡ Equal → ordering_then r s ≡ Less → r ≡ Less
first_less Less s e f = refl
first_less Equal s e f = cc
first_less Greater s e f = cc

all_from : (k : Identifier) (ns : List Node) → ((m : Node) → Member m ns → identifier_order k m.object.guid ≡ Less) → AllByRecursion (λ l. identifier_order k l ≡ Less) (map (λ (n : Node). n.object.guid) ns)
all_from k [] each = tt
all_from k (n ∷ ns) each = (each n (inl refl), all_from k ns (λ m l. each m (inr l)))

module _ (us : List Update) (s : IsStrictlySortedBy key_order (map key us)) where
  abbrev stays : Update → Bool
  stays u = list_all (is_among (live us)) (ends u.key)

  rows_are : live_rows us ≡ filter stays us
  rows_are = ap (filter stays) (rising_win us s)

  from_row : (rows : List Update) (u : Update) (n : Node) → Member u (filter stays us) → node_of rows u.key u.said ≡ Some n → (u.key ≡ RowOf n.object class_attr) × (is_among (live us) n.object ≡ true)
  from_row rows u n m e =
      let t = row_of_node n.object.guid rows u.key u.said n e in
      let f = of_filter stays us u m in
      let k : u.key ≡ RowOf n.object class_attr = t.1 in
      (k, (and_parts _ _ (ap (λ (k : Key). list_all (is_among (live us)) (ends k)) (sym k) ∙ f.1)).0)

  -- nodes of rows one behind the other
  behind : (rows : List Update) (u v : Update) (n m : Node) → Member u (filter stays us) → Member v (filter stays us) → node_of rows u.key u.said ≡ Some n → node_of rows v.key v.said ≡ Some m
      → key_order u.key v.key ≡ Less → identifier_order n.object.guid m.object.guid ≡ Less
  behind rows u v n m in_u in_v e f less = by (identifier_order n.object.guid m.object.guid) refl objects
    where
      a : (u.key ≡ RowOf n.object class_attr) × (is_among (live us) n.object ≡ true)
      a = from_row rows u n in_u e

      b : (v.key ≡ RowOf m.object class_attr) × (is_among (live us) m.object ≡ true)
      b = from_row rows v m in_v f

      objects : object_order n.object m.object ≡ Less
      objects = first_less (object_order n.object m.object) (nat_cmp class_attr class_attr) (tied_itself nat_cmp_total class_attr) (sym (ap₂ (λ k l. key_order k l) a.0 b.0) ∙ less)

      by : (o : Ordering) → identifier_order n.object.guid m.object.guid ≡ o → ordering_then o (birth_order n.object.birth m.object.birth) ≡ Less → o ≡ Less
      by Less is l = refl
      by Greater is l = cc
      by Equal is l =
          let same : n.object ≡ m.object = one_live us n.object m.object a.1 b.1 (exact_bytes n.object.guid m.object.guid is) in
          let tie : birth_order n.object.birth m.object.birth ≡ Equal = ap (λ (p : Oid). birth_order p.birth m.object.birth) same ∙ tied_itself births_total m.object.birth in cc

  ordered : (rows xs : List Update) → ((u : Update) → Member u xs → Member u (filter stays us)) → IsStrictlySortedBy key_order (map key xs) → AreInOrder (filter_map (λ u. node_of rows u.key u.said) xs)
  unfolding IsStrictlySortedBy
  ordered rows [] among sorted = tt
  ordered rows (x ∷ xs) among sorted = by (node_of rows x.key x.said) refl (ordered rows xs (λ u m. among u (inr m)) (tail key_order key keys_total x xs sorted))
    where
      by : (o : Option Node) → node_of rows x.key x.said ≡ o → AreInOrder (filter_map (λ u. node_of rows u.key u.said) xs) → AreInOrder (cons_option o (filter_map (λ u. node_of rows u.key u.said) xs))
      by None e rest = rest
      by (Some n) e rest = (
        all_from n.object.guid (filter_map (λ u. node_of rows u.key u.said) xs) (λ m l.
            let t = of_filter_map (λ (u : Update). node_of rows u.key u.said) xs m l in
            behind rows x t.0 n m (among x (inl refl)) (among t.0 (inr t.1)) e t.2 (below_head key_order key keys_total x xs sorted t.0 t.1)),
        rest,
      )

  in_order : AreInOrder (nodes_of (live_rows us))
  in_order = subst (λ rows. AreInOrder (nodes_of rows)) (sym rows_are)
      (ordered (filter stays us) (filter stays us) (λ u m. m)
      (filtered_rise key_order key stays us s))

pub order_law : OrderLaw
order_law us s = in_order us s

-- in lists in order what is below the first is nowhere
pub above_it : (g h : Identifier) → identifier_order g h ≡ Less → same_identifier h g ≡ false
above_it g h less = by (identifier_order h g) (sym (nat_list_cmp_total.antisymm g h) ∙ less)
  where
    by : (o : Ordering) → ordering_reverse o ≡ Less → is_eq o ≡ false
    by Less e = cc
    by Equal e = cc
    by Greater e = refl

pub nowhere : (g : Identifier) (ns : List Node) → AllByRecursion (λ l. identifier_order g l ≡ Less) (map (λ (n : Node). n.object.guid) ns) → node_at ns g ≡ None
nowhere g [] all = refl
nowhere g (n ∷ ns) all = ap (λ b. cond b (Some n) (node_at ns g)) (above_it g n.object.guid all.0) ∙ nowhere g ns all.1

pub head_all : (n : Node) (ns : List Node) → AreInOrder (n ∷ ns) → AllByRecursion (λ l. identifier_order n.object.guid l ≡ Less) (map (λ (m : Node). m.object.guid) ns)
unfolding IsStrictlySortedBy
head_all n ns s = s.0

pub tail_order : (n : Node) (ns : List Node) → AreInOrder (n ∷ ns) → AreInOrder ns
unfolding IsStrictlySortedBy
tail_order n ns s = s.1

pub at_head : (n : Node) (ns : List Node) → node_at (n ∷ ns) n.object.guid ≡ Some n
at_head n ns = ap (λ b. cond b (Some n) (node_at ns n.object.guid)) (itself n.object.guid)

less_all : (g : Identifier) (n : Node) (ns : List Node) → identifier_order g n.object.guid ≡ Less → AreInOrder (n ∷ ns) → AllByRecursion (λ l. identifier_order g l ≡ Less) (map (λ (m : Node). m.object.guid) (n ∷ ns))
less_all g n ns less s = (less, onward ns (head_all n ns s))
  where
    onward : (ms : List Node) → AllByRecursion (λ l. identifier_order n.object.guid l ≡ Less) (map (λ (m : Node). m.object.guid) ms) → AllByRecursion (λ l. identifier_order g l ≡ Less) (map (λ (m : Node). m.object.guid) ms)
    onward [] all = tt
    onward (m ∷ ms) all = (nat_list_cmp_total.trans g n.object.guid m.object.guid less all.0, onward ms all.1)

pub look_up_law : LookUpLaw
look_up_law [] [] s t same = refl
look_up_law [] (y ∷ ys) s t same = let e : None ≡ node_at (y ∷ ys) y.object.guid = same y.object.guid in let f = at_head y ys in cc
look_up_law (x ∷ xs) [] s t same = let e : node_at (x ∷ xs) x.object.guid ≡ None = same x.object.guid in let f = at_head x xs in cc
look_up_law (x ∷ xs) (y ∷ ys) s t same = by (identifier_order x.object.guid y.object.guid) refl (λ f. look_up_law xs ys (tail_order x xs s) (tail_order y ys t) f)
  where
    by : (o : Ordering) → identifier_order x.object.guid y.object.guid ≡ o → (((g : Identifier) → node_at xs g ≡ node_at ys g) → xs ≡ ys) → x ∷ xs ≡ y ∷ ys
    by Less is rest =
        let a : node_at (y ∷ ys) x.object.guid ≡ None = nowhere x.object.guid (y ∷ ys) (less_all x.object.guid y ys is t) in
        let b : node_at (x ∷ xs) x.object.guid ≡ Some x = at_head x xs in
        let c : node_at (x ∷ xs) x.object.guid ≡ node_at (y ∷ ys) x.object.guid = same x.object.guid in cc
    by Greater is rest =
        let turned : identifier_order y.object.guid x.object.guid ≡ Less = nat_list_cmp_total.antisymm y.object.guid x.object.guid ∙ ap ordering_reverse is in
        let a : node_at (x ∷ xs) y.object.guid ≡ None = nowhere y.object.guid (x ∷ xs) (less_all y.object.guid x xs turned s) in
        let b : node_at (y ∷ ys) y.object.guid ≡ Some y = at_head y ys in
        let c : node_at (x ∷ xs) y.object.guid ≡ node_at (y ∷ ys) y.object.guid = same y.object.guid in cc
    by Equal is rest =
        let guids : x.object.guid ≡ y.object.guid = exact_bytes x.object.guid y.object.guid is in
        let c : node_at (y ∷ ys) x.object.guid ≡ Some y = ap (node_at (y ∷ ys)) guids ∙ at_head y ys in
        let first : x ≡ y = one (at_head x xs) (same x.object.guid ∙ c) in
        ap₂ (λ (n : Node) (ns : List Node). n ∷ ns) first (rest (λ g. on g guids (one_or_not x.object.guid g)))
      where
        on : (g : Identifier) → x.object.guid ≡ y.object.guid → (x.object.guid ≡ g) ⊎ (same_identifier x.object.guid g ≡ false) → node_at xs g ≡ node_at ys g
        on g guids (inl e) =
            subst (λ h. node_at xs h ≡ node_at ys h) e
            (nowhere x.object.guid xs (head_all x xs s) ∙ sym (ap (node_at ys) guids ∙ nowhere y.object.guid ys (head_all y ys t)))
        on g guids (inr other) =
            ap (λ b. cond b (Some x) (node_at xs g)) (sym other) ∙ same g
            ∙ ap (λ b. cond b (Some y) (node_at ys g)) (ap (λ h. same_identifier h g) (sym guids) ∙ other)
