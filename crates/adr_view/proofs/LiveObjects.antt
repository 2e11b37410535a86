-- In rows in which each object is named, the live objects are those that the nodes stand for.
use Rattle.std.proofs.Common.{◌≡◌, inl, inr, List, [], ◌∷◌, Bool, true, false, ◌==◌, Option, Some, None, refl, sym, ap, ◌∙◌, subst, map, filter_map, length, get_or, Bor, ◌<◌, ℕ, zero, suc, arith, eqb-true}
use Rattle.std.specs.Prelude.{if◌then◌else◌}
use Rattle.std.specs.List.{list_any, list_all}
use Rattle.std.specs.List.Sorted.{IsStrictlySortedBy}
use Rattle.std.specs.Option.{option_map_or, option_and_then}
use Rattle.std.specs.Ordering.{is_eq}
use Rattle.std.proofs.lemmas.Bool.{and_from}
use Rattle.std.proofs.lemmas.Cmp.{tied_itself}
use Rattle.adr_values.specs.declared.stamp.Oid.{Oid}
use Rattle.adr_values.specs.Order.{object_order}
use Rattle.adr_values.proofs.ExactOrders.{exact_objects}
use Rattle.adr_values.specs.contracts.stamp.OidOrd.TheImpl.Laws.{total-law as objects_total}
use Rattle.adr_model.specs.Member.{Member}
use Rattle.adr_model.specs.Update.{Key, RowOf, LinkOf, Update, ends, class_attr, name_attr, key_order, same_key, same_identifier, same_object}
use Rattle.adr_model.specs.Winner.{winners}
use Rattle.adr_model.specs.Live.{born, objects_of, standing, live, is_among, live_rows}
use Rattle.adr_model.specs.Place.{Node, node_of, node_at, row_at, with_name}
use Rattle.adr_model.specs.Reflects.{HoldsObject}
use Rattle.adr_model.specs.Formed.{AreRising, IsNamed}
use Rattle.adr_model.specs.Store.{Held, updates_of}
use Rattle.adr_model.specs.Write.{nodes_held}
use Rattle.adr_model.proofs.Keys.{equal_order, exact_keys, keys_total, objects_tell}
use Rattle.adr_model.proofs.Members.{found, found_member, each_passes, in_filter, of_filter, in_filter_map, of_filter_map, one_passes, some_passes}
use Rattle.adr_model.proofs.Nodes.{is_node_of}
use Rattle.adr_law_tree.specs.InOrder.{AreInOrder}
use Rattle.adr_law_tree.proofs.InOrder.{order_law}
use Rattle.adr_law_tree.proofs.Kept.{any_folded}
use Rattle.adr_law_tree.proofs.Names.{at_member}
use Rattle.adr_law_tree.proofs.Rising.{one_of_each}
use Rattle.adr_law_tree.proofs.RisingRows.{rising_updates, rising_win}
use Rattle.adr_update.specs.Referents.{referents}
use Rattle.adr_view.specs.Ends.{is_live}
use Rattle.adr_view.specs.Named.{AreNamed}
use Rattle.adr_update.proofs.Referred.{length_referents, referent_at}

abbrev key : Update → Key
key u = u.key

pub same_itself : (o : Oid) → same_object o o ≡ true
same_itself o = ap is_eq (tied_itself objects_total o)

-- the object of a node is live
node_lives : (us : List Update) (n : Node) → Member n (nodes_held us) → is_among (live us) n.object ≡ true
node_lives us n m =
    let u = of_filter_map (λ (v : Update). node_of (live_rows us) v.key v.said) (live_rows us) n m in
    let row = is_node_of (live_rows us) u.0.key u.0.said n u.2 in
    let kept = of_filter (λ (v : Update). list_all (is_among (live us)) (ends v.key)) (winners us) u.0 u.1 in
    each_passes (is_among (live us)) (ends u.0.key) kept.1 n.object (subst (λ k. Member n.object (ends k)) (sym row.1) (inl refl))

pub lives : (us : List Update) (o : Oid) → is_live (nodes_held us) o ≡ true → is_among (live us) o ≡ true
lives us o is = by (node_at (nodes_held us) o.guid) refl is
  where
    by : (f : Option Node) → node_at (nodes_held us) o.guid ≡ f → option_map_or (λ n. same_object n.object o) f false ≡ true → is_among (live us) o ≡ true
    by None e h = absurd (cc)
    by (Some n) e h =
        subst (λ p. is_among (live us) p ≡ true) (objects_tell n.object o h)
        (node_lives us n (found_member (λ (p : Node). same_identifier p.object.guid o.guid) (nodes_held us) n e).0)

-- an object that was born has a class row
was_born : (us : List Update) (o : Oid) → Member o (objects_of us) → HoldsObject us o
was_born us o m = by some.0 some.1 some.2
  where
    among : list_any (λ p. same_object p o) (filter_map (λ (u : Update). born u.key) us) ≡ true
    among = sym (any_folded object_order exact_objects (λ p. same_object p o) (filter_map (λ (u : Update). born u.key) us) []) ∙ one_passes (λ p. same_object p o) (objects_of us) o m (same_itself o)

    some : (p : Oid) × Member p (filter_map (λ (u : Update). born u.key) us) × (same_object p o ≡ true)
    some = some_passes (λ p. same_object p o) (filter_map (λ (u : Update). born u.key) us) among

    own : (k : Key) (p : Oid) → born k ≡ Some p → k ≡ RowOf p class_attr
    own (LinkOf l) p e = cc
    own (RowOf q a) p e = on (a == class_attr) refl e
      where
        on : (b : Bool) → (a == class_attr) ≡ b → (if b then Some q else None) ≡ Some p → RowOf q a ≡ RowOf p class_attr
        on false is h = cc
        on true is h = let f : a ≡ class_attr = eqb-true a class_attr is in cc

    by : (p : Oid) → Member p (filter_map (λ (u : Update). born u.key) us) → same_object p o ≡ true → HoldsObject us o
    by p n same =
        let u = of_filter_map (λ (u : Update). born u.key) us p n in
        (u.0, class_attr, u.1, own u.0.key p u.2 ∙ ap (λ q. RowOf q class_attr) (objects_tell p o same))

module _ (us : List Update) (rising : IsStrictlySortedBy key_order (map key us)) where
  kept : (u : Update) → Member u us → list_all (is_among (live us)) (ends u.key) ≡ true → Member u (live_rows us)
  kept u m all = in_filter (λ (v : Update). list_all (is_among (live us)) (ends v.key)) (winners us) u (subst (λ (vs : List Update). Member u vs) (sym (rising_win us rising)) m) all

  row_kept : (u : Update) → Member u us → (o : Oid) (attr : ℕ) → u.key ≡ RowOf o attr → is_among (live us) o ≡ true → Member u (live_rows us)
  row_kept u m o attr is alive = kept u m (subst (λ k. list_all (is_among (live us)) (ends k) ≡ true) (sym is) (and_from _ _ alive refl))

  row_found : (u : Update) → Member u us → (o : Oid) (attr : ℕ) → u.key ≡ RowOf o attr → is_among (live us) o ≡ true → row_at (live_rows us) (RowOf o attr) ≡ Some u
  row_found u m o attr is alive =
      found (λ (v : Update). same_key v.key (RowOf o attr)) (live_rows us) u (row_kept u m o attr is alive)
      (subst (λ k. same_key k (RowOf o attr) ≡ true) (sym is) (ap is_eq (tied_itself keys_total (RowOf o attr))))
      (λ v n same. one_of_each key_order key keys_total us rising v (us_member v n) u m (exact_keys v.key (RowOf o attr) (equal_order (key_order v.key (RowOf o attr)) same) ∙ sym is))
    where
      us_member : (v : Update) → Member v (live_rows us) → Member v us
      us_member v n = subst (λ (vs : List Update). Member v vs) (rising_win us rising) (of_filter (λ (w : Update). list_all (is_among (live us)) (ends w.key)) (winners us) v n).0

  in_order : AreInOrder (nodes_held us)
  in_order = order_law us rising

  -- a live object that is named is that of a node
  named_lives : AreNamed us → (o : Oid) → is_among (live us) o ≡ true → is_live (nodes_held us) o ≡ true
  named_lives named o alive = by (named o held)
    where
      some : (p : Oid) × Member p (live us) × (same_object p o ≡ true)
      some = some_passes (λ p. same_object p o) (live us) alive

      held : HoldsObject us o
      held =
          let stood = (of_filter _ (standing us) some.0 some.1).0 in
          let was = (of_filter _ (objects_of us) some.0 stood).0 in
          was_born us o (subst (λ p. Member p (objects_of us)) (objects_tell some.0 o some.2) was)

      by : IsNamed us o → is_live (nodes_held us) o ≡ true
      by n = ap (λ (f : Option Node). option_map_or (λ m. same_object m.object o) f false) (at_member (nodes_held us) in_order made there) ∙ same_itself o
        where
          class_row : Update
          class_row = n.of_class.0

          name_row : Update
          name_row = n.of_name.0

          made : Node
          made = record { object = o; class = n.class; text = n.text; parent = n.parent; stamp = name_row.stamp }

          as_made : node_of (live_rows us) class_row.key class_row.said ≡ Some made
          as_made =
              ap (λ k. node_of (live_rows us) k class_row.said) n.of_class.2
              ∙ (ap (node_of (live_rows us) (RowOf o class_attr)) n.of_class.3
              ∙ (ap (option_and_then (λ (u : Update). with_name o n.class u.stamp u.said)) (row_found name_row n.of_name.1 o name_attr n.of_name.2 alive)
              ∙ ap (with_name o n.class name_row.stamp) n.of_name.3))

          there : Member made (nodes_held us)
          there = in_filter_map (λ (v : Update). node_of (live_rows us) v.key v.said) (live_rows us) class_row made (row_kept class_row n.of_class.1 o class_attr n.of_class.2 alive) as_made

  pub same_live : AreNamed us → (o : Oid) → is_among (live us) o ≡ is_live (nodes_held us) o
  same_live named o = both (is_among (live us) o) (is_live (nodes_held us) o) (named_lives named o) (lives us o)
    where
      both : (a b : Bool) → (a ≡ true → b ≡ true) → (b ≡ true → a ≡ true) → a ≡ b
      both true b f g = sym (f refl)
      both false true f g = g refl
      both false false f g = refl

member_got : {A : Type 0} (xs : List A) (i : ℕ) (x : A) → i < length xs → x ≡ get_or xs i x → Member x xs
member_got [] i x within is = absurd (omega (arith, within))
member_got (y ∷ ys) zero x within is = inl is
member_got (y ∷ ys) (suc i) x within is = inr (member_got ys i x (omega (arith, within)) is)

-- each of the live objects is the one of its GUID
pub node_found : (rows : List Held) → AreRising rows → (nodes : List (Bor Node)) → referents nodes ≡ nodes_held (updates_of rows) → (i : ℕ) (x : Bor Node) → i < length nodes → x ≡ get_or nodes i x
    → node_at (nodes_held (updates_of rows)) x.now.object.guid ≡ Some x.now
node_found rows rising nodes same i x within is =
    at_member (nodes_held (updates_of rows)) (order_law (updates_of rows) (rising_updates rows rising)) x.now
    (subst (λ (ns : List Node). Member x.now ns) same (member_got (referents nodes) i x.now (subst (λ n. i < n) (sym (length_referents nodes)) within) (referent_at nodes i x within is)))

-- a node that is found stands for a live object
pub found_lives : (all : List Node) (n : Node) → node_at all n.object.guid ≡ Some n → is_live all n.object ≡ true
found_lives all n is = ap (λ (f : Option Node). option_map_or (λ m. same_object m.object n.object) f false) is ∙ same_itself n.object
