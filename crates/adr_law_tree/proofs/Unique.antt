-- No two live objects have one GUID.
use Rattle.std.proofs.Common.{◌≡◌, inl, inr, Bool, true, false, not, ◌&&◌, List, [], ◌∷◌, Option, Some, None, refl, sym, ap, ◌∙◌, subst, filter_map}
use Rattle.std.specs.Prelude.{if◌then◌else◌}
use Rattle.std.specs.List.{list_any}
use Rattle.std.specs.Ordering.{is_eq, is_lt, ordering_then, ordering_reverse}
use Rattle.std.specs.declared.cmp.Ordering.{Ordering}
use Rattle.std.specs.declared.cmp.Ordering.TheVariants.{Less, Equal, Greater}
use Rattle.std.specs.Cmp.{IsTotalOrder}
use Rattle.std.proofs.lemmas.Cmp.{tied_itself, nat_list_cmp_total, on_total, then_total}
use Rattle.std.proofs.lemmas.Bool.{not-true}
use Rattle.adr_values.specs.Order.{object_order, identifier_order, birth_order, link_stamp_order}
use Rattle.adr_values.specs.declared.stamp.Oid.{Oid}
use Rattle.adr_values.specs.declared.stamp.LinkStamp.{LinkStamp}
use Rattle.adr_values.specs.contracts.stamp.BirthOrd.TheImpl.Laws.{total-law as births_total}
use Rattle.adr_values.specs.contracts.stamp.LinkStampOrd.TheImpl.Laws.{total-law as link_stamps_total}
use Rattle.adr_values.proofs.ExactOrders.{exact_objects}
use Rattle.adr_model.specs.Member.{Member}
use Rattle.adr_model.specs.Update.{Key, RowOf, Update, same_identifier, same_object, same_key, is_older, class_attr, is_death_of}
use Rattle.adr_model.specs.Winner.{winner, younger, or_younger}
use Rattle.adr_model.specs.Live.{born, objects_of, standing, yields_to, live, is_among}
use Rattle.adr_model.proofs.Members.{of_filter, of_filter_map, each_fails, one_passes, some_passes}
use Rattle.adr_model.proofs.Keys.{keys_total, objects_tell}
use Rattle.adr_law_knowledge.proofs.Standing.{birth_key}
use Rattle.adr_law_tree.proofs.Fuel.{itself}
use Rattle.adr_law_tree.proofs.Kept.{any_folded}
use Rattle.adr_law_tree.proofs.Loops.{object_itself}

-- a key of which there is an update has a winner
some_younger : (v : Update) (o : Option Update) → (w : Update) × (younger v o ≡ Some w)
some_younger v None = (v, refl)
some_younger v (Some w) = by (is_older v w)
  where
    by : (b : Bool) → (x : Update) × ((if b then Some w else Some v) ≡ Some x)
    by true = (w, refl)
    by false = (v, refl)

wins : (us : List Update) (key : Key) (u : Update) → Member u us → same_key u.key key ≡ true → (w : Update) × (winner us key ≡ Some w)
wins [] key u m same = absurd m
wins (v ∷ us) key u (inl e) same =
    let is : same_key v.key key ≡ true = ap (λ (x : Update). same_key x.key key) (sym e) ∙ same in
    let t = some_younger v (winner us key) in (t.0, ap (λ b. or_younger b v (winner us key)) is ∙ t.1)
wins (v ∷ us) key u (inr m) same = by (same_key v.key key) (wins us key u m same)
  where
    by : (b : Bool) → (w : Update) × (winner us key ≡ Some w) → (w : Update) × (or_younger b v (winner us key) ≡ Some w)
    by false rest = rest
    by true rest = some_younger v (winner us key)

-- objects by the stamp of their birth, and at equal stamps by their birth
abbrev pub elder : LinkStamp × Oid → LinkStamp × Oid → Ordering
elder a b = ordering_then (link_stamp_order a.0 b.0) (birth_order a.1.birth b.1.birth)

pub elders_total : IsTotalOrder elder
elders_total = then_total (on_total (λ (a : LinkStamp × Oid). a.0) link_stamps_total) (on_total (λ (a : LinkStamp × Oid). a.1.birth) births_total)

neither : (r s : Ordering) → is_lt (ordering_then r s) ≡ false → is_lt (ordering_reverse (ordering_then r s)) ≡ false → s ≡ Equal
neither Less s e f = cc
neither Equal Less e f = cc
neither Equal Equal e f = refl
neither Equal Greater e f = cc
neither Greater s e f = cc

module _ (us : List Update) where
  pub has_winner : (o : Oid) → Member o (standing us) → (w : Update) × (winner us (RowOf o class_attr) ≡ Some w)
  has_winner o m =
      let in_objects = (of_filter (λ o. not (list_any (is_death_of o) us)) (objects_of us) o m).0 in
      let any : list_any (λ (p : Oid). same_object p o) (objects_of us) ≡ true = one_passes (λ (p : Oid). same_object p o) (objects_of us) o in_objects (object_itself o) in
      let t = some_passes (λ (p : Oid). same_object p o) (filter_map (λ (u : Update). born u.key) us)
      (sym (any_folded object_order exact_objects (λ (p : Oid). same_object p o) (filter_map (λ (u : Update). born u.key) us) []) ∙ any) in
      let b = of_filter_map (λ (u : Update). born u.key) us t.0 t.1 in
      let is : b.0.key ≡ RowOf o class_attr = birth_key b.0.key t.0 b.2 ∙ ap (λ (p : Oid). RowOf p class_attr) (objects_tell t.0 o t.2) in
      wins us (RowOf o class_attr) b.0 b.1 (ap (λ k. same_key k (RowOf o class_attr)) is ∙ ap is_eq (tied_itself keys_total (RowOf o class_attr)))

  in_live : (o : Oid) → is_among (live us) o ≡ true → Member o (live us)
  in_live o e = let t = some_passes (λ (p : Oid). same_object p o) (live us) e in subst (λ (p : Oid). Member p (live us)) (objects_tell t.0 o t.2) t.1

  yields_not : (o p : Oid) → Member o (live us) → Member p (standing us) → same_identifier o.guid p.guid ≡ true → yields_to us o p ≡ false
  yields_not o p m n same =
      let t = of_filter (λ o. not (list_any (λ p. same_identifier o.guid p.guid && yields_to us o p) (standing us))) (standing us) o m in
      let f : (same_identifier o.guid p.guid && yields_to us o p) ≡ false = each_fails (λ p. same_identifier o.guid p.guid && yields_to us o p) (standing us) (not-true _ t.1) p n in
      sym (ap (λ b. b && yields_to us o p) same) ∙ f

  pub one_live : (o p : Oid) → is_among (live us) o ≡ true → is_among (live us) p ≡ true → o.guid ≡ p.guid → o ≡ p
  one_live o p e f guids = exact_objects o p (ap (λ r. ordering_then r (birth_order o.birth p.birth)) (ap (λ g. identifier_order g p.guid) guids ∙ tied_itself nat_list_cmp_total p.guid) ∙ births_equal)
    where
      m : Member o (live us)
      m = in_live o e

      n : Member p (live us)
      n = in_live p f

      stands : (q : Oid) → Member q (live us) → Member q (standing us)
      stands q l = (of_filter (λ o. not (list_any (λ p. same_identifier o.guid p.guid && yields_to us o p) (standing us))) (standing us) q l).0

      u : (w : Update) × (winner us (RowOf o class_attr) ≡ Some w)
      u = has_winner o (stands o m)

      v : (w : Update) × (winner us (RowOf p class_attr) ≡ Some w)
      v = has_winner p (stands p n)

      o_not : yields_to us o p ≡ false
      o_not = yields_not o p m (stands p n) (ap (λ g. same_identifier g p.guid) guids ∙ itself p.guid)

      p_not : yields_to us p o ≡ false
      p_not = yields_not p o n (stands o m) (ap (λ g. same_identifier g o.guid) (sym guids) ∙ itself o.guid)

      births_equal : birth_order o.birth p.birth ≡ Equal
      births_equal = neither (link_stamp_order u.0.stamp v.0.stamp) (birth_order o.birth p.birth) (rw (u.1, v.1) at o_not)
          (ap is_lt (sym (elders_total.antisymm (v.0.stamp, p) (u.0.stamp, o))) ∙ (rw (u.1, v.1) at p_not))
