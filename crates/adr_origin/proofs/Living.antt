-- A live object is held, and has no row that says that it is dead.
use Rattle.std.proofs.Common.{◌≡◌, ◌==◌, inl, List, [], ◌∷◌, Bool, true, false, cond, not, ◌||◌, Option, Some, None, refl, sym, ap, ◌∙◌, subst, filter_map}
use Rattle.std.specs.Prelude.{IsSome, is_some, if◌then◌else◌}
use Rattle.std.specs.List.{list_any, list_all}
use Rattle.std.specs.Option.{option_map_or}
use Rattle.std.proofs.lemmas.Bool.{not-true}
use Rattle.adr_values.specs.declared.stamp.Oid.{Oid}
use Rattle.adr_values.specs.Order.{object_order}
use Rattle.adr_values.proofs.ExactOrders.{exact_objects}
use Rattle.adr_model.specs.Member.{Member}
use Rattle.adr_model.specs.Update.{Identifier, Key, RowOf, LinkOf, Update, ends, class_attr, deleted_attr, is_death_of, same_key, same_identifier, same_object}
use Rattle.adr_model.specs.Winner.{winners}
use Rattle.adr_model.specs.Live.{born, objects_of, standing, live, is_among, live_rows}
use Rattle.adr_model.specs.Place.{Node, root, node_of, node_at}
use Rattle.adr_model.specs.Store.{Held, updates_of, row_held}
use Rattle.adr_model.specs.Write.{holds_guid, is_of_guid, nodes_held, object_of, version_of}
use Rattle.adr_model.proofs.Keys.{objects_tell}
use Rattle.adr_model.proofs.Nodes.{is_node_of}
use Rattle.adr_model.proofs.Members.{found_member, each_passes, of_filter, of_filter_map, one_passes, some_passes}
use Rattle.adr_law_tree.proofs.Kept.{any_folded}

not_found : (o : Oid) (rows : List Held) → list_any (is_death_of o) (updates_of rows) ≡ false → row_held rows (RowOf o deleted_attr) ≡ None
not_found o [] none = refl
not_found o (h ∷ hs) none = by (same_key h.update.key (RowOf o deleted_attr)) none (not_found o hs)
  where
    by : (b : Bool) → (b || list_any (is_death_of o) (updates_of hs)) ≡ false → (list_any (is_death_of o) (updates_of hs) ≡ false → row_held hs (RowOf o deleted_attr) ≡ None)
        → cond b (Some h) (row_held hs (RowOf o deleted_attr)) ≡ None
    by true n rest = absurd (cc)
    by false n rest = rest n

module _ (rows : List Held) where
  abbrev us : List Update
  us = updates_of rows

  -- an object with a live row was born and hasn't died
  standing_end : (u : Update) → Member u (live_rows us) → (o : Oid) → Member o (ends u.key) → Member o (standing us)
  standing_end u m o end =
      let kept = of_filter (λ (v : Update). list_all (is_among (live us)) (ends v.key)) (winners us) u m in
      let p = some_passes (λ (q : Oid). same_object q o) (live us) (each_passes (is_among (live us)) (ends u.key) kept.1 o end) in
      subst (λ (q : Oid). Member q (standing us)) (objects_tell p.0 o p.2) (of_filter _ (standing us) p.0 p.1).0

  standing_node : (guid : Identifier) (n : Node) → node_at (nodes_held us) guid ≡ Some n → Member n.object (standing us) × (same_identifier n.object.guid guid ≡ true)
  standing_node guid n e =
      let m = found_member (λ (p : Node). same_identifier p.object.guid guid) (nodes_held us) n e in
      let u = of_filter_map (λ (v : Update). node_of (live_rows us) v.key v.said) (live_rows us) n m.0 in
      let row = is_node_of (live_rows us) u.0.key u.0.said n u.2 in
      (standing_end u.0 u.1 n.object (subst (λ k. Member n.object (ends k)) (sym row.1) (inl refl)), m.1)

  of_standing : (o : Oid) → Member o (standing us) → Member o (objects_of us) × (not (list_any (is_death_of o) us) ≡ true)
  of_standing o m = of_filter (λ (q : Oid). not (list_any (is_death_of q) us)) (objects_of us) o m

  node_stands : (guid : Identifier) (n : Node) → node_at (nodes_held us) guid ≡ Some n → row_held rows (RowOf n.object deleted_attr) ≡ None
  node_stands guid n e = not_found n.object rows (not-true _ (of_standing n.object (standing_node guid n e).0).1)

  -- the row that says that a live object is dead is written for the first time
  pub first_death : (guid : Identifier) → IsSome (node_at (nodes_held us) guid) → version_of (row_held rows (RowOf (object_of (nodes_held us) guid) deleted_attr)) ≡ 0
  first_death guid live = by (node_at (nodes_held us) guid) refl live
    where
      none_given : Oid
      none_given = record { guid = guid; birth = record { inv = root; usn = 0 } }

      by : (o : Option Node) → node_at (nodes_held us) guid ≡ o → IsSome o → version_of (row_held rows (RowOf (option_map_or (λ (m : Node). m.object) (node_at (nodes_held us) guid) none_given) deleted_attr)) ≡ 0
      by None is some = absurd (cc)
      by (Some n) is some = ap (λ (o : Option Node). version_of (row_held rows (RowOf (option_map_or (λ (m : Node). m.object) o none_given) deleted_attr))) is ∙ ap version_of (node_stands guid n is)

-- an object was born by a row of its GUID
of_birth : (guid : Identifier) (k : Key) (o : Oid) → born k ≡ Some o → is_of_guid guid k ≡ same_identifier o.guid guid
of_birth guid (RowOf p attr) o e = by (attr == class_attr) e
  where
    by : (b : Bool) → (if b then Some p else None) ≡ Some o → same_identifier p.guid guid ≡ same_identifier o.guid guid
    by true is = let same : p ≡ o = cc in ap (λ (q : Oid). same_identifier q.guid guid) same
    by false is = absurd (cc)
of_birth guid (LinkOf l) o e = absurd (cc)

-- a live object is held
pub holds_live : (rows : List Held) (guid : Identifier) → is_some (node_at (nodes_held (updates_of rows)) guid) ≡ true → holds_guid (updates_of rows) guid ≡ true
holds_live rows guid live = by (node_at (nodes_held us) guid) refl live
  where
    us : List Update
    us = updates_of rows

    is_its : Oid → Bool
    is_its o = same_identifier o.guid guid

    by : (o : Option Node) → node_at (nodes_held us) guid ≡ o → is_some o ≡ true → holds_guid us guid ≡ true
    by None is some = absurd (cc)
    by (Some n) is some =
        let t = standing_node rows guid n is in
        let any = one_passes is_its (objects_of us) n.object (of_standing rows n.object t.0).0 t.1 in
        let o = some_passes is_its (filter_map (λ (u : Update). born u.key) us) (sym (any_folded object_order exact_objects is_its (filter_map (λ (u : Update). born u.key) us) []) ∙ any) in
        let b = of_filter_map (λ (u : Update). born u.key) us o.0 o.1 in
        one_passes (λ (u : Update). is_of_guid guid u.key) us b.0 b.1 (of_birth guid b.0.key o.0 b.2 ∙ o.2)
