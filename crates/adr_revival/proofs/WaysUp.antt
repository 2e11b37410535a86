-- A walk up, what it meets in all, and within how many steps.
use Rattle.std.proofs.Common.{◌≡◌, inl, ℕ, zero, suc, ◌-◌, ◌<◌, ◌≤◌, ◌||◌, Bool, true, false, cond, List, [], ◌∷◌, Some, refl, sym, ap, ◌∙◌, subst, map, length, arith}
use Rattle.std.specs.List.{list_all, list_any}
use Rattle.std.specs.List.Sorted.{IsStrictlySortedBy}
use Rattle.std.specs.Option.{option_map_or}
use Rattle.std.proofs.lemmas.Cmp.{nat_list_cmp_total}
use Rattle.std.proofs.lemmas.List.{length-map}
use Rattle.std.proofs.lemmas.Map.Lookups.{exact_bytes}
use Rattle.adr_values.specs.declared.stamp.Oid.{Oid}
use Rattle.adr_values.specs.Order.{identifier_order}
use Rattle.adr_model.specs.Member.{Member, Each}
use Rattle.adr_model.specs.Update.{Identifier, Update, ends, key_order, same_identifier, same_object}
use Rattle.adr_model.specs.Winner.{winners}
use Rattle.adr_model.specs.Live.{is_among, live, live_rows, objects_of, standing}
use Rattle.adr_model.specs.Place.{Node, node_at, node_of, is_fixed, upward, first_place}
use Rattle.adr_model.specs.Write.{nodes_held}
use Rattle.adr_model.proofs.Keys.{objects_tell}
use Rattle.adr_model.proofs.Members.{each_passes, mapped_member, member_mapped, of_filter, of_filter_map, one_passes, some_passes}
use Rattle.adr_model.proofs.Nodes.{is_node_of}
use Rattle.adr_law_knowledge.proofs.Counting.{no_longer, rises_from}
use Rattle.adr_law_tree.specs.Walk.{Look, climb, free}
use Rattle.adr_law_tree.proofs.InOrder.{order_law}
use Rattle.adr_law_tree.proofs.Loops.{in_climb, of_climb, same_bools, upward_is, mapped_alike}
use Rattle.adr_law_tree.proofs.Unfixed.{free_of, fixed_of, within_free}

-- the way up from any GUID is by the parents as written
pub upward_from : (all : List Node) (k : ℕ) (g : Identifier) → upward all k g ≡ climb (free all) k g
upward_from all zero g = refl
upward_from all (suc k) g = by (is_fixed g) refl
  where
    by : (b : Bool) → is_fixed g ≡ b → cond b [] (option_map_or (λ p. p ∷ upward all k (first_place all p)) (node_at all g) []) ≡ climb (free all) (suc k) g
    by true e = sym (ap (λ o. option_map_or (λ p. p ∷ climb (free all) k p.parent) o []) (fixed_of all g e))
    by false e =
        mapped_alike (λ p. p ∷ upward all k (first_place all p)) (λ p. p ∷ climb (free all) k p.parent) (λ p. ap (λ ns. p ∷ ns) (upward_is all k p)) (node_at all g)
        ∙ sym (ap (λ o. option_map_or (λ p. p ∷ climb (free all) k p.parent) o []) (free_of all g e))

-- whether one of some objects has a GUID as its parent
abbrev pub names : Identifier → List Node → Bool
names target ns = list_any (λ n. same_identifier n.parent target) ns

module _ (at : Look) (target : Identifier) where
  pub one_on : (left : ℕ) (guid : Identifier) (p : Node) (next : Identifier) (whole : Bool) → 0 < left → at guid ≡ Some p → same_identifier p.parent target ≡ false → next ≡ p.parent
      → names target (climb at left guid) ≡ whole → names target (climb at (left - 1) next) ≡ whole
  one_on zero guid p next whole some found other up so_far = absurd (omega (arith, some))
  one_on (suc left) guid p next whole some found other up so_far =
      let e : suc left - 1 ≡ left = omega arith in
      rw (e, up) (sym (ap (λ o. names target (option_map_or (λ p. p ∷ climb at left p.parent) o [])) found ∙ ap (λ b. b || names target (climb at left p.parent)) other) ∙ so_far)

-- what is met is met within as many steps as there are live objects, so more steps than that tell the same
pub enough_steps : (all : List Node) (target : Identifier) (steps : ℕ) (g : Identifier) → length all ≤ steps → names target (climb (free all) steps g) ≡ names target (climb (free all) (length all) g)
enough_steps all target steps g enough = same_bools _ _ (still steps (length all) (omega arith)) (still (length all) steps enough)
  where
    still : (j k : ℕ) → length all ≤ k → names target (climb (free all) j g) ≡ true → names target (climb (free all) k g) ≡ true
    still j k some e =
        let t = some_passes (λ (n : Node). same_identifier n.parent target) (climb (free all) j g) e in
        let w = within_free k all some g t.0 (of_climb (free all) j g t.0 t.1) in
        one_passes (λ (n : Node). same_identifier n.parent target) (climb (free all) k g) t.0 (in_climb (free all) k g t.0 w.0 w.1 w.2) t.2

-- a live object was born
live_born : (us : List Update) (n : Node) → Member n (nodes_held us) → Member n.object (objects_of us)
live_born us n m =
    let u = of_filter_map (λ (v : Update). node_of (live_rows us) v.key v.said) (live_rows us) n m in
    let row = is_node_of (live_rows us) u.0.key u.0.said n u.2 in
    let kept = of_filter (λ (v : Update). list_all (is_among (live us)) (ends v.key)) (winners us) u.0 u.1 in
    let own : Member n.object (ends u.0.key) = subst (λ k. Member n.object (ends k)) (sym row.1) (inl refl) in
    let alive = some_passes (λ (q : Oid). same_object q n.object) (live us) (each_passes (is_among (live us)) (ends u.0.key) kept.1 n.object own) in
    let born = (of_filter _ (objects_of us) alive.0 (of_filter _ (standing us) alive.0 alive.1).0).0 in
    subst (λ o. Member o (objects_of us)) (objects_tell alive.0 n.object alive.2) born

-- there are no more live objects than objects
pub no_more_live : (us : List Update) → IsStrictlySortedBy key_order (map (λ (u : Update). u.key) us) → length (nodes_held us) ≤ length (objects_of us)
no_more_live us rising =
    let fewer = no_longer identifier_order nat_list_cmp_total exact_bytes (map own (nodes_held us)) (map (λ (o : Oid). o.guid) (objects_of us)) (rises_from identifier_order (map own (nodes_held us)) (order_law us rising)) there in
    omega (arith, fewer, length-map (nodes_held us) own, length-map (objects_of us) (λ (o : Oid). o.guid))
  where
    own : Node → Identifier
    own n = n.object.guid

    there : Each (λ g. Member g (map (λ (o : Oid). o.guid) (objects_of us))) (map own (nodes_held us))
    there g m =
        let n = mapped_member own (nodes_held us) g m in
        subst (λ h. Member h (map (λ (o : Oid). o.guid) (objects_of us))) (sym n.2) (member_mapped (λ (o : Oid). o.guid) (objects_of us) n.0.object (live_born us n.0 n.1))
