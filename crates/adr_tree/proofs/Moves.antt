-- A live object is put in or taken out.
use Rattle.std.proofs.Common.{◌≡◌, ◌⊎◌, ◌≤◌, inl, inr, ⊎_elim, ℕ, zero, suc, Bool, true, false, cond, not, ◌&&◌, ◌||◌, Option, Some, None, option_map, refl, sym, ap, ◌∙◌, subst, length}
use Rattle.std.specs.Prelude.{if◌then◌else◌, IfSome, IsSome, is_some}
use Rattle.std.specs.Bool.{OnFalse}
use Rattle.std.specs.Option.{option_map_or}
use Rattle.std.specs.BTreeMap.{BTreeMap, btree_map_len, get}
use Rattle.adr_values.specs.Order.{identifier_order}
use Rattle.adr_model.specs.Update.{Identifier, same_identifier}
use Rattle.adr_model.specs.Place.{Node, node_at, is_fixed, named_before}
use Rattle.adr_law_tree.specs.Walk.{Look, free}
use Rattle.adr_law_tree.specs.Breaker.{AreMore, loop_breaker}
use Rattle.adr_law_tree.specs.Closing.{closing}
use Rattle.adr_law_tree.proofs.Fuel.{itself, keeps}
use Rattle.adr_law_tree.proofs.Unfixed.{found_free}
use Rattle.adr_tree.specs.declared.tree.Tree.{Tree}
use Rattle.adr_tree.specs.Children.{HasNoChild, closed_by, opened_by}
use Rattle.adr_tree.specs.Slots.{IsTidy, flag_at, flagged, looks, seen, slot_at}
use Rattle.adr_tree.specs.Tree.{HasRoom, IsTree, nodes_in}
use Rattle.adr_tree.specs.Hints.{AreHinted, IsHinted}
use Rattle.adr_tree.proofs.Breaking.{closer_found, nobody, opener_found, put_exact, take_exact}
use Rattle.adr_tree.proofs.Childless.{in_no_loop}
use Rattle.adr_tree.proofs.Seen.{flipped, found, length_seen}

pub found_in : (slots : BTreeMap Identifier (Option Node)) → IsTidy slots → (g : Identifier) → slot_at slots g ≡ node_at (seen slots.entries) g
found_in slots tidy g = found slots.entries g tidy.ordered tidy.home

looks_free : (slots : BTreeMap Identifier (Option Node)) → IsTidy slots → (g : Identifier) → looks slots g ≡ free (seen slots.entries) g
looks_free slots tidy g = ap (λ o. cond (is_fixed g) None o) (found_in slots tidy g)

pub some_there : (o : Option Node) → is_some o ≡ true → (x : Node) × (o ≡ Some x)
some_there None some = cc
some_there (Some x) some = (x, refl)

-- ---- an object comes

-- a walk that finds who breaks the loop finds the new object or one that is there
closing_found : (at : Look) (stop : Node → Bool) (target : Identifier) (left : ℕ) (g : Identifier) (best b : Node) → closing at stop target left g best ≡ Some b → (b ≡ best) ⊎ ((h : Identifier) × (at h ≡ Some b))
closing_found at stop target zero g best b e = cc
closing_found at stop target (suc left) g best b e = by (same_identifier g target) (at g) refl (λ p c. closing_found at stop target left p.parent c b) e
  where
    pick : (p : Node) → at g ≡ Some p → (t : Bool) → b ≡ (if t then p else best) → (b ≡ best) ⊎ ((h : Identifier) × (at h ≡ Some b))
    pick p is true f = inr (g, is ∙ ap Some (sym f))
    pick p is false f = inl f

    on : (p : Node) → at g ≡ Some p → ((p c : Node) → closing at stop target left p.parent c ≡ Some b → (b ≡ c) ⊎ ((h : Identifier) × (at h ≡ Some b))) → (s : Bool)
        → (if s then None else closing at stop target left p.parent (if named_before best p then p else best)) ≡ Some b → (b ≡ best) ⊎ ((h : Identifier) × (at h ≡ Some b))
    on p is rest true f = cc
    on p is rest false f = ⊎_elim (λ k. pick p is (named_before best p) k) (λ k. inr k) (rest p (if named_before best p then p else best) f)

    by : (t : Bool) (o : Option Node) → at g ≡ o → ((p c : Node) → closing at stop target left p.parent c ≡ Some b → (b ≡ c) ⊎ ((h : Identifier) × (at h ≡ Some b)))
        → (if t then Some best else option_map_or (λ p. if stop p then None else closing at stop target left p.parent (if named_before best p then p else best)) o None) ≡ Some b → (b ≡ best) ⊎ ((h : Identifier) × (at h ≡ Some b))
    by true o is rest f = let same : b ≡ best = cc in inl same
    by false None is rest f = cc
    by false (Some p) is rest f = on p is rest (stop p) f

module _ (t : Tree) (tree : IsTree t) (x : Node) (room : HasRoom t x) where
  -- whose flag is set has one
  pub has_flag : (is_parent : Bool) (b : Option Identifier) → b ≡ (if is_parent then closed_by t.slots t.flags x else None) → IfSome b (λ h. IsSome (get identifier_order t.flags h))
  has_flag false b e = subst (λ o. IfSome o (λ h. IsSome (get identifier_order t.flags h))) (sym e) tt
  has_flag true b e = subst (λ o. IfSome o (λ h. IsSome (get identifier_order t.flags h))) (sym e)
      (fixed (is_fixed x.object.guid) (closing (looks t.slots) (flagged t.flags) x.object.guid (btree_map_len t.slots) x.parent x) refl)
    where
      one : (n : Node) → (n ≡ x) ⊎ ((h : Identifier) × (looks t.slots h ≡ Some n)) → IsSome (get identifier_order t.flags n.object.guid)
      one n (inl is) = subst (λ (m : Node). IsSome (get identifier_order t.flags m.object.guid)) (sym is) room.flag
      one n (inr (h, is)) =
          let here : node_at (nodes_in t) h ≡ Some n = found_free (nodes_in t) h n (sym (looks_free t.slots tree.tidy h) ∙ is) in
          tree.flagged n (ap (node_at (nodes_in t)) (keeps (nodes_in t) h n here) ∙ here)

      found_one : (o : Option Node) → closing (looks t.slots) (flagged t.flags) x.object.guid (btree_map_len t.slots) x.parent x ≡ o → IfSome (option_map (λ (n : Node). n.object.guid) o) (λ h. IsSome (get identifier_order t.flags h))
      found_one None is = tt
      found_one (Some n) is = one n (closing_found (looks t.slots) (flagged t.flags) x.object.guid (btree_map_len t.slots) x.parent x n is)

      fixed : (f : Bool) (o : Option Node) → closing (looks t.slots) (flagged t.flags) x.object.guid (btree_map_len t.slots) x.parent x ≡ o → IfSome (if f then None else option_map (λ (n : Node). n.object.guid) o) (λ h. IsSome (get identifier_order t.flags h))
      fixed true o is = tt
      fixed false o is = found_one o is

  module _ (fresh : node_at (nodes_in t) x.object.guid ≡ None) (slots : BTreeMap Identifier (Option Node)) (tidy : IsTidy slots)
      (filled : (g : Identifier) → slot_at slots g ≡ cond (same_identifier x.object.guid g) (Some x) (slot_at t.slots g)) where
    pub put_nodes : (g : Identifier) → node_at (seen slots.entries) g ≡ cond (same_identifier x.object.guid g) (Some x) (node_at (nodes_in t) g)
    put_nodes g = sym (found_in slots tidy g) ∙ filled g ∙ ap (λ o. cond (same_identifier x.object.guid g) (Some x) o) (found_in t.slots tree.tidy g)

    put_more : AreMore (nodes_in t) x (seen slots.entries)
    put_more = record {
      new = fresh;
      here = put_nodes x.object.guid ∙ ap (λ b. cond b (Some x) (node_at (nodes_in t) x.object.guid)) (itself x.object.guid);
      other = λ g e. put_nodes g ∙ ap (λ b. cond b (Some x) (node_at (nodes_in t) g)) (flipped x.object.guid g ∙ e);
    }

    live_more : (n : Node) → node_at (seen slots.entries) n.object.guid ≡ Some n → (n ≡ x) ⊎ (node_at (nodes_in t) n.object.guid ≡ Some n)
    live_more n here = by (same_identifier x.object.guid n.object.guid) (sym (put_nodes n.object.guid) ∙ here)
      where
        by : (b : Bool) → cond b (Some x) (node_at (nodes_in t) n.object.guid) ≡ Some n → (n ≡ x) ⊎ (node_at (nodes_in t) n.object.guid ≡ Some n)
        by true e = let same : n ≡ x = cc in inl same
        by false e = inr e

    hinted_more : AreHinted (seen slots.entries) t.hints
    hinted_more n here = ⊎_elim (λ is. subst (λ (m : Node). IsHinted t.hints m) (sym is) room.hinted) (λ old. tree.hinted n old) (live_more n here)

    breaker_is : btree_map_len slots ≡ btree_map_len t.slots → (is_parent : Bool) → OnFalse is_parent (HasNoChild (nodes_in t) x) → (b : Option Identifier)
        → b ≡ (if is_parent then closed_by t.slots t.flags x else None) → b ≡ option_map (λ (n : Node). n.object.guid) (loop_breaker (seen slots.entries) x)
    breaker_is len true childless b e =
        e ∙ closer_found (nodes_in t) x (seen slots.entries) put_more (looks t.slots) (looks_free t.slots tree.tidy) (flag_at t.flags) (btree_map_len t.slots) tree.exact
        (subst (λ n. length (seen slots.entries) ≤ n) len (length_seen slots.entries))
    breaker_is len false childless b e =
        e ∙ sym (ap (option_map (λ (n : Node). n.object.guid)) (nobody (seen slots.entries) x (in_no_loop (nodes_in t) x (seen slots.entries) put_more childless)))

    pub put_tree : btree_map_len slots ≡ btree_map_len t.slots → (is_parent : Bool) → OnFalse is_parent (HasNoChild (nodes_in t) x) → (b : Option Identifier)
        → b ≡ (if is_parent then closed_by t.slots t.flags x else None) → (flags : BTreeMap Identifier Bool)
        → ((g : Identifier) → flag_at flags g ≡ (option_map_or (λ h. same_identifier h g) b false || flag_at t.flags g))
        → ((g : Identifier) → IsSome (get identifier_order t.flags g) → IsSome (get identifier_order flags g))
        → IsTree (record { slots = slots; flags = flags; hints = t.hints })
    put_tree len is_parent childless b e flags set more = record {
      tidy = tidy;
      exact = put_exact (nodes_in t) x (seen slots.entries) put_more (looks t.slots) (looks_free t.slots tree.tidy) (flag_at t.flags) (btree_map_len t.slots) tree.exact (flag_at flags) b
          (breaker_is len is_parent childless b e) set;
      flagged = λ n here. more n.object.guid
          (⊎_elim (λ is. subst (λ (m : Node). IsSome (get identifier_order t.flags m.object.guid)) (sym is) room.flag) (λ old. tree.flagged n old) (live_more n here));
      hinted = hinted_more;
    }

-- ---- an object goes

module _ (t : Tree) (tree : IsTree t) (guid : Identifier) (slots : BTreeMap Identifier (Option Node)) (tidy : IsTidy slots)
    (emptied : (g : Identifier) → slot_at slots g ≡ cond (same_identifier guid g) None (slot_at t.slots g)) where
  pub take_nodes : (g : Identifier) → node_at (seen slots.entries) g ≡ cond (same_identifier guid g) None (node_at (nodes_in t) g)
  take_nodes g = sym (found_in slots tidy g) ∙ emptied g ∙ ap (λ o. cond (same_identifier guid g) None o) (found_in t.slots tree.tidy g)

  pub live_less : (n : Node) → node_at (seen slots.entries) n.object.guid ≡ Some n → node_at (nodes_in t) n.object.guid ≡ Some n
  live_less n here = by (same_identifier guid n.object.guid) (sym (take_nodes n.object.guid) ∙ here)
    where
      by : (b : Bool) → cond b None (node_at (nodes_in t) n.object.guid) ≡ Some n → node_at (nodes_in t) n.object.guid ≡ Some n
      by true e = cc
      by false e = e

  module _ (x : Node) (there : node_at (nodes_in t) guid ≡ Some x) where
    own : x.object.guid ≡ guid
    own = keeps (nodes_in t) guid x there

    take_less : AreMore (seen slots.entries) x (nodes_in t)
    take_less = record {
      new = take_nodes x.object.guid ∙ ap (λ b. cond b None (node_at (nodes_in t) x.object.guid)) (ap (same_identifier guid) own ∙ itself guid);
      here = ap (node_at (nodes_in t)) own ∙ there;
      other = λ g e. sym (take_nodes g ∙ ap (λ b. cond b None (node_at (nodes_in t) g)) (flipped guid g ∙ ap (same_identifier g) (sym own) ∙ e));
    }

    breaker_was : (is_parent : Bool) → OnFalse is_parent (HasNoChild (seen slots.entries) x) → (b : Option Identifier) → b ≡ (if is_parent then opened_by slots t.flags x else None)
        → b ≡ option_map (λ (n : Node). n.object.guid) (loop_breaker (nodes_in t) x)
    breaker_was true childless b e =
        e ∙ opener_found (seen slots.entries) x (nodes_in t) take_less (looks slots) (looks_free slots tidy) (flag_at t.flags) (btree_map_len slots) tree.exact (length_seen slots.entries)
    breaker_was false childless b e =
        e ∙ sym (ap (option_map (λ (n : Node). n.object.guid)) (nobody (nodes_in t) x (in_no_loop (seen slots.entries) x (nodes_in t) take_less childless)))

    pub take_tree : (is_parent : Bool) → OnFalse is_parent (HasNoChild (seen slots.entries) x) → (b : Option Identifier) → b ≡ (if is_parent then opened_by slots t.flags x else None)
        → (flags : BTreeMap Identifier Bool) → ((g : Identifier) → flag_at flags g ≡ (flag_at t.flags g && not (option_map_or (λ h. same_identifier h g) b false)))
        → ((g : Identifier) → IsSome (get identifier_order t.flags g) → IsSome (get identifier_order flags g))
        → IsTree (record { slots = slots; flags = flags; hints = t.hints })
    take_tree is_parent childless b e flags set more = record {
      tidy = tidy;
      exact = take_exact (seen slots.entries) x (nodes_in t) take_less (looks slots) (looks_free slots tidy) (flag_at t.flags) (btree_map_len slots) tree.exact (flag_at flags) b
          (breaker_was is_parent childless b e) set;
      flagged = λ n here. more n.object.guid (tree.flagged n (live_less n here));
      hinted = λ n here. tree.hinted n (live_less n here);
    }
