-- Edits, one after the other, and what is forgotten after them.
use Rattle.std.proofs.Common.{◌≡◌, ◌<◌, ◌+◌, ◌⊎◌, inl, inr, ℕ, suc, Bool, true, false, cond, List, [], ◌∷◌, Option, Some, None, refl, sym, ap, ◌∙◌, subst, length, arith, slice_index_or}
use Rattle.std.specs.Prelude.{IfSome, IsSome, unwrap_or}
use Rattle.std.specs.Option.{option_map_or}
use Rattle.std.specs.BTreeMap.{BTreeMap, get, is_at}
use Rattle.std.specs.BTreeSet.{BTreeSet, contains}
use Rattle.std.proofs.Math.Nat.{eq-or-lt_of_le}
use Rattle.std.proofs.lemmas.List.{get_or_default}
use Rattle.adr_values.specs.Order.{identifier_order}
use Rattle.adr_model.specs.Member.{Each}
use Rattle.adr_model.specs.Update.{Identifier, same_identifier}
use Rattle.adr_model.specs.Place.{Node, node_at, breaks_loop}
use Rattle.adr_law_tree.specs.Sets.{IsSetOf}
use Rattle.adr_law_tree.proofs.Fuel.{itself, same_guid}
use Rattle.adr_tree.specs.declared.edit.Edit.{Edit}
use Rattle.adr_tree.specs.declared.hints.Hint.{Hint}
use Rattle.adr_tree.specs.declared.tree.Tree.{Tree}
use Rattle.adr_tree.specs.Edits.{AreOwn}
use Rattle.adr_tree.specs.Hints.{AreHinted, child_hint, hint_order, name_hint}
use Rattle.adr_tree.specs.Slots.{IsTidy, flag_at, seen, slot_at}
use Rattle.adr_tree.specs.Tree.{HasRoom, HaveRoom, IsTree, nodes_in}
use Rattle.adr_tree.proofs.Moves.{found_in}
use Rattle.adr_tree.proofs.Runs.{told_apart}

pub each_indexed : {A : Type 0} (P : A → Type 0) (xs : List A) → ((i : ℕ) (d : A) → i < length xs → P (slice_index_or xs i d)) → Each P xs
each_indexed P [] h x m = absurd m
each_indexed P (y ∷ ys) h x (inl e) = subst P (sym e) (h 0 y (omega arith))
each_indexed P (y ∷ ys) h x (inr m) = each_indexed P ys (λ i d less. h (suc i) d (omega (arith, less))) x m

-- what is put in is not there any more
pub fresh_after : (all out : List Node) (guid : Identifier) → ((g : Identifier) → node_at out g ≡ cond (same_identifier guid g) None (node_at all g)) → (o : Option Node)
    → IfSome o (λ n. n.object.guid ≡ guid) → IfSome o (λ n. node_at out n.object.guid ≡ None)
fresh_after all out guid nodes None own = tt
fresh_after all out guid nodes (Some n) own =
    ap (node_at out) own ∙ nodes guid ∙ ap (λ b. cond b None (node_at all guid)) (itself guid)

pub own_later : (e : Edit) (es : List Edit) → AreOwn (e ∷ es) → AreOwn es
own_later e es own x m = own x (inr m)

module _ (t u : Tree) (more : (n : Node) → HasRoom t n → HasRoom u n) where
  still_room : (o : Option Node) → IfSome o (HasRoom t) → IfSome o (HasRoom u)
  still_room None r = tt
  still_room (Some n) r = more n r

  pub room_later : (e : Edit) (es : List Edit) → HaveRoom t (e ∷ es) → HaveRoom u es
  room_later e es room x m = still_room x.node (room x (inr m))

  -- an edit more for which there is room
  pub room_more : (es : List Edit) (k : ℕ) (e : Edit) → k < length es → e ≡ slice_index_or es k e → IfSome e.node (HasRoom u)
      → ((i : ℕ) (d : Edit) → i < k → IfSome (slice_index_or es i d).node (HasRoom t)) → (i : ℕ) (d : Edit) → i < k + 1 → IfSome (slice_index_or es i d).node (HasRoom u)
  room_more es k e within is room before i d less = by (eq-or-lt_of_le (omega (arith, less)))
    where
      by : (i ≡ k) ⊎ (i < k) → IfSome (slice_index_or es i d).node (HasRoom u)
      by (inl same) =
          subst (λ (j : ℕ). IfSome (slice_index_or es j d).node (HasRoom u)) (sym same)
          (subst (λ (x : Edit). IfSome x.node (HasRoom u)) (is ∙ get_or_default es k e d within) room)
      by (inr below) = still_room (slice_index_or es i d).node (before i d below)

-- ---- a slot and a flag freed

module _ (t : Tree) (tree : IsTree t) (guid : Identifier) (slots : BTreeMap Identifier (Option Node)) (tidy : IsTidy slots) (same : seen slots.entries ≡ nodes_in t) (empty : slot_at t.slots guid ≡ None)
    (flags : BTreeMap Identifier Bool) (gone : (g : Identifier) → get identifier_order flags g ≡ cond (is_at (identifier_order guid) g) None (get identifier_order t.flags g)) where
  nobody_there : node_at (nodes_in t) guid ≡ None
  nobody_there = sym (found_in t.slots tree.tidy guid) ∙ empty

  flag_same : (g : Identifier) → flag_at flags g ≡ flag_at t.flags g
  flag_same g = ap (λ o. unwrap_or o false) (gone g) ∙ by (same_identifier guid g) refl
    where
      by : (b : Bool) → same_identifier guid g ≡ b → unwrap_or (cond b None (get identifier_order t.flags g)) false ≡ flag_at t.flags g
      by true at = sym (subst (λ h. flag_at t.flags h ≡ false) (same_guid guid g at) (tree.exact guid ∙ ap (λ o. option_map_or (breaks_loop (nodes_in t)) o false) nobody_there))
      by false at = refl

  flagged_still : (n : Node) → node_at (nodes_in t) n.object.guid ≡ Some n → IsSome (get identifier_order flags n.object.guid)
  flagged_still n here = subst IsSome (sym (gone n.object.guid)) (by (same_identifier guid n.object.guid) refl)
    where
      by : (b : Bool) → same_identifier guid n.object.guid ≡ b → IsSome (cond b None (get identifier_order t.flags n.object.guid))
      by true at = let no : ◌≡◌ {A = Option Node} None (Some n) = sym (subst (λ h. node_at (nodes_in t) h ≡ None) (same_guid guid n.object.guid at) nobody_there) ∙ here in cc
      by false at = tree.flagged n here

  pub freed_tree : IsTree (record { slots = slots; flags = flags; hints = t.hints })
  freed_tree = record {
    tidy = tidy;
    exact = λ g. flag_same g ∙ subst (λ ns. IsSetOf ns (breaks_loop ns) (flag_at t.flags)) (sym same) tree.exact g;
    flagged = λ n here. flagged_still n (ap (λ ns. node_at ns n.object.guid) (sym same) ∙ here);
    hinted = subst (λ ns. AreHinted ns t.hints) (sym same) tree.hinted;
  }

-- ---- a hint forgotten

module _ (t : Tree) (tree : IsTree t) (h : Hint) (hints : BTreeSet Hint) (gone : (q : Hint) → contains hint_order hints q ≡ cond (is_at (hint_order h) q) false (contains hint_order t.hints q)) where
  still : (q : Hint) → (q ≡ h → ⊥) → contains hint_order t.hints q ≡ true → contains hint_order hints q ≡ true
  still q other there = gone q ∙ by (is_at (hint_order h) q) refl
    where
      by : (b : Bool) → is_at (hint_order h) q ≡ b → cond b false (contains hint_order t.hints q) ≡ true
      by true at = absurd (other (sym (told_apart h q at)))
      by false at = there

  pub forgotten_tree : ((n : Node) → node_at (nodes_in t) n.object.guid ≡ Some n → child_hint n ≡ h → ⊥) → ((n : Node) → node_at (nodes_in t) n.object.guid ≡ Some n → name_hint n ≡ h → ⊥)
      → IsTree (record { slots = t.slots; flags = t.flags; hints = hints })
  forgotten_tree child name = record {
    tidy = tree.tidy;
    exact = tree.exact;
    flagged = tree.flagged;
    hinted = λ n here. record {
      child = still (child_hint n) (child n here) (tree.hinted n here).child;
      name = still (name_hint n) (name n here) (tree.hinted n here).name;
    };
  }
