-- The object that is revived stands under the given parent, by the given name.
use Rattle.std.proofs.Common.{◌≡◌, ◌⊎◌, inl, inr, Bool, true, false, not, ◌&&◌, ◌||◌, ℕ, ◌+◌, List, Option, Some, None, is_some, refl, sym, ap, ◌∙◌, subst, find, filter, length, if◌then◌else◌}
use Rattle.std.specs.List.{list_any}
use Rattle.std.specs.Option.{option_map}
use Rattle.std.proofs.lemmas.Bool.{and_parts, and_from, or_parts}
use Rattle.adr_values.specs.Table.{is_superior}
use Rattle.adr_values.specs.Numbered.{numbered}
use Rattle.adr_call.specs.declared.refusal.WriteRefusal.{WriteRefusal}
use Rattle.adr_call.specs.declared.refusal.WriteRefusal.TheVariants.{Fixed, NoParent, WouldLoop, BadSuperior, NameTaken}
use Rattle.adr_model.specs.Member.{Member, Each}
use Rattle.adr_model.specs.Update.{Identifier, same_identifier}
use Rattle.adr_model.specs.Place.{Node, root, lost_and_found, is_fixed, node_at, upward, named_before, place}
use Rattle.adr_model.specs.Shown.{alike, is_lost_name, is_named, gives_way, conflict_name, shown_name, name_holder}
use Rattle.adr_model.specs.Store.{Store, State, updates_of}
use Rattle.adr_model.specs.Change.{Change, after}
use Rattle.adr_model.specs.Formed.{IsFormedStore, IsFormed}
use Rattle.adr_model.specs.Write.{Revive, class_of_place, entry_in, revive_refusals, revive_refusal, rows_written, more_written, items_written, own_change, write_refusal}
use Rattle.adr_model.proofs.Members.{in_filter, of_filter}
use Rattle.adr_law_knowledge.proofs.Refusing.{none_there, answered, not_mapped}
use Rattle.adr_law_calls.proofs.Refusals.{not_so}
use Rattle.adr_law_calls.proofs.InTurn.{in_turn_formed}
use Rattle.adr_law_calls.proofs.Reviving.{may_revive, may_relink}
use Rattle.adr_law_tree.specs.InOrder.{AreInOrder}
use Rattle.adr_law_tree.specs.Breaker.{AreMore, youngest_of}
use Rattle.adr_law_tree.specs.Names.{is_there, IsHolder}
use Rattle.adr_law_tree.proofs.Fuel.{same_guid, itself}
use Rattle.adr_law_tree.proofs.InOrder.{order_law}
use Rattle.adr_law_tree.proofs.RisingRows.{rising_updates}
use Rattle.adr_law_tree.proofs.Trees.{lost_superior_law}
use Rattle.adr_law_tree.proofs.Youngest.{IsYoungest, is_youngest, not_itself}
use Rattle.adr_law_tree.proofs.Names.{placed_law, alike_from, at_member, member_at, holder_law, gives_way_law}
use Rattle.adr_law_revived.specs.Revived.{nodes_in, revived_node, StandsIn, StandsAsGiven}
use Rattle.adr_law_revived.proofs.Loopless.{other_parent, breaks_as_before, stands_there, children_return}
use Rattle.adr_law_revived.proofs.Newly.{one_more}

-- a name that no one holds isn't there
no_one_named : (all : List Node) → AreInOrder all → (parent : Identifier) (text : List ℕ) → is_lost_name parent text ≡ false → name_holder all parent text ≡ None
    → (m : Node) → Member m all → is_named all parent text m ≡ true → ⊥
no_one_named all s parent text lost none m l named =
    let held : name_holder all parent text ≡ Some r.object.guid = holder_law all s parent text r (record { there = at_member all s r r_in.0; named = r_in.1; youngest = λ k at is. y.rest k (in_filter (is_named all parent text) all k (member_at all k.object.guid k at) is) }) lost in
    absurd (cc)
  where
    ns : List Node
    ns = filter (is_named all parent text) all

    r : Node
    r = youngest_of m (filter (is_named all parent text) all)

    y : IsYoungest m (filter (is_named all parent text) all) (youngest_of m (filter (is_named all parent text) all))
    y = is_youngest m (filter (is_named all parent text) all)

    by : (q : Node) → (q ≡ m) ⊎ Member q (filter (is_named all parent text) all) → Member q all × (is_named all parent text q ≡ true)
    by q (inl e) = (subst (λ k. Member k all) (sym e) l, ap (is_named all parent text) e ∙ named)
    by q (inr k) = of_filter (is_named all parent text) all q k

    r_in : Member (youngest_of m (filter (is_named all parent text) all)) all × (is_named all parent text (youngest_of m (filter (is_named all parent text) all)) ≡ true)
    r_in = by (youngest_of m (filter (is_named all parent text) all)) y.is_one

not_lost : (all : List Node) (parent : Identifier) (text : List ℕ) → name_holder all parent text ≡ None → is_lost_name parent text ≡ false
not_lost all parent text none = by (is_lost_name parent text) refl none
  where
    by : (b : Bool) → is_lost_name parent text ≡ b → (if b then Some lost_and_found else option_map (λ (n : Node). n.object.guid) (find (λ n. is_named all parent text n && not (gives_way all n)) all)) ≡ None → b ≡ false
    by false e n = refl
    by true e n = absurd (cc)

-- a test and its negation don't both fail
clash : (b : Bool) → b ≡ false → not b ≡ false → ⊥
clash true e f = absurd (cc)
clash false e f = absurd (cc)

under_lost : (nodes : List Node) → class_of_place nodes lost_and_found ≡ 2
under_lost nodes = refl

module _ (all : List Node) (x : Node) (more : List Node) (are : AreMore all x more) (unfixed : is_fixed x.object.guid ≡ false) (there : is_there all x.parent ≡ true) where
  still_there : same_identifier x.parent x.object.guid ≡ false → is_there more x.parent ≡ true
  still_there other = ap (λ o. is_fixed x.parent || is_some o) (are.other x.parent other) ∙ there

  module _ (s : AreInOrder all) (t : AreInOrder more) (apart : same_identifier x.parent lost_and_found ≡ false) (still : is_there more x.parent ≡ true)
      (breaks : (n : Node) → node_at more n.object.guid ≡ Some n → place more n ≡ x.parent → is_named all x.parent x.text n ≡ is_named more x.parent x.text n)
      (placed : place more x ≡ x.parent) (none : name_holder all x.parent x.text ≡ None) where
    is_holder : IsHolder more (place more x) x.text x
    is_holder = record {
      there = are.here;
      named = and_from _ _ (itself (place more x)) (alike_from x.text x.text refl);
      youngest = λ m at named. by m at (subst (λ g. is_named more g x.text m ≡ true) placed named) (same_identifier m.object.guid x.object.guid) refl;
    }
      where
        by : (m : Node) → node_at more m.object.guid ≡ Some m → is_named more x.parent x.text m ≡ true → (b : Bool) → same_identifier m.object.guid x.object.guid ≡ b → named_before x m ≡ false
        by m at named true e =
            let same : Some m ≡ Some x = sym at ∙ (ap (node_at more) (same_guid m.object.guid x.object.guid e) ∙ are.here) in
            let is : x ≡ m = cc in subst (λ k. named_before x k ≡ false) is (not_itself x)
        by m at named false e = absurd (no_one_named all s x.parent x.text (not_lost all x.parent x.text none) none m (member_at all m.object.guid m (sym (are.other m.object.guid e) ∙ at))
            (breaks m at (same_guid (place more m) x.parent (and_parts _ _ named).0) ∙ named))

    pub shows_text : shown_name more x ≡ x.text
    shows_text = ap (λ b. if b then conflict_name x.text x.object.guid else x.text) (ap (λ b. b || is_lost_name (place more x) x.text) keeps ∙ (ap (λ g. is_lost_name g x.text) placed ∙ not_lost all x.parent x.text none))
      where
        keeps : gives_way more x ≡ false
        keeps = gives_way_law more t x x are.here is_holder ∙ ap not (itself x.object.guid)

module _ (s : State) (formed : IsFormed s) (image : Store) (guid parent : Identifier) (text : List ℕ) (given : IsFormedStore image) (none : revive_refusal s image guid parent text ≡ None) where
  abbrev refusals : List (Option WriteRefusal)
  refusals = revive_refusals s image guid parent text

  unfixed : is_fixed guid ≡ false
  unfixed = not_so (is_fixed guid) (Fixed guid) (none_there refusals none _ (inr (inl refl)))

  parent_there : is_there (nodes_in s) parent ≡ true
  parent_there = by (is_there (nodes_in s) parent) (not_so (not (is_there (nodes_in s) parent)) (NoParent parent) (none_there refusals none _ (inr (inr (inr (inr (inr (inr (inr (inl refl))))))))))
    where
      by : (b : Bool) → not b ≡ false → b ≡ true
      by true e = refl
      by false e = absurd (cc)

  away : list_any (λ n. same_identifier n.parent guid) (upward (nodes_in s) (length (nodes_in s)) parent) ≡ false
  away = not_so (list_any (λ n. same_identifier n.parent guid) (upward (nodes_in s) (length (nodes_in s)) parent)) WouldLoop (none_there refusals none _ (inr (inr (inr (inr (inr (inr (inr (inr (inl refl))))))))))

  not_under_lost : same_identifier parent lost_and_found ≡ false
  not_under_lost = by (same_identifier parent lost_and_found) refl
      (not_so (not (is_superior (numbered s.store.schema) (entry_in image guid).class (class_of_place (nodes_in s) parent))) BadSuperior (none_there refusals none _ (inr (inr (inr (inr (inr (inr (inr (inr (inr (inl refl))))))))))))
    where
      by : (b : Bool) → same_identifier parent lost_and_found ≡ b → not (is_superior (numbered s.store.schema) (entry_in image guid).class (class_of_place (nodes_in s) parent)) ≡ false → b ≡ false
      by false e f = refl
      by true e f =
          let same : class_of_place (nodes_in s) parent ≡ 2 = ap (class_of_place (nodes_in s)) (same_guid parent lost_and_found e) ∙ under_lost (nodes_in s) in
          let never : is_superior (numbered s.store.schema) (entry_in image guid).class (class_of_place (nodes_in s) parent) ≡ false =
          ap (is_superior (numbered s.store.schema) (entry_in image guid).class) same ∙ lost_superior_law s.store.schema (entry_in image guid).class in
          absurd (clash _ never f)

  no_holder : name_holder (nodes_in s) parent text ≡ None
  no_holder = not_mapped NameTaken _ (none_there refusals none _ (inr (inr (inr (inr (inr (inr (inr (inr (inr (inr (inl refl))))))))))))

  module _ (now : ℕ) where
    abbrev t : State
    t = after s (own_change s (items_written s (Revive image guid parent text) now))

    abbrev node : Node
    node = revived_node s image guid parent text now

    pub formed_behind : IsFormed t
    formed_behind = in_turn_formed s (record { local = s.store.usn + 1; item = rows_written s (Revive image guid parent text) now }) (more_written s (Revive image guid parent text) now) formed
        (refl, may_revive s formed image guid parent text given none now, may_relink s formed image guid parent text given none now)

    module _ (are : AreMore (nodes_in s) node (nodes_in t)) where
      still : is_there (nodes_in t) parent ≡ true
      still = still_there (nodes_in s) node (nodes_in t) are unfixed parent_there (other_parent (nodes_in s) node (nodes_in t) are unfixed parent_there away)

      pub placed : place (nodes_in t) node ≡ parent
      placed = stands_there (nodes_in s) node (nodes_in t) are unfixed parent_there away not_under_lost still

      in_order_behind : AreInOrder (nodes_in t)
      in_order_behind = order_law (updates_of t.store.rows) (rising_updates t.store.rows formed_behind.store.rising)

      pub children : Each (λ n. same_identifier n.parent guid ≡ true → place (nodes_in t) n ≡ guid) (nodes_in t)
      children n m names = children_return (nodes_in s) node (nodes_in t) are unfixed parent_there away n (at_member (nodes_in t) in_order_behind n m) names (or_parts (same_identifier guid root) (same_identifier guid lost_and_found) unfixed).1

      named_as_before : (n : Node) → node_at (nodes_in t) n.object.guid ≡ Some n → is_named (nodes_in s) parent text n ≡ is_named (nodes_in t) parent text n
      named_as_before n at = ap (λ b. b && alike n.text text)
          (placed_law (nodes_in s) parent n not_under_lost parent_there
          ∙ (ap (λ b. same_identifier n.parent parent && not b) (sym (breaks_as_before (nodes_in s) node (nodes_in t) are unfixed parent_there away n at)) ∙ sym (placed_law (nodes_in t) parent n not_under_lost still)))

      pub named : shown_name (nodes_in t) node ≡ text
      named = shows_text (nodes_in s) node (nodes_in t) are unfixed parent_there (order_law (updates_of s.store.rows) (rising_updates s.store.rows formed.store.rising)) in_order_behind not_under_lost still
          (λ n at is. named_as_before n at) placed no_holder

pub stands_as_given : StandsAsGiven
stands_as_given s image guid parent text now c formed given e =
    let a = answered (write_refusal s (Revive image guid parent text)) (own_change s (items_written s (Revive image guid parent text) now)) c e in
    let are = one_more s image guid parent text now c formed given e in
    subst (λ (d : Change). AreMore (nodes_in s) (revived_node s image guid parent text now) (nodes_in (after s d)) → StandsIn (nodes_in (after s d)) (revived_node s image guid parent text now)) a.1
    (λ is. (placed s formed image guid parent text given a.0 now is, named s formed image guid parent text given a.0 now is, children s formed image guid parent text given a.0 now is)) are
