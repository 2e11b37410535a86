-- Behind a revival the new object shows the links that came with it, and every other object the links to others that it showed.
use Rattle.std.proofs.Common.{◌≡◌, ◌⊎◌, inl, inr, ⊎_elim, ℕ, List, [], Bool, true, false, Option, Some, None, refl, sym, ap, ◌∙◌, subst, filter_map, flat_map}
use Rattle.std.specs.Bool.{then_some}
use Rattle.std.specs.List.{list_any}
use Rattle.std.specs.Option.{option_and_then}
use Rattle.adr_values.specs.Order.{link_order}
use Rattle.adr_values.specs.contracts.stamp.LinkKeyOrd.TheImpl.Laws.{total-law as links_total}
use Rattle.adr_values.proofs.ExactOrders.{exact_links}
use Rattle.adr_values.specs.declared.stamp.Oid.{Oid}
use Rattle.adr_values.specs.declared.stamp.LinkKey.{LinkKey}
use Rattle.adr_values.specs.Table.{kind_at}
use Rattle.adr_values.specs.Schemas.{newest}
use Rattle.adr_values.specs.Numbered.{numbered}
use Rattle.adr_call.specs.declared.refusal.WriteRefusal.TheVariants.{BirthThere}
use Rattle.adr_model.specs.Member.{Member, Each}
use Rattle.adr_model.specs.Update.{Identifier, Key, LinkOf, Said, IsPresent, Update, ends, same_identifier, same_object}
use Rattle.adr_model.specs.Live.{live_rows}
use Rattle.adr_model.specs.Place.{Node, node_at}
use Rattle.adr_model.specs.Directory.{link_ends, links_at}
use Rattle.adr_model.specs.Store.{Held, Store, State, updates_of}
use Rattle.adr_model.specs.Formed.{IsFormedStore, IsFormed}
use Rattle.adr_model.specs.Write.{new_object, entry_in, other_end, link_at, is_link_of, link_revived, links_revived, names_object, revive_refusals, revive_refusal}
use Rattle.adr_model.proofs.Members.{each_fails, flat_member, member_flat, of_filter_map, one_passes}
use Rattle.adr_law_knowledge.proofs.Comparing.{objects_same}
use Rattle.adr_law_knowledge.proofs.Lists.{of_sorted}
use Rattle.adr_law_knowledge.proofs.Refusing.{none_there}
use Rattle.adr_law_calls.proofs.Rows.{held_as}
use Rattle.adr_law_calls.proofs.Rising.{one_update}
use Rattle.adr_law_calls.proofs.Nodes.{of_live_rows}
use Rattle.adr_law_calls.proofs.Refusals.{not_so}
use Rattle.adr_law_calls.proofs.Reviving.{end_told, link_is}
use Rattle.adr_law_tree.specs.Breaker.{AreMore}
use Rattle.adr_law_tree.proofs.Fuel.{one_or_not, itself}
use Rattle.adr_law_tree.proofs.InOrder.{order_law}
use Rattle.adr_law_tree.proofs.RisingRows.{rising_updates}
use Rattle.adr_law_tree.proofs.Names.{at_member, member_at}
use Rattle.adr_law_revived.specs.Revived.{nodes_in, revived_node, links_to_others, links_shown}
use Rattle.adr_law_revived.proofs.Revival.{revival}
use Rattle.adr_law_revived.proofs.Behind.{IsOfLinks, SaysLink, link_row, held_stays, link_comes}
use Rattle.adr_law_revived.proofs.Ends.{IsShownBy, shown_by, own_end, other_end_there, Lives, row_lives, ends_live}
use Rattle.adr_law_revived.proofs.Gathered.{AreIn, AreOthers, one_list, gathered_so, others_so}
use Rattle.adr_law_revived.proofs.Valued.{not_either, other_guid, other_object, lives_on, node_there}

-- ---- which links come

module _ (s : State) (o : Oid) (class : ℕ) where
  abbrev nodes : List Node
  nodes = nodes_in s

  -- the new object, or a live one
  abbrev IsEnd : Oid → Type 0
  IsEnd p = (p ≡ o) ⊎ Lives (updates_of s.store.rows) p

  record IsRelinked (l : LinkKey) : Type 0 where
    of_ends : Each IsEnd (ends (LinkOf l))
    own : Member o (ends (LinkOf l))

  end_is : (g : Identifier) (p : Oid) → other_end nodes o g ≡ Some p → IsEnd p
  end_is g p e = ⊎_elim (λ is. inl is) (λ t. inr (t.0, member_at nodes g t.0 t.1, t.2)) (end_told nodes o g p e)

  comes : (attr : ℕ) (p : Oid) (l : LinkKey) → IsEnd p → link_at (kind_at newest attr) attr o p ≡ Some l → IsRelinked l
  comes attr p l is e = let t = link_is IsEnd o (inl refl) (kind_at newest attr) attr p l is e in record { of_ends = t.0; own = t.1 }

  tested : (b : Bool) (k l : LinkKey) → then_some b k ≡ Some l → k ≡ l
  tested true k l e = let same : k ≡ l = cc in same
  tested false k l e = absurd (cc)

  revived_is : (attr : ℕ) (g : Identifier) (l : LinkKey) → link_revived s o class attr g ≡ Some l → IsRelinked l
  revived_is attr g l h = by (other_end nodes o g) refl h
    where
      on : (p : Oid) → IsEnd p → (k : Option LinkKey) → link_at (kind_at newest attr) attr o p ≡ k → option_and_then (λ (k : LinkKey). then_some (is_link_of s o class k) k) k ≡ Some l → IsRelinked l
      on p is None at e = absurd (cc)
      on p is (Some k) at e = subst IsRelinked (tested (is_link_of s o class k) k l e) (comes attr p k is at)

      by : (p : Option Oid) → other_end nodes o g ≡ p
          → option_and_then (λ (k : LinkKey). then_some (is_link_of s o class k) k) (option_and_then (link_at (kind_at newest attr) attr o) p) ≡ Some l → IsRelinked l
      by None is e = absurd (cc)
      by (Some p) is e = on p (end_is g p is) (link_at (kind_at newest attr) attr o p) refl e

  all_relinked : (given : List (ℕ × List Identifier)) → Each IsRelinked (flat_map (λ (a : ℕ × List Identifier). filter_map (link_revived s o class a.0) a.1) given)
  all_relinked given l m =
      let a = flat_member (λ (a : ℕ × List Identifier). filter_map (link_revived s o class a.0) a.1) given l m in
      let g = of_filter_map (link_revived s o class a.0.0) a.0.1 l a.2 in
      revived_is a.0.0 g.0 l g.2

each_relinked : (s : State) (image : Store) (guid : Identifier) → Each (IsRelinked s (new_object s guid) (entry_in image guid).class) (links_revived s image guid)
each_relinked s image guid l m =
    ⊎_elim (all_relinked s (new_object s guid) (entry_in image guid).class (entry_in image guid).links l) (λ none. absurd none)
    (of_sorted link_order links_total exact_links (flat_map (λ (a : ℕ × List Identifier). filter_map (link_revived s (new_object s guid) (entry_in image guid).class a.0) a.1) (entry_in image guid).links) [] l m)

-- ---- a revival

module _ (s : State) (formed : IsFormed s) (image : Store) (guid parent : Identifier) (text : List ℕ) (given : IsFormedStore image) (none : revive_refusal s image guid parent text ≡ None) (now : ℕ) where
  open (revival s formed image guid parent text given none now) use {held, o, come, behind}

  abbrev all : List Update
  all = updates_of behind.store.rows

  -- no row is about the new object
  not_about : (u : Update) → Member u held → Member o (ends u.key) → ⊥
  not_about u m n = not_either (list_any (same_object o) (ends u.key)) (one_passes (same_object o) (ends u.key) o n (objects_same o o refl))
      (ap (λ (v : Update). list_any (same_object o) (ends v.key)) h.2
      ∙ each_fails (λ (x : Held). list_any (same_object o) (ends x.update.key)) s.store.rows
      (not_so (names_object s.store.rows o) (BirthThere guid) (none_there (revive_refusals s image guid parent text) none _ (inr (inr (inr (inr (inr (inl refl)))))))) h.0 h.1)
    where
      h : (x : Held) × Member x s.store.rows × (u ≡ x.update)
      h = held_as s.store.rows u m

  module _ (formed_then : IsFormed behind) (are : AreMore (nodes_in s) (revived_node s image guid parent text now) (nodes_in behind)) where
    one_held : Each (λ u. Each (λ v. u.key ≡ v.key → u ≡ v) held) held
    one_held = one_update s.store.rows formed.store.rising

    one_all : Each (λ u. Each (λ v. u.key ≡ v.key → u ≡ v) all) all
    one_all = one_update behind.store.rows formed_then.store.rising

    -- who lived lives on, and who lives is new or lived
    stays_alive : (p : Oid) → Lives held p → Lives all p
    stays_alive p (n, m, e) = (n, lives_on s formed image guid parent text given none now formed_then are n m, e)

    lived : (p : Oid) → (p ≡ o → ⊥) → Lives all p → Lives held p
    lived p other (n, m, e) = by (one_or_not n.object.guid guid)
      where
        at : node_at (nodes_in behind) n.object.guid ≡ Some n
        at = at_member (nodes_in behind) (order_law all (rising_updates behind.store.rows formed_then.store.rising)) n m

        by : (n.object.guid ≡ guid) ⊎ (same_identifier n.object.guid guid ≡ false) → Lives held p
        by (inl same) =
            let is : Some n ≡ Some (revived_node s image guid parent text now) = sym at ∙ (ap (node_at (nodes_in behind)) same ∙ are.here) in
            let node : n ≡ revived_node s image guid parent text now = cc in
            absurd (other (sym e ∙ ap (λ (x : Node). x.object) node))
        by (inr apart) = (n, member_at (nodes_in s) n.object.guid n (sym (are.other n.object.guid apart) ∙ at), e)

    new_lives : Lives all o
    new_lives = (revived_node s image guid parent text now, node_there s formed image guid parent text given none now formed_then are, refl)

    abbrev shows_in : Oid → List (ℕ × Identifier)
    shows_in p = flat_map (λ (u : Update). link_ends p u.key u.said) (live_rows all)

    abbrev showed : Oid → List (ℕ × Identifier)
    showed p = flat_map (λ (u : Update). link_ends p u.key u.said) (live_rows held)

    row_of : (u : Update) → Member u (live_rows all) → Member u all
    row_of u m = (of_live_rows all u m).0

    abbrev brought : List (ℕ × Identifier)
    brought = flat_map (λ (l : LinkKey). link_ends o (LinkOf l) (IsPresent true)) come

    -- what the new object shows is what came
    new_only : (attr : ℕ) (g : Identifier) → AreIn (shows_in o) attr g → AreIn brought attr g
    new_only attr g m = by u.0 u.2 (shown_by o u.0.key u.0.said (attr, g) u.2)
        (λ l key. link_row s formed image guid parent text given none now u.0 (row_of u.0 u.1) l key)
      where
        u : (u : Update) × Member u (live_rows all) × Member (attr, g) (link_ends o u.key u.said)
        u = flat_member (λ (u : Update). link_ends o u.key u.said) (live_rows all) (attr, g) m

        by : (u : Update) → Member (attr, g) (link_ends o u.key u.said) → IsShownBy o u.key u.said (attr, g) → ((l : LinkKey) → u.key ≡ LinkOf l → IsOfLinks come u ⊎ Member u held) → AreIn brought attr g
        by u n is whence = ⊎_elim
            (λ new. member_flat (λ (l : LinkKey). link_ends o (LinkOf l) (IsPresent true)) come new.link (attr, g) new.of
            (subst (λ (said : Said). Member (attr, g) (link_ends o (LinkOf new.link) said)) new.present (subst (λ (k : Key). Member (attr, g) (link_ends o k u.said)) new.key n)))
            (λ old. absurd (not_about u old (own_end o u.key u.said (attr, g) is)))
            (whence is.link is.key)

    new_all : (attr : ℕ) (g : Identifier) → AreIn brought attr g → AreIn (shows_in o) attr g
    new_all attr g m = by l.0 l.1 l.2 (link_comes s formed image guid parent text given none now l.0 l.1)
      where
        l : (l : LinkKey) × Member l come × Member (attr, g) (link_ends o (LinkOf l) (IsPresent true))
        l = flat_member (λ (l : LinkKey). link_ends o (LinkOf l) (IsPresent true)) come (attr, g) m

        by : (l : LinkKey) → Member l come → Member (attr, g) (link_ends o (LinkOf l) (IsPresent true)) → SaysLink all l → AreIn (shows_in o) attr g
        by l is n (u, there, key, present) = member_flat (λ (u : Update). link_ends o u.key u.said) (live_rows all) u (attr, g)
            (row_lives all one_all u there (λ p k. ⊎_elim (λ e. subst (Lives all) (sym e) new_lives) (stays_alive p) ((each_relinked s image guid l is).of_ends p (subst (λ (x : Key). Member p (ends x)) key k))))
            (subst (λ (said : Said). Member (attr, g) (link_ends o u.key said)) (sym present) (subst (λ (k : Key). Member (attr, g) (link_ends o k (IsPresent true))) (sym key) n))

    pub new_links_shown : links_at (live_rows all) o ≡ links_shown o come
    new_links_shown = one_list (AreIn (shows_in o)) (AreIn brought) new_only new_all (links_at (live_rows all) o) (links_shown o come) (gathered_so (shows_in o)) (gathered_so brought)

    -- what another object shows of others is what it showed
    module _ (n : Node) (is_in : Member n (nodes_in s)) where
      abbrev p : Oid
      p = n.object

      never_new : (l : LinkKey) (other : Oid) → Member o (ends (LinkOf l)) → ((l.from ≡ p) × (l.to ≡ other)) ⊎ ((l.to ≡ p) × (l.from ≡ other)) → other ≡ o
      never_new l other (inl e) (inl at) = absurd (other_object s formed image guid parent text given none now formed_then are n is_in (sym at.0 ∙ sym e))
      never_new l other (inl e) (inr at) = sym at.1 ∙ sym e
      never_new l other (inr (inl e)) (inl at) = sym at.1 ∙ sym e
      never_new l other (inr (inl e)) (inr at) = absurd (other_object s formed image guid parent text given none now formed_then are n is_in (sym at.0 ∙ sym e))
      never_new l other (inr (inr m)) at = absurd m

      old_only : (attr : ℕ) (g : Identifier) → AreOthers guid (AreIn (shows_in p)) attr g → AreIn (showed p) attr g
      old_only attr g (m, apart) = by u.0 u.1 u.2 (shown_by p u.0.key u.0.said (attr, g) u.2) (λ l key. link_row s formed image guid parent text given none now u.0 (row_of u.0 u.1) l key)
        where
          u : (u : Update) × Member u (live_rows all) × Member (attr, g) (link_ends p u.key u.said)
          u = flat_member (λ (u : Update). link_ends p u.key u.said) (live_rows all) (attr, g) m

          to_new : (u : Update) (is : IsShownBy p u.key u.said (attr, g)) → IsOfLinks come u → ⊥
          to_new u is new =
              let own : Member o (ends (LinkOf is.link)) = subst (λ (k : Key). Member o (ends k)) (sym new.key ∙ is.key) (each_relinked s image guid new.link new.of).own in
              let same : same_identifier g guid ≡ true = ap (λ h. same_identifier h guid) (is.is_other ∙ ap (λ (q : Oid). q.guid) (never_new is.link is.other own is.at)) ∙ itself guid in
              not_either (same_identifier g guid) same apart

          by : (u : Update) → Member u (live_rows all) → Member (attr, g) (link_ends p u.key u.said) → IsShownBy p u.key u.said (attr, g) → ((l : LinkKey) → u.key ≡ LinkOf l → IsOfLinks come u ⊎ Member u held) → AreIn (showed p) attr g
          by u lives k is whence = ⊎_elim (λ new. absurd (to_new u is new))
              (λ old. member_flat (λ (u : Update). link_ends p u.key u.said) (live_rows held) u (attr, g)
              (row_lives held one_held u old (λ q e. lived q (λ same. not_about u old (subst (λ (x : Oid). Member x (ends u.key)) same e)) (ends_live all one_all (numbered behind.store.schema) formed_then.store.rows u lives q e))) k)
              (whence is.link is.key)

      old_all : (attr : ℕ) (g : Identifier) → AreIn (showed p) attr g → AreOthers guid (AreIn (shows_in p)) attr g
      old_all attr g m = by u.0 u.1 u.2 (shown_by p u.0.key u.0.said (attr, g) u.2) (of_live_rows held u.0 u.1).0
        where
          u : (u : Update) × Member u (live_rows held) × Member (attr, g) (link_ends p u.key u.said)
          u = flat_member (λ (u : Update). link_ends p u.key u.said) (live_rows held) (attr, g) m

          apart : (q : Oid) → Lives held q → g ≡ q.guid → same_identifier g guid ≡ false
          apart q (x, k, e) is = ap (λ h. same_identifier h guid) (is ∙ ap (λ (y : Oid). y.guid) (sym e)) ∙ other_guid s formed image guid parent text given none now formed_then are x k

          by : (u : Update) → Member u (live_rows held) → Member (attr, g) (link_ends p u.key u.said) → IsShownBy p u.key u.said (attr, g) → Member u held → AreOthers guid (AreIn (shows_in p)) attr g
          by u lives k is old =
              let alive = ends_live held one_held (numbered s.store.schema) formed.store.rows u lives in (
                member_flat (λ (u : Update). link_ends p u.key u.said) (live_rows all) u (attr, g) (row_lives all one_all u (held_stays s formed image guid parent text given none now u old) (λ q e. stays_alive q (alive q e))) k,
                apart is.other (alive is.other (other_end_there p u.key u.said (attr, g) is)) is.is_other,
              )

      pub others_links : links_to_others guid (links_at (live_rows all) p) ≡ links_at (live_rows held) p
      others_links = one_list (AreOthers guid (AreIn (shows_in p))) (AreIn (showed p)) old_only old_all (links_to_others guid (links_at (live_rows all) p)) (links_at (live_rows held) p)
          (others_so guid (AreIn (shows_in p)) (links_at (live_rows all) p) (gathered_so (shows_in p))) (gathered_so (showed p))
