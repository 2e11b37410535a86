-- What a revival writes is whole, where the rows of its image are, and those that are held.
use Rattle.std.proofs.Common.{◌≡◌, inl, inr, ⊎_elim, ℕ, ◌+◌, Bool, true, false, List, [], ◌∷◌, Option, Some, None, refl, sym, subst, filter_map, flat_map}
use Rattle.std.specs.Bool.{then_some}
use Rattle.std.specs.Option.{option_and_then}
use Rattle.adr_values.specs.Order.{link_order}
use Rattle.adr_values.specs.contracts.stamp.LinkKeyOrd.TheImpl.Laws.{total-law as links_total}
use Rattle.adr_values.proofs.ExactOrders.{exact_links}
use Rattle.adr_values.specs.declared.stamp.Oid.{Oid}
use Rattle.adr_values.specs.declared.stamp.LinkKey.{LinkKey}
use Rattle.adr_values.specs.Table.{kind_at}
use Rattle.adr_values.specs.Schemas.{newest}
use Rattle.adr_token.specs.Laws.{IsIdentifier}
use Rattle.adr_model.specs.Member.{Member, Each}
use Rattle.adr_model.specs.Update.{Identifier, LinkOf, ends, same_identifier}
use Rattle.adr_model.specs.Store.{Store, State, updates_of}
use Rattle.adr_model.specs.Place.{Node}
use Rattle.adr_model.specs.Change.{Written}
use Rattle.adr_model.specs.Write.{Revive, nodes_held, new_object, entry_in, other_end, link_at, is_link_of, link_revived, links_revived, link_row, new_links, items_written}
use Rattle.adr_model.proofs.Members.{found_member, flat_member, of_filter_map}
use Rattle.adr_law_knowledge.proofs.Lists.{of_sorted}
use Rattle.adr_law_calls.proofs.Reviving.{end_told, link_is}
use Rattle.adr_law_headline.specs.Printable.{IsWholeRow, IsWholeWrite}
use Rattle.adr_law_headline.proofs.StayingFormed.{written_by}
use Rattle.adr_law_headline.proofs.WholeRows.{guid_whole, link_whole, only, written_whole}

-- links that come with an object are each written in one row
of_new_links : (s : State) (now usn : ℕ) (ls : List LinkKey) (v : Written) → Member v (new_links s now usn ls) → (l : LinkKey) × Member l ls × ((at : ℕ) × (v ≡ link_row s now at l))
of_new_links s now usn [] v m = absurd m
of_new_links s now usn (l ∷ ls) v (inl e) = (l, inl refl, (usn, e))
of_new_links s now usn (l ∷ ls) v (inr m) = let t = of_new_links s now (usn + 1) ls v m in (t.0, inr t.1, t.2)

module _ (s : State) (image : Store) (guid parent : Identifier) (text : List ℕ) (now : ℕ) (whole : Each IsWholeRow (updates_of s.store.rows)) (given : IsWholeWrite (Revive image guid parent text)) where
  abbrev nodes : List Node
  nodes = nodes_held (updates_of s.store.rows)

  abbrev o : Oid
  o = new_object s guid

  abbrev class : ℕ
  class = (entry_in image guid).class

  abbrev IsEnd : Oid → Type 0
  IsEnd p = IsIdentifier p.guid

  abbrev Ends : LinkKey → Type 0
  Ends l = Each IsEnd (ends (LinkOf l))

  end_whole : (other : Identifier) (p : Oid) → other_end nodes o other ≡ Some p → IsEnd p
  end_whole other p e = ⊎_elim (λ is. subst IsEnd (sym is) given.1)
      (λ t. subst IsEnd t.2 (guid_whole (updates_of s.store.rows) whole t.0 (found_member (λ (n : Node). same_identifier n.object.guid other) nodes t.0 t.1).0))
      (end_told nodes o other p e)

  ends_whole : (attr : ℕ) (other : Identifier) (l : LinkKey) → link_revived s o class attr other ≡ Some l → Ends l
  ends_whole attr other l h = by (other_end nodes o other) refl h
    where
      tested : (k : LinkKey) → Ends k → then_some (is_link_of s o class k) k ≡ Some l → Ends l
      tested k is g = on (is_link_of s o class k) g
        where
          on : (b : Bool) → then_some b k ≡ Some l → Ends l
          on true f = let same : k ≡ l = cc in subst Ends same is
          on false f = absurd (cc)

      on : (p : Oid) → IsEnd p → (k : Option LinkKey) → link_at (kind_at newest attr) attr o p ≡ k → option_and_then (λ (k : LinkKey). then_some (is_link_of s o class k) k) k ≡ Some l → Ends l
      on p is None at g = absurd (cc)
      on p is (Some k) at g = tested k (link_is IsEnd o given.1 (kind_at newest attr) attr p k is at).0 g

      by : (p : Option Oid) → other_end nodes o other ≡ p
          → option_and_then (λ (k : LinkKey). then_some (is_link_of s o class k) k) (option_and_then (link_at (kind_at newest attr) attr o) p) ≡ Some l → Ends l
      by None is g = absurd (cc)
      by (Some p) is g = on p (end_whole other p is) (link_at (kind_at newest attr) attr o p) refl g

  links_whole : Each Ends (links_revived s image guid)
  links_whole l m = ⊎_elim of_lists (λ none. absurd none) (of_sorted link_order links_total exact_links (flat_map revived (entry_in image guid).links) [] l m)
    where
      revived : ℕ × List Identifier → List LinkKey
      revived a = filter_map (link_revived s o class a.0) a.1

      of_lists : Member l (flat_map revived (entry_in image guid).links) → Ends l
      of_lists n =
          let a = flat_member revived (entry_in image guid).links l n in
          let g = of_filter_map (link_revived s o class a.0.0) a.0.1 l a.2 in
          ends_whole a.0.0 g.0 l g.2

  pub revived_whole : Each IsWholeRow (written_by s (Revive image guid parent text) now)
  revived_whole u m = let t = flat_member (λ (v : Written). v.item.rows) (items_written s (Revive image guid parent text) now) u m in of_item t.0 t.1 t.2
    where
      of_item : (v : Written) → Member v (items_written s (Revive image guid parent text) now) → Member u v.item.rows → IsWholeRow u
      of_item v (inl e) n = written_whole s (Revive image guid parent text) now whole given u (subst (λ (x : Written). Member u x.item.rows) e n)
      of_item v (inr k) n =
          let l = of_new_links s now (s.store.usn + 2) (links_revived s image guid) v k in
          let is = links_whole l.0 l.1 in
          only _ (link_whole l.0 _ _ (is l.0.from (inl refl)) (is l.0.to (inr (inl refl)))) u (subst (λ (x : Written). Member u x.item.rows) l.2.1 n)
