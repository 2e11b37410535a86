-- What a formed store of whole rows shows is printable.
use Rattle.std.proofs.Common.{◌≡◌, ◌⊎◌, inl, inr, ⊎_elim, ◌==◌, ℕ, zero, suc, ◌+◌, ◌<◌, List, [], ◌∷◌, Bool, true, false, cond, ◌||◌, Some, None, is_some, refl, sym, ap, ◌∙◌, subst, arith, map, flat_map, filter_map, fold}
use Rattle.std.specs.Prelude.{All}
use Rattle.std.specs.BTreeSet.{insert_key}
use Rattle.std.specs.Ordering.{nat_cmp}
use Rattle.std.proofs.lemmas.Cmp.{nat_cmp_total, nat_list_cmp_total}
use Rattle.std.proofs.lemmas.List.Elements.{All-from_recursion}
use Rattle.std.proofs.lemmas.Map.Lookups.{exact_bytes, exact_unsigned}
use Rattle.adr_values.specs.Order.{identifier_order}
use Rattle.adr_values.specs.declared.stamp.Oid.{Oid}
use Rattle.adr_values.specs.declared.stamp.LinkKey.{LinkKey}
use Rattle.adr_values.specs.Allowed.{IsAllowed}
use Rattle.adr_values.specs.Numbered.{numbered}
use Rattle.adr_values.specs.Table.{is_forward, kind_at}
use Rattle.adr_values.specs.declared.content.Value.{Value as Item}
use Rattle.adr_values.specs.declared.content.Content.TheVariants.{Class, Name, Dead, Values}
use Rattle.adr_token.specs.Laws.{IsIdentifier}
use Rattle.adr_token.proofs.ByteLaws.{bytes_identifier}
use Rattle.adr_model.specs.Member.{Member, Each}
use Rattle.adr_model.specs.Update.{Identifier, Key, RowOf, LinkOf, Said, Holds, IsPresent, Update, same_object, ends, deleted_attr}
use Rattle.adr_model.specs.Live.{live_rows}
use Rattle.adr_model.specs.Place.{Node, is_fixed, lost_and_found, node_at, breaks_loop, place}
use Rattle.adr_model.specs.Directory.{with_values, values_in, values_at, back_link, one_where, link_ends, of_attribute, links_at, entry_of, directory}
use Rattle.adr_model.specs.Formed.{AreFormedRows, IsObjectFormed}
use Rattle.adr_model.specs.Reflects.{HoldsObject}
use Rattle.adr_model.specs.Sound.{AreClassesKnown}
use Rattle.adr_model.specs.Write.{nodes_held}
use Rattle.adr_model.proofs.Members.{mapped_member, flat_member, of_filter_map}
use Rattle.adr_law_knowledge.proofs.Lists.{of_sorted}
use Rattle.adr_model.specs.Spelled.{IsContentOfAttr, IsSaidOfKey, SayOfTheirKeys}
use Rattle.adr_law_recorded.proofs.Values.{all_in}
use Rattle.adr_answers.specs.Laws.{IsWholeReference}
use Rattle.adr_answers.specs.Printable.{ArePrintableValues, ArePrintableLinks, IsPrintableEntry, IsPrintable}
use Rattle.adr_answers.proofs.Allowed.{classes as class_printable, values as values_printable, links as links_printable}
use Rattle.adr_law_headline.specs.Printable.{IsWholeRow, IsWholeSaid}
use Rattle.adr_law_headline.proofs.WholeRows.{live_row, class_row, guid_whole, parent_whole}

-- of each member, and so at each place
each_place : {A : Type 0} (P : A → Type 0) (xs : List A) → Each P xs → All P xs
each_place P xs each = All-from_recursion P xs (all_in P xs each)

-- ---- values

values_from : (o : Oid) (k : Key) (said : Said) (v : ℕ × List Item) → values_in o k said ≡ Some v → (p : Oid) × (k ≡ RowOf p v.0) × (said ≡ Holds (Values v.1))
values_from o (RowOf p attr) (Holds (Values vs)) v e = by (same_object p o) vs e
  where
    by : (b : Bool) (xs : List Item) → cond b (with_values attr xs) None ≡ Some v → (q : Oid) × (RowOf p attr ≡ RowOf q v.0) × (Holds (Values xs) ≡ Holds (Values v.1))
    by false xs h = absurd (cc)
    by true [] h = absurd (cc)
    by true (x ∷ xs) h = let same : (attr, x ∷ xs) ≡ v = cc in (p, ap (λ (z : ℕ × List Item). RowOf p z.0) same, ap (λ (z : ℕ × List Item). Holds (Values z.1)) same)
values_from o (RowOf p attr) (Holds (Class class)) v e = absurd (cc)
values_from o (RowOf p attr) (Holds (Name text parent)) v e = absurd (cc)
values_from o (RowOf p attr) (Holds Dead) v e = absurd (cc)
values_from o (RowOf p attr) (IsPresent b) v e = absurd (cc)
values_from o (LinkOf l) said v e = absurd (cc)

-- ---- links

of_one_where : {A : Type 0} (b : Bool) (x : A) (xs : List A) (e : A) → Member e (one_where b x xs) → (e ≡ x) ⊎ Member e xs
of_one_where true x xs e m = m
of_one_where false x xs e m = inr m

-- an end of a link, at the other one's object
abbrev IsEndOf : LinkKey → ℕ × Identifier → Type 0
IsEndOf l e = (e ≡ (l.attr, l.to.guid)) ⊎ (e ≡ (back_link l.attr, l.from.guid))

ends_from : (o : Oid) (k : Key) (said : Said) (e : ℕ × Identifier) → Member e (link_ends o k said) → (l : LinkKey) × (k ≡ LinkOf l) × IsEndOf l e
ends_from o (LinkOf l) (IsPresent true) e m = (l, refl, by (of_one_where (same_object l.from o) (l.attr, l.to.guid) more e m))
  where
    more : List (ℕ × Identifier)
    more = one_where (same_object l.to o) (back_link l.attr, l.from.guid) []

    by : (e ≡ (l.attr, l.to.guid)) ⊎ Member e more → IsEndOf l e
    by (inl is) = inl is
    by (inr n) = ⊎_elim (λ is. inr is) (λ none. absurd none) (of_one_where (same_object l.to o) (back_link l.attr, l.from.guid) [] e n)
ends_from o (LinkOf l) (IsPresent false) e m = absurd m
ends_from o (LinkOf l) (Holds content) e m = absurd m
ends_from o (RowOf p attr) said e m = absurd m

end_of_attribute : (attr : ℕ) (e : ℕ × Identifier) (g : Identifier) → of_attribute attr e ≡ Some g → e.1 ≡ g
end_of_attribute attr e g is = by (e.0 == attr) is
  where
    by : (b : Bool) → cond b (Some e.1) None ≡ Some g → e.1 ≡ g
    by true h = cc
    by false h = absurd (cc)

-- ---- places

lost_is_whole : IsIdentifier lost_and_found
lost_is_whole = bytes_identifier 2

place_whole : (all : List Node) (n : Node) → IsIdentifier n.parent → IsIdentifier (place all n)
place_whole all n parent = by (breaks_loop all n) (is_fixed n.parent || is_some (node_at all n.parent))
  where
    by : (b c : Bool) → IsIdentifier (cond b lost_and_found (cond c n.parent lost_and_found))
    by true c = lost_is_whole
    by false true = parent
    by false false = lost_is_whole

module _ (schema : ℕ) (rows : List Update) (formed : AreFormedRows (numbered schema) rows) (classes : AreClassesKnown (numbered schema) rows)
    (says : SayOfTheirKeys rows) (whole : Each IsWholeRow rows) where
  -- ---- values

  -- a row of values isn't reserved
  values_above : (u : Update) → Member u rows → (o : Oid) (attr : ℕ) (vs : List Item) → u.key ≡ RowOf o attr → u.said ≡ Holds (Values vs) → deleted_attr < attr
  values_above u m o attr vs is said =
      by attr is (subst (λ k. IsSaidOfKey k (Holds (Values vs))) is (subst (λ (x : Said). IsSaidOfKey u.key x) said (says u m)))
    where
      by : (a : ℕ) → u.key ≡ RowOf o a → IsContentOfAttr a (Values vs) → deleted_attr < a
      by zero e other = absurd (formed.none o u m e)
      by (suc zero) e other = absurd (other.0 refl)
      by (suc (suc zero)) e other = absurd (other.1 refl)
      by (suc (suc (suc zero))) e other = absurd (other.2 refl)
      by (suc (suc (suc (suc n)))) e other = omega arith

  values_allowed : (u : Update) → Member u rows → (o : Oid) (attr : ℕ) (vs : List Item) → u.key ≡ RowOf o attr → u.said ≡ Holds (Values vs)
      → (class : ℕ) × IsAllowed (numbered schema) class attr vs
  values_allowed u m o attr vs is said = by (formed.objects o held)
    where
      held : HoldsObject rows o
      held = (u, attr, m, is)

      above : deleted_attr < attr
      above = values_above u m o attr vs is said

      by : IsObjectFormed (numbered schema) rows o → (class : ℕ) × IsAllowed (numbered schema) class attr vs
      by (inl dead) = absurd (dead.bare attr above u m is)
      by (inr (alive, keeps)) =
          let n = formed.named o held in
          let v = (keeps n.class n.of_class).allowed attr above u m is in
          let as_said : Holds (Values v.0) ≡ Holds (Values vs) = sym v.1 ∙ said in
          let same : v.0 ≡ vs = cc in
          (n.class, subst (IsAllowed (numbered schema) n.class attr) same v.2)

  each_value : (o : Oid) → Each ArePrintableValues (values_at (live_rows rows) o)
  each_value o v m =
      let t = of_filter_map (λ (u : Update). values_in o u.key u.said) (live_rows rows) v m in
      let there = live_row rows t.0 t.1 in
      let f = values_from o t.0.key t.0.said v t.2 in
      let a = values_allowed t.0 there f.0 v.0 v.1 f.1 f.2 in
      values_printable schema a.0 v.0 v.1 a.1 (each_place IsWholeReference v.1 (subst IsWholeSaid f.2 (whole t.0 there).says))

  -- ---- links

  record IsEnd (e : ℕ × Identifier) : Type 0 where
    guid : IsIdentifier e.1
    attr : ℕ
    forward : is_forward (kind_at (numbered schema) attr) ≡ true
    either : (e.0 ≡ attr) ⊎ (e.0 ≡ attr + 1)

  abbrev ends_at : Oid → List (ℕ × Identifier)
  ends_at o = flat_map (λ (u : Update). link_ends o u.key u.said) (live_rows rows)

  each_end : (o : Oid) → Each IsEnd (ends_at o)
  each_end o e m =
      let t = flat_member (λ (u : Update). link_ends o u.key u.said) (live_rows rows) e m in
      let f = ends_from o t.0.key t.0.said e t.2 in
      by t.0 (live_row rows t.0 t.1) f.0 f.1 f.2
    where
      by : (u : Update) → Member u rows → (l : LinkKey) → u.key ≡ LinkOf l → IsEndOf l e → IsEnd e
      by u there l is (inl end) = record {
        guid = subst (λ (x : ℕ × Identifier). IsIdentifier x.1) (sym end) ((whole u there).about l.to (subst (λ k. Member l.to (ends k)) (sym is) (inr (inl refl))));
        attr = l.attr;
        forward = (formed.links l u there is).forward;
        either = inl (ap (λ (x : ℕ × Identifier). x.0) end);
      }
      by u there l is (inr end) = record {
        guid = subst (λ (x : ℕ × Identifier). IsIdentifier x.1) (sym end) ((whole u there).about l.from (subst (λ k. Member l.from (ends k)) (sym is) (inl refl)));
        attr = l.attr;
        forward = (formed.links l u there is).forward;
        either = inr (ap (λ (x : ℕ × Identifier). x.0) end);
      }

  -- the other ends under an attribute
  abbrev gathered_at : Oid → ℕ → List Identifier
  gathered_at o attr = fold (insert_key identifier_order) [] (filter_map (of_attribute attr) (ends_at o))

  gathered_whole : (o : Oid) (attr : ℕ) → All IsIdentifier (gathered_at o attr)
  gathered_whole o attr = each_place IsIdentifier (gathered_at o attr) each
    where
      each : Each IsIdentifier (gathered_at o attr)
      each g m =
          let k : Member g (filter_map (of_attribute attr) (ends_at o)) = ⊎_elim (λ n. n) (λ none. absurd none) (of_sorted identifier_order nat_list_cmp_total exact_bytes (filter_map (of_attribute attr) (ends_at o)) [] g m) in
          let t = of_filter_map (of_attribute attr) (ends_at o) g k in
          subst IsIdentifier (end_of_attribute attr t.0 g t.2) (each_end o t.0 t.1).guid

  each_link : (o : Oid) → Each ArePrintableLinks (links_at (live_rows rows) o)
  each_link o l m =
      let t = mapped_member (λ (attr : ℕ). (attr, gathered_at o attr)) attrs l m in
      let k : Member t.0 (map (λ (e : ℕ × Identifier). e.0) (ends_at o)) = ⊎_elim (λ n. n) (λ none. absurd none) (of_sorted nat_cmp nat_cmp_total exact_unsigned (map (λ (e : ℕ × Identifier). e.0) (ends_at o)) [] t.0 t.1) in
      let e = mapped_member (λ (e : ℕ × Identifier). e.0) (ends_at o) t.0 k in
      subst ArePrintableLinks (sym t.2) (by t.0 e.0 e.2 (each_end o e.0 e.1))
    where
      attrs : List ℕ
      attrs = fold (insert_key nat_cmp) [] (map (λ (e : ℕ × Identifier). e.0) (ends_at o))

      by : (attr : ℕ) (e : ℕ × Identifier) → attr ≡ e.0 → IsEnd e → ArePrintableLinks (attr, gathered_at o attr)
      by attr e is end =
          let both = links_printable schema end.attr (gathered_at o attr) end.forward (gathered_whole o attr) in
          ⊎_elim (λ same. subst (λ (a : ℕ). ArePrintableLinks (a, gathered_at o attr)) (sym (is ∙ same)) both.0)
          (λ next. subst (λ (a : ℕ). ArePrintableLinks (a, gathered_at o attr)) (sym (is ∙ next)) both.1) end.either

  -- ---- entries

  entry_printable : (n : Node) → Member n (nodes_held rows) → IsPrintableEntry (entry_of (live_rows rows) (nodes_held rows) n)
  entry_printable n m = let t = class_row rows n m in record {
    guid = guid_whole rows whole n m;
    class = class_printable schema n.class (classes t.0 t.1 n.class t.2.2);
    parent = place_whole (nodes_held rows) n (parent_whole rows whole n m);
    values = each_place ArePrintableValues (values_at (live_rows rows) n.object) (each_value n.object);
    links = each_place ArePrintableLinks (links_at (live_rows rows) n.object) (each_link n.object);
  }

  pub shows_printable : IsPrintable (directory rows)
  shows_printable = each_place IsPrintableEntry (directory rows) each
    where
      each : Each IsPrintableEntry (map (entry_of (live_rows rows) (nodes_held rows)) (nodes_held rows))
      each e m = let t = mapped_member (entry_of (live_rows rows) (nodes_held rows)) (nodes_held rows) e m in
          subst IsPrintableEntry (sym t.2) (entry_printable t.0 t.1)
