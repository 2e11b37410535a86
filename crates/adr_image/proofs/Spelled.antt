-- What is read of an image is formed and spelled.
use Rattle.std.proofs.Common.{◌≡◌, ℕ, true, List, [], ◌∷◌, map, Option, Some, None, refl, sym, ap, subst, inl, inr, ⊎_elim}
use Rattle.std.specs.Prelude.{is_some}
use Rattle.std.specs.List.{flat_map}
use Rattle.std.proofs.lemmas.Cmp.{nat_list_cmp_total}
use Rattle.adr_values.specs.Order.{identifier_order}
use Rattle.adr_values.specs.declared.content.Content.TheVariants.{Class}
use Rattle.adr_values.specs.Table.{class_at}
use Rattle.adr_values.specs.Numbered.{numbered}
use Rattle.adr_wire.specs.Reading.{is_above}
use Rattle.adr_wire.specs.Ranges.{InTurn, IsId, IsMark}
use Rattle.adr_model.specs.Member.{Member, Each}
use Rattle.adr_model.specs.Update.{Holds}
use Rattle.adr_model.specs.Store.{Held}
use Rattle.adr_model.proofs.Members.{member_of_either, mapped_member, flat_member}
use Rattle.adr_image.specs.Image.{HeldRow, Rows, HeldLink, Marked, with_link}
use Rattle.adr_image.specs.Whole.{Parts, dead_of, no_links}
use Rattle.adr_image.specs.Ranged.{IsMarked, IsLinkIn, AreParts}
use Rattle.adr_image.specs.Stored.{held_of, link_of, rows_of_object, store_of, IsSpelledRow, IsSpelled}
use Rattle.adr_image.proofs.Storing.{chain}
use Rattle.adr_image.proofs.Births.{of_object, of_row, each_along}
use Rattle.adr_image.proofs.Named.{known_class, content_of}

marks_in_turn : (last : Option (List ℕ)) (ks : List Marked) → InTurn (λ (k : Marked). k.0) IsMarked last ks → InTurn (λ (k : Marked). k.0) (λ l k. is_above identifier_order l k.0 ≡ true) last ks
marks_in_turn last [] h = tt
marks_in_turn last (k ∷ ks) h = (h.0.0.1, marks_in_turn (Some k.0) ks h.1)

marks_in_range : (last : Option (List ℕ)) (ks : List Marked) → InTurn (λ (k : Marked). k.0) IsMarked last ks → Each (λ (k : Marked). IsId k.0 × (IsId k.1.inv × IsMark k.1.mark)) ks
marks_in_range last [] h k m = absurd m
marks_in_range last (x ∷ xs) h k (inl e) = subst (λ (y : Marked). IsId y.0 × (IsId y.1.inv × IsMark y.1.mark)) (sym e) (h.0.0.0, (h.0.1.0, h.0.1.1.0))
marks_in_range last (x ∷ xs) h k (inr m) = marks_in_range (Some x.0) xs h.1 k m

module _ (p : Parts) (q : AreParts p) where
  abbrev IsRight : Held → Type 0
  IsRight h = IsSpelledRow h.update.key h.update.said h.update.stamp

  abbrev IsClassed : Held → Type 0
  IsClassed h = (class : ℕ) → h.update.said ≡ Holds (Class class) → is_some (class_at (numbered p.schema) class) ≡ true

  row_right : (x : Rows) → Member x p.objects → (h : HeldRow) → Member h x.1 → IsRight (held_of x.0 h) × IsClassed (held_of x.0 h)
  row_right x m h n =
      let o = of_object p q x m in
      let r = of_row p q x m h n in
      ((o.1.0.0.0, r.1.0.1.0.0, r.1.0.1.0.1.1, r.1.0.1.0.1.0, refl), (λ class e. known_class p q x.0 r.0 h.1.0 h.1.1 h.1.2 class (ap (content_of p q) e) r.1.1))

  link_right : (l : HeldLink) → Member l p.links → IsRight (link_of l) × IsClassed (link_of l)
  link_right l m =
      let i = each_along with_link (IsLinkIn p.usn (numbered p.schema) (dead_of p.objects)) (no_links p.objects) p.links q.links.1 l m in
      ((i.1.0.1.0.0.0, i.1.0.1.0.1.0.0, i.1.0.1.0.1.1, i.1.1.0, i.1.1.1), (λ class e. absurd (cc)))

  all_right : Each (λ h. IsRight h × IsClassed h) (store_of p).rows
  all_right h m = ⊎_elim (λ a.
      let o = flat_member rows_of_object p.objects h a in
      let r = mapped_member (held_of o.0.0) o.0.1 h o.2 in
      subst (λ (x : Held). IsRight x × IsClassed x) (sym r.2) (row_right o.0 o.1 r.0 r.1))
      (λ b. let l = mapped_member link_of p.links h b in subst (λ (x : Held). IsRight x × IsClassed x) (sym l.2) (link_right l.0 l.1))
      (member_of_either (flat_map rows_of_object p.objects) (map link_of p.links) h m)

  pub spelled : IsSpelled (store_of p)
  spelled =
      record {
        schema = q.schema;
        usn = q.usn;
        vector = q.seen.cursors.1;
        times = q.seen.moments;
        purged = q.purged.0.1;
        marks = marks_in_range None p.marks q.marks.1;
        partners = (chain identifier_order nat_list_cmp_total (λ (k : Marked). k.0) None p.marks (marks_in_turn None p.marks q.marks.1)).0;
        rows = λ h m. (all_right h m).0;
        classes = λ h m. (all_right h m).1;
      }
