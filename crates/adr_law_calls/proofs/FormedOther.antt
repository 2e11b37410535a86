-- Rows of objects of other units stay as they were, and links that stand have live ends.
use Rattle.std.proofs.Common.{◌≡◌, ◌⊎◌, inl, inr, ⊎_elim, ℕ, List, true, sym, ap, ◌∙◌, subst}
use Rattle.adr_values.specs.declared.stamp.Oid.{Oid}
use Rattle.adr_values.specs.declared.stamp.LinkKey.{LinkKey}
use Rattle.adr_values.specs.declared.stamp.Unit.{Unit as Named}
use Rattle.adr_values.specs.declared.stamp.Unit.TheVariants.{Object}
use Rattle.adr_values.specs.Table.{Table, kind_at, is_forward}
use Rattle.adr_model.specs.Member.{Member, Each}
use Rattle.adr_model.specs.Update.{RowOf, LinkOf, Update, unit_of, ends, deleted_attr}
use Rattle.adr_model.specs.Reflects.{Numbers, CoversBirth, HoldsObject, IsTombstoned, IsDeathOf}
use Rattle.adr_model.specs.Store.{Held, updates_of}
use Rattle.adr_model.specs.Change.{goes_with}
use Rattle.adr_model.specs.Formed.{IsLinkFormed}
use Rattle.adr_law_calls.specs.Puts.{ArePut, AreClosed}
use Rattle.adr_law_calls.proofs.Rows.{no_link_row}
use Rattle.adr_law_calls.proofs.FormedRows.{Fares, goes_of_object, link_goes_from, link_goes_to, stood, fares, bare}
use Rattle.adr_law_calls.proofs.Putting.{objects_stay}

module _ (usn : ℕ) (before after : List Held) (us : List Update) (p : ArePut usn us before after) where
  module _ (unit : Named) (of_unit : Each (λ u. unit_of u.key ≡ unit) us) (o : Oid) (other : Object o ≡ unit → ⊥) where
    none_of : (u : Update) (attr : ℕ) → u.key ≡ RowOf o attr → Member u us → ⊥
    none_of u attr is m = other (sym (ap unit_of is) ∙ of_unit u m)

    pub other_back : (r : Update) (attr : ℕ) → r.key ≡ RowOf o attr → Member r (updates_of after) → Member r (updates_of before)
    other_back r attr is m = ⊎_elim (λ n. absurd (none_of r attr is n)) (λ n. n) (stood usn before after us p r m)

    pub other_to : (r : Update) (attr : ℕ) → r.key ≡ RowOf o attr → Member r (updates_of before) → Member r (updates_of after)
    other_to r attr is m = by (fares usn before after us p r m)
      where
        by : Fares us (updates_of after) r → Member r (updates_of after)
        by (inl (u, n, same)) = absurd (none_of u attr (same ∙ is) n)
        by (inr (inl (d, q, n, death, g))) = let same : o ≡ q = goes_of_object q o attr (ap (goes_with q) (sym is) ∙ g) in absurd (none_of d deleted_attr (subst (λ z. IsDeathOf z d) (sym same) death) n)
        by (inr (inr n)) = n

  -- an end of a link that stands is as live as it was, where the rows are of one unit
  pub end_lives : (unit : Named) → Each (λ u. unit_of u.key ≡ unit) us → (r : Update) (l : LinkKey) (o : Oid) → Member r (updates_of after) → r.key ≡ LinkOf l → goes_with o (LinkOf l) ≡ true → (IsTombstoned (updates_of before) o → ⊥) → IsTombstoned (updates_of after) o → ⊥
  end_lives unit of_unit r l o m is g lives (d, n, death) = by (stood usn before after us p d n)
    where
      by : Member d us ⊎ Member d (updates_of before) → ⊥
      by (inl i) = ⊎_elim
          (λ j. no_link_row r.key o l (of_unit r j ∙ sym (of_unit d i) ∙ ap unit_of death) is)
          (λ f. let t : goes_with o r.key ≡ true = ap (goes_with o) is ∙ g in cc)
          (bare usn before after us p d r o i death m)
      by (inr i) = lives (d, i, death)

  pub link_formed : (unit : Named) → Each (λ u. unit_of u.key ≡ unit) us → (table : Table) (r : Update) (l : LinkKey) → Member r (updates_of after) → r.key ≡ LinkOf l → is_forward (kind_at table l.attr) ≡ true
      → (IsTombstoned (updates_of before) l.from → ⊥) → (IsTombstoned (updates_of before) l.to → ⊥) → IsLinkFormed table (updates_of after) l
  link_formed unit of_unit table r l m is forward from to = record {
    forward = forward;
    from = end_lives unit of_unit r l l.from m is (link_goes_from l) from;
    to = end_lives unit of_unit r l l.to m is (link_goes_to l) to;
  }

  -- where each link that is put has ends that are held or weren't born, links stay closed
  pub closed_put : (V : Numbers) → AreClosed V (updates_of before)
      → Each (λ r. (l : LinkKey) → r.key ≡ LinkOf l → Each (λ o. HoldsObject (updates_of before) o ⊎ (CoversBirth V o → ⊥)) (ends (LinkOf l))) us
      → AreClosed V (updates_of after)
  closed_put V old new r m l is o n = by (⊎_elim (λ i. new r i l is o n) (λ i. old r i l is o n) (stood usn before after us p r m))
    where
      by : HoldsObject (updates_of before) o ⊎ (CoversBirth V o → ⊥) → HoldsObject (updates_of after) o ⊎ (CoversBirth V o → ⊥)
      by (inl held) = inl (objects_stay usn before after us o p held)
      by (inr unborn) = inr unborn
