-- Behind a revival other objects stay: it writes no row of theirs.
use Rattle.std.proofs.Common.{◌≡◌, inl, inr, ℕ, ◌+◌, Bool, List, [], ◌∷◌, true, false, refl, ap, ◌∙◌, subst}
use Rattle.adr_values.specs.declared.stamp.LinkKey.{LinkKey}
use Rattle.adr_values.specs.Assignments.{Given}
use Rattle.adr_values.specs.declared.content.Content.TheVariants.{Values}
use Rattle.adr_call.specs.declared.directory.Entry.{Entry}
use Rattle.adr_model.specs.Member.{Member, Each}
use Rattle.adr_model.specs.Update.{Identifier, Update, same_identifier}
use Rattle.adr_model.specs.Place.{node_at}
use Rattle.adr_model.specs.Store.{Held, Store, State}
use Rattle.adr_model.specs.Change.{Written, Change, held_of, after}
use Rattle.adr_model.specs.Formed.{IsFormed}
use Rattle.adr_model.specs.Write.{Revive, is_of_guid, new_object, first_stamp, row, entry_in, links_revived, rows_written, link_row, new_links, items_written, own_change, write_refusal}
use Rattle.adr_model.proofs.Members.{none_passes, mapped_member}
use Rattle.adr_law_knowledge.proofs.Refusing.{answered}
use Rattle.adr_law_calls.proofs.Written.{held_from}
use Rattle.adr_law_tree.proofs.Edits.{untouched_law}
use Rattle.adr_law_tree.proofs.Fuel.{same_guid, itself}
use Rattle.adr_law_revived.specs.Revived.{nodes_in, OtherObjectsStay}

module _ (s : State) (now : ℕ) (g : Identifier) where
  abbrev IsNotOf : Update → Type 0
  IsNotOf u = is_of_guid g u.key ≡ false

  -- link rows are of no GUID
  pub of_links : (usn : ℕ) (ls : List LinkKey) → Each (λ (w : Written). Each IsNotOf w.item.rows) (new_links s now usn ls)
  of_links usn [] w m u n = absurd m
  of_links usn (l ∷ ls) w (inl e) u n = by (subst (λ (x : Written). Member u x.item.rows) e n)
    where
      by : Member u (link_row s now usn l).item.rows → IsNotOf u
      by (inl is) = ap (λ (v : Update). is_of_guid g v.key) is
      by (inr none) = absurd none
  of_links usn (l ∷ ls) w (inr m) u n = of_links (usn + 1) ls w m u n

module _ (s : State) (image : Store) (guid parent : Identifier) (text : List ℕ) (now : ℕ) (g : Identifier) (other : same_identifier guid g ≡ false) where
  abbrev entry : Entry
  entry = entry_in image guid

  abbrev IsOfOthers : Update → Type 0
  IsOfOthers u = is_of_guid g u.key ≡ false

  -- the rows of the object are of its GUID
  of_object : Each IsOfOthers (rows_written s (Revive image guid parent text) now).rows
  of_object u (inl e) = ap (λ (v : Update). is_of_guid g v.key) e ∙ other
  of_object u (inr (inl e)) = ap (λ (v : Update). is_of_guid g v.key) e ∙ other
  of_object u (inr (inr m)) =
      let h = mapped_member (λ (a : Given). row (new_object s guid) (first_stamp s now) a.0 (Values a.1)) entry.values u m in
      ap (λ (v : Update). is_of_guid g v.key) h.2 ∙ other

  of_items : Each (λ (w : Written). Each IsOfOthers w.item.rows) (items_written s (Revive image guid parent text) now)
  of_items w (inl e) u n = of_object u (subst (λ (x : Written). Member u x.item.rows) e n)
  of_items w (inr m) u n = of_links s now g (s.store.usn + 2) (links_revived s image guid) w m u n

  pub stays : IsFormed s → node_at (nodes_in (after s (own_change s (items_written s (Revive image guid parent text) now)))) g ≡ node_at (nodes_in s) g
  stays formed = untouched_law [] (held_of (items_written s (Revive image guid parent text) now)) s.store.rows formed.store.rising g
      (none_passes (λ (h : Held). is_of_guid g h.update.key) (held_of (items_written s (Revive image guid parent text) now))
      (λ h m. let w = held_from (items_written s (Revive image guid parent text) now) h m in of_items w.0 w.1 h.update w.2))
      refl

pub others_stay : OtherObjectsStay
others_stay s image guid parent text now c formed e g other =
    subst (λ (d : Change). node_at (nodes_in (after s d)) g ≡ node_at (nodes_in s) g)
    (answered (write_refusal s (Revive image guid parent text)) (own_change s (items_written s (Revive image guid parent text) now)) c e).1
    (stays s image guid parent text now g (turned guid g other) formed)
  where
    turned : (a b : Identifier) → same_identifier b a ≡ false → same_identifier a b ≡ false
    turned a b fails = by (same_identifier a b) refl
      where
        by : (x : Bool) → same_identifier a b ≡ x → x ≡ false
        by true is = let same : same_identifier b a ≡ true = subst (λ h. same_identifier h a ≡ true) (same_guid a b is) (itself a) in cc
        by false is = refl
