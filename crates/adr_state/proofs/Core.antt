-- The reserved rows of a GUID, when a row is put, and when an object is removed.
use Rattle.std.proofs.Common.{◌≡◌, Bool, true, false, not, List, Option, Some, None, refl, ap, ◌∙◌, filter}
use Rattle.std.specs.Prelude.{if◌then◌else◌, nat_lt}
use Rattle.adr_values.specs.declared.stamp.Oid.{Oid}
use Rattle.adr_model.specs.Update.{Identifier, Key, RowOf, LinkOf, deleted_attr, same_identifier, same_object}
use Rattle.adr_model.specs.Store.{Held, updates_of, with_row, is_row_of}
use Rattle.adr_model.specs.Change.{goes_with, killed_by, stripped, put, without_object}
use Rattle.adr_model.specs.Formed.{AreRising}
use Rattle.adr_model.specs.Place.{node_at}
use Rattle.adr_model.specs.Write.{is_of_guid, nodes_held}
use Rattle.adr_law_knowledge.proofs.Filters.{none_missed}
use Rattle.adr_law_knowledge.proofs.PassingRows.{passing_written, other_written, passing_stripped, passing_without, updates_filtered, mine_stay}
use Rattle.adr_law_knowledge.proofs.RisingHeld.{fewer_rise}
use Rattle.adr_law_tree.proofs.Local.{local_law}
use Rattle.adr_law_tree.proofs.RisingRows.{rising_updates}
use Rattle.adr_state.specs.Core.{is_core, core_of}
use Rattle.adr_state.proofs.Reserved.{reserved_decide}

-- a death takes no reserved row
stays : (o : Oid) (k : Key) → is_core k ≡ true → not (goes_with o k) ≡ true
stays o (RowOf p a) e = by (same_object p o) (nat_lt deleted_attr a) e
  where
    by : (b c : Bool) → not c ≡ true → not (if b then c else false) ≡ true
    by true c e = e
    by false c e = refl
stays o (LinkOf l) e = cc

module _ (g : Identifier) where
  abbrev mine : Held → Bool
  mine h = is_of_guid g h.update.key

  core_stripped : (o : Option Oid) (rows : List Held) → core_of g (stripped o rows) ≡ core_of g rows
  core_stripped None rows = refl
  core_stripped (Some o) rows =
      ap (filter (λ h. is_core h.update.key)) (passing_stripped (is_of_guid g) (Some o) rows)
      ∙ none_missed (λ h. not (goes_with o h.update.key)) (λ h. is_core h.update.key) (λ h e. stays o h.update.key e) (filter mine rows)

  pub core_put : (rows : List Held) (h : Held) → AreRising rows → mine h ≡ true → is_core h.update.key ≡ true → core_of g (put rows h) ≡ with_row (core_of g rows) h
  core_put rows h r of_g reserved =
      core_stripped (killed_by h.update.key) (with_row rows h)
      ∙ ap (filter (λ k. is_core k.update.key)) (passing_written (is_of_guid g) h of_g rows r)
      ∙ passing_written is_core h reserved (filter mine rows) (fewer_rise (is_of_guid g) rows r)

  pub core_of_other : (rows : List Held) (h : Held) → mine h ≡ false → core_of g (put rows h) ≡ core_of g rows
  core_of_other rows h other =
      core_stripped (killed_by h.update.key) (with_row rows h) ∙ ap (filter (λ k. is_core k.update.key)) (other_written (is_of_guid g) h other rows)

  pub core_of_value : (rows : List Held) (h : Held) → AreRising rows → is_core h.update.key ≡ false → core_of g (put rows h) ≡ core_of g rows
  core_of_value rows h r value = by (mine h) refl
    where
      by : (b : Bool) → mine h ≡ b → core_of g (put rows h) ≡ core_of g rows
      by false other = core_of_other rows h other
      by true of_g =
          core_stripped (killed_by h.update.key) (with_row rows h)
          ∙ ap (filter (λ k. is_core k.update.key)) (passing_written (is_of_guid g) h of_g rows r)
          ∙ other_written is_core h value (filter mine rows)

  pub core_without : (rows : List Held) (o : Oid) → core_of g (without_object rows o) ≡ without_object (core_of g rows) o
  core_without rows o =
      ap (filter (λ h. is_core h.update.key)) (passing_without (is_of_guid g) o rows) ∙ passing_without is_core o (filter mine rows)

  pub core_without_other : (rows : List Held) (o : Oid) → same_identifier o.guid g ≡ false → core_of g (without_object rows o) ≡ core_of g rows
  core_without_other rows o other =
      ap (filter (λ h. is_core h.update.key)) (none_missed (λ h. not (is_row_of o h.update.key)) mine (λ h e. mine_stay g o other h.update.key e) rows)

  pub core_rises : (rows : List Held) → AreRising rows → AreRising (core_of g rows)
  core_rises rows r = fewer_rise is_core (filter mine rows) (fewer_rise (is_of_guid g) rows r)

  -- they decide the live object of the GUID
  pub core_decides : (rows : List Held) → AreRising rows → node_at (nodes_held (updates_of (core_of g rows))) g ≡ node_at (nodes_held (updates_of rows)) g
  core_decides rows r =
      ap (λ us. node_at (nodes_held us) g) (updates_filtered is_core (filter mine rows))
      ∙ ap (λ ns. node_at ns g) (reserved_decide (updates_of (filter mine rows)) (rising_updates (filter mine rows) (fewer_rise (is_of_guid g) rows r)))
      ∙ ap (λ us. node_at (nodes_held us) g) (updates_filtered (is_of_guid g) rows)
      ∙ local_law (updates_of rows) (rising_updates rows r) g
