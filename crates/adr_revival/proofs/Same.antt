-- A revival is by the rows and the schema of an image alone.
use Rattle.std.proofs.Common.{◌≡◌, ℕ, List, Some, Ok, Err, refl, sym, ap, ap₂, ◌∙◌}
use Rattle.std.specs.Prelude.{IfOk, Result}
use Rattle.adr_values.specs.declared.failure.Failure.{Failure}
use Rattle.adr_call.specs.declared.refusal.WriteRefusal.{WriteRefusal}
use Rattle.adr_values.specs.declared.stamp.LinkKey.{LinkKey}
use Rattle.adr_model.specs.Change.{Change, after}
use Rattle.adr_model.specs.Formed.{IsFormed, IsFormedStore}
use Rattle.adr_model.specs.Store.{Held, Store, State, empty_store}
use Rattle.adr_model.specs.Update.{Identifier}
use Rattle.adr_model.specs.Write.{Revive, entry_in, items_written, links_revived, write}
use Rattle.adr_view.specs.declared.seen.Shown.{Shown}
use Rattle.adr_view.specs.Seen.{seen_of}
use Rattle.adr_law_revived.specs.Revived.{IsRevived, revived_entry}
use Rattle.adr_law_revived.proofs.Whole.{revived_shows}
use Rattle.adr_revival.specs.Archived.{Archived, IsArchive, stored}
use Rattle.adr_revival.specs.Found.{items_of}

module _ (s : State) (guid parent : Identifier) (text : List ℕ) where
  abbrev written_of : ℕ → ℕ → List Held → Result Change WriteRefusal
  written_of now schema rows = write s (Revive (record (empty_store schema) { rows = rows }) guid parent text) now

  by_rows : (image : Store) (now : ℕ) → write s (Revive image guid parent text) now ≡ written_of now image.schema image.rows
  by_rows image now = refl

  pub same_write : (image : Store) (a : Archived) (now : ℕ) → IsArchive image a → write s (Revive image guid parent text) now ≡ write s (Revive (stored a) guid parent text) now
  same_write image a now is = by_rows image now ∙ ap₂ (written_of now) is.0 is.1

  pub same_revived : (t : State) (image other : Store) → image.rows ≡ other.rows → IsRevived s t image guid parent text → IsRevived s t other guid parent text
  same_revived t image other same is = record {
    none = is.none;
    new = is.new ∙ ap (λ (rows : List Held). Some (revived_entry s (record (empty_store 0) { rows = rows }) guid parent text)) same;
    old = is.old;
    children = is.children;
  }

  module _ (a : Archived) (now : ℕ) where
    abbrev Made : Store → Result Change (Failure WriteRefusal) → Type 0
    Made image made = IfOk made (λ change. write s (Revive image guid parent text) now ≡ Ok change)

    pub made_same : (made : Result Change (Failure WriteRefusal)) → Made (stored a) made → (image : Store) → IsArchive image a → Made image made
    made_same (Ok change) e image is = same_write image a now is ∙ e
    made_same (Err why) e image is = tt

    pub shows_same : IsFormed s → (own : Store) → IsArchive own a → IsFormedStore own → (made : Result Change (Failure WriteRefusal)) → Made (stored a) made
        → IfOk made (λ change. (image : Store) → IsArchive image a → IsRevived s (after s change) image guid parent text)
    shows_same formed own of given (Ok change) e = λ image is.
        same_revived (after s change) own image (of.1 ∙ sym is.1) (revived_shows s own guid parent text now change formed given (same_write own a now of ∙ e))
    shows_same formed own of given (Err why) e = tt

  -- what is made of what was found is what is written
  pub as_written : (image : Store) (x : Shown) (ls : List LinkKey) (now : ℕ) → seen_of (entry_in image guid) ≡ x → ls ≡ links_revived s image guid
      → items_of s guid parent text x ls now ≡ items_written s (Revive image guid parent text) now
  as_written image x ls now found links =
      ap (λ (y : Shown). items_of s guid parent text y ls now) (sym found)
      ∙ ap (λ (ks : List LinkKey). items_of s guid parent text (seen_of (entry_in image guid)) ks now) links
