-- What becomes of slots where empty ones are made for the rows of an object that had none.
use Rattle.std.proofs.Common.{◌≡◌, ◌↔◌, fold, List, [], ◌∷◌, Bool, true, Option, Some, None, refl, sym, ap, ◌∙◌}
use Rattle.std.specs.Prelude.{IsTrue}
use Rattle.std.specs.declared.result.Result.{Result}
use Rattle.std.specs.declared.result.Result.TheVariants.{Err}
use Rattle.std.specs.List.{list_all}
use Rattle.std.specs.Map.{lookup}
use Rattle.std.specs.Option.{unwrap_or}
use Rattle.std.specs.BTreeMap.{insert_entry, is_at}
use Rattle.adr_values.specs.declared.stamp.Oid.{Oid}
use Rattle.adr_model.specs.Store.{Held, is_row_of}
use Rattle.adr_shelves.specs.declared.place.Place.{Place}
use Rattle.adr_shelves.specs.Place.{is_of_unit, place_order, rows_start}
use Rattle.adr_shelves.specs.Shelf.{with_own_slot}
use Rattle.adr_shelves.specs.Shelves.{AreShelves, entries_of, shelf_entries, with_slot}
use Rattle.adr_shelves.proofs.Entries.{Entries}
use Rattle.adr_shelves.proofs.Shelved.{Kept, Shelved}
use Rattle.adr_shelves.proofs.ShelvedObjects.{rows_have}
use Rattle.adr_shelves.proofs.ShelvedParts.{none_passing, passing, unit_passing}
use Rattle.adr_shelves.proofs.ShelvedWrites.{HaveNow, bare_shelf, kept_as_is, kept_at, same_then, shelves_then}

module _ (us : Shelved) (are : AreShelves us) (now : Entries) (view : entries_of us ≡ now) (o : Oid) (seat : Place) (at : seat ≡ rows_start o) (slots : Kept) (is : slots ≡ kept_at us seat) where
  here : slots ≡ kept_at us (rows_start o)
  here = is ∙ ap (kept_at us) at

  of_unit : passing (is_of_unit (rows_start o)) now ≡ shelf_entries (rows_start o) slots
  of_unit = ap (passing (is_of_unit (rows_start o))) (sym view) ∙ by (lookup (is_at (place_order (rows_start o))) us) refl ∙ ap (shelf_entries (rows_start o)) (sym here)
    where
      by : (w : Option Kept) → lookup (is_at (place_order (rows_start o))) us ≡ w → passing (is_of_unit (rows_start o)) (entries_of us) ≡ shelf_entries (rows_start o) (unwrap_or w [])
      by None none = none_passing us are.each (rows_start o) none
      by (Some k) there = unit_passing us are (rows_start o) k there

  -- the object has no slots where its shelf has none
  pub none_told : (b : Bool) → (IsTrue b ↔ (slots ≡ [])) → IsTrue b ↔ (passing (is_of_unit (rows_start o)) now ≡ [])
  none_told b told = (λ t. of_unit ∙ ap (shelf_entries (rows_start o)) (told.0 t), λ none. told.1 (bare slots (sym of_unit ∙ none)))
    where
      bare : (k : Kept) → shelf_entries (rows_start o) k ≡ [] → k ≡ []
      bare [] none = refl
      bare (x ∷ xs) none = cc

  -- all stays where the shelf is written again as it was
  pub have_same : (vs : Shelved) → vs ≡ insert_entry place_order us seat slots → HaveNow vs now
  have_same vs written =
      let err : Result Bool Bool = Err true in
      record {
        are = shelves_then us are now view (rows_start o) refl seat at slots is None slots vs written err tt refl;
        entries = same_then us are now view (rows_start o) refl seat at slots is None slots vs written err refl;
      }

  -- and where it had none, those that are made are the rows'
  pub have_made : (new : Kept) (vs : Shelved) → vs ≡ insert_entry place_order us seat new → (rows : List Held) → list_all (λ h. is_row_of o h.update.key) rows ≡ true → slots ≡ []
      → new ≡ fold with_own_slot [] rows → HaveNow vs (fold with_slot now rows)
  have_made new vs written rows own bare put =
      rows_have (λ h. h.update.key) (λ h w. unwrap_or w None) us are o rows own [] (bare_shelf (rows_start o) refl)
      vs (written ∙ ap (λ s. insert_entry place_order us s new) at ∙ ap (insert_entry place_order us (rows_start o)) put)
      now (ap (λ (k : Kept). entries_of (insert_entry place_order us (rows_start o) k)) (sym bare ∙ here) ∙ kept_as_is us are.ordered (rows_start o) ∙ view)
