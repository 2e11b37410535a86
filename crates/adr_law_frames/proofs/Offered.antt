-- Which rows an item has that a store can send.
use Rattle.std.proofs.Common.{◌≡◌, ℕ, List, [], ◌∷◌, ◌&&◌, refl, sym, ap, ◌∙◌, subst, map, filter}
use Rattle.std.specs.List.Sorted.{IsStrictlySortedBy}
use Rattle.adr_values.specs.declared.stamp.Unit.{Unit as Named}
use Rattle.adr_values.specs.Vector.{Cursors}
use Rattle.adr_values.specs.declared.mark.Mark.{Mark}
use Rattle.adr_model.specs.Member.{Member, Each}
use Rattle.adr_model.specs.Update.{Key, Update, key_order, same_unit, unit_of}
use Rattle.adr_model.specs.Store.{Held, updates_of}
use Rattle.adr_model.specs.Change.{Item}
use Rattle.adr_model.specs.Formed.{AreRising}
use Rattle.adr_model.specs.Serve.{is_above_mark, is_unseen, sendable, item_of, candidates}
use Rattle.adr_model.proofs.Members.{of_filter}
use Rattle.adr_law_knowledge.specs.Rises.{Rises}
use Rattle.adr_law_knowledge.proofs.Counting.{filtered_rise, rises_from}
use Rattle.adr_law_calls.proofs.Rows.{held_as, updated}
use Rattle.adr_law_calls.proofs.Locals.{units_tell}
use Rattle.adr_law_calls.proofs.Candidates.{candidate_from, row_in_item}

-- an item has a row; its rows are of its unit, are held, and rise by their keys
pub record IsOffered (rows : List Held) (i : Item) : Type 0 where
  pub some : (u : Update) × Member u i.rows
  pub of_unit : Each (λ u. unit_of u.key ≡ i.unit) i.rows
  pub held : Each (λ u. Member u (updates_of rows)) i.rows
  pub rising : Rises key_order (map (λ (u : Update). u.key) i.rows)

abbrev keys : List Held → List Key
keys hs = map (λ (h : Held). h.update.key) hs

pub same_keys : (hs : List Held) → keys hs ≡ map (λ (u : Update). u.key) (updates_of hs)
same_keys [] = refl
same_keys (h ∷ hs) = ap (λ ks. h.update.key ∷ ks) (same_keys hs)

pub keys_rise : (hs : List Held) → IsStrictlySortedBy key_order (keys hs) → Rises key_order (map (λ (u : Update). u.key) (updates_of hs))
keys_rise hs rising = rises_from key_order _ (subst (IsStrictlySortedBy key_order) (same_keys hs) rising)

module _ (rows : List Held) (rising : AreRising rows) (from : Mark) (asked : Cursors) where
  abbrev unseen : List Held
  unseen = sendable rows from asked

  abbrev own : Named → List Held
  own unit = filter (λ (h : Held). same_unit (unit_of h.update.key) unit) unseen

  row_is : (unit : Named) (u : Update) → Member u (item_of unseen unit).rows → Member u (updates_of rows) × (unit_of u.key ≡ unit)
  row_is unit u m =
      let h = held_as (own unit) u m in
      let k = of_filter (λ (x : Held). same_unit (unit_of x.update.key) unit) unseen h.0 h.1 in
      let there = of_filter (λ (x : Held). is_above_mark from rows x && is_unseen from asked x) rows h.0 k.0 in (
        subst (λ (v : Update). Member v (updates_of rows)) (sym h.2) (updated rows h.0 there.0),
        ap (λ (v : Update). unit_of v.key) h.2 ∙ units_tell (unit_of h.0.update.key) unit k.1,
      )

  item_offered : (unit : Named) → (u : Update) × Member u (item_of unseen unit).rows → IsOffered rows (item_of unseen unit)
  item_offered unit some = record {
    some = some;
    of_unit = λ u m. (row_is unit u m).1;
    held = λ u m. (row_is unit u m).0;
    rising = keys_rise (own unit)
        (filtered_rise key_order (λ (h : Held). h.update.key) (λ (h : Held). same_unit (unit_of h.update.key) unit) unseen
        (filtered_rise key_order (λ (h : Held). h.update.key) (λ (h : Held). is_above_mark from rows h && is_unseen from asked h) rows rising));
  }

  pub all_offered : Each (λ (c : ℕ × Item). IsOffered rows c.1) (candidates rows from asked)
  all_offered c m =
      let x = candidate_from rows unseen c m in
      subst (IsOffered rows) (sym (ap (λ (d : ℕ × Item). d.1) x.2)) (item_offered (unit_of x.0.update.key) (x.0.update, row_in_item rows unseen x.0 x.1))
