-- What a death makes of slots, where it is put and empties the slots of what goes with it.
use Rattle.std.proofs.Common.{◌≡◌, ⊎_elim, refl, sym, ap, ◌∙◌, subst, Bool, true, false, cond, not, ◌&&◌, Some, None}
use Rattle.std.specs.Prelude.{IsSome, is_some}
use Rattle.std.specs.Map.{keys_of, lookup}
use Rattle.std.specs.BTreeMap.{is_at}
use Rattle.std.specs.BTreeSet.{BTreeSet}
use Rattle.std.specs.Ordering.{is_eq}
use Rattle.std.proofs.lemmas.Cmp.{tied_itself}
use Rattle.adr_values.specs.contracts.stamp.OidOrd.TheImpl.Laws.{total-law as objects_total}
use Rattle.adr_values.specs.declared.stamp.LinkKey.{LinkKey}
use Rattle.adr_values.specs.declared.stamp.Oid.{Oid}
use Rattle.adr_model.specs.Change.{goes_with, killed_by, stripped}
use Rattle.adr_model.specs.Member.{Each, Member}
use Rattle.adr_model.specs.Store.{Held, is_row_of, with_row}
use Rattle.adr_model.specs.Update.{Key, RowOf, LinkOf, deleted_attr}
use Rattle.adr_law_knowledge.proofs.RisingHeld.{of_with_row}
use Rattle.adr_model.proofs.Members.{of_filter}
use Rattle.adr_shelves.specs.declared.place.Place.{Place}
use Rattle.adr_shelves.specs.Place.{is_in_run, place_of, place_order, values_start}
use Rattle.adr_shelves.specs.Shelves.{flat, tally, with_held}
use Rattle.adr_table.specs.declared.slots.Slots.{Slots}
use Rattle.adr_table.specs.declared.back.Behind.{Behind}
use Rattle.adr_table.specs.Back.{AreBacked}
use Rattle.adr_table.specs.Slots.{AreAtHome, row_at, rows_seen}
use Rattle.adr_table.proofs.Counts.{put_count}
use Rattle.adr_table.proofs.Listed.{killed_is}
use Rattle.adr_table.proofs.Seen.{flat_either, home_still, put_found, put_keys}
use Rattle.adr_shelves.proofs.Entries.{AreSorted, Entries}

-- a death is a row of its object
pub own_row : (o : Oid) (k : Key) → killed_by k ≡ Some o → is_row_of o k ≡ true
own_row o k kills = ap (is_row_of o) (killed_is k o kills) ∙ itself o
  where
    itself : (p : Oid) → is_row_of p (RowOf p deleted_attr) ≡ true
    itself p = ap is_eq (tied_itself objects_total p)

module _ (es : Entries) (sorted : AreSorted es) (h : Held) (o : Oid) (kills : killed_by h.update.key ≡ Some o) where
  -- it is no class row, and no link
  pub uncounted : (test : Place → Bool) → test (place_of (RowOf o deleted_attr)) ≡ false → tally test (with_held es h) ≡ tally test es
  uncounted test fails =
      put_count test es (with_held es h) (place_of h.update.key) h refl sorted false
      (sym (last (not (is_some (flat (lookup (is_at (place_order (place_of h.update.key))) es)))) (test (place_of h.update.key)) (ap (λ k. test (place_of k)) (killed_is h.update.key o kills) ∙ fails)))
      (tally test es) refl
    where
      last : (b c : Bool) → c ≡ false → (b && c) ≡ false
      last true c e = e
      last false c e = refl

  -- and so it stands at no link's place
  pub no_link : (l : LinkKey) → is_at (place_order (place_of h.update.key)) (place_of (LinkOf l)) ≡ false
  no_link l = ap (λ k. is_at (place_order (place_of k)) (place_of (LinkOf l))) (killed_is h.update.key o kills)

  pub put_home : AreAtHome es → AreAtHome (with_held es h)
  put_home home = home_still es (place_of h.update.key) (Some h) refl home

  pub put_row : (q : Place) → flat (lookup (is_at (place_order q)) (with_held es h)) ≡ cond (is_at (place_order (place_of h.update.key)) q) (Some h) (flat (lookup (is_at (place_order q)) es))
  put_row q =
      ap flat (put_found es (place_of h.update.key) q (Some h))
      ∙ flat_either (is_at (place_order (place_of h.update.key)) q) (Some h) (lookup (is_at (place_order q)) es)

  pub same_keys : IsSome (lookup (is_at (place_order (place_of h.update.key))) es) → keys_of (with_held es h) ≡ keys_of es
  same_keys some = put_keys es (place_of h.update.key) (Some h) sorted some

-- links have their hints still
pub backed_buried : (old new : Slots) (back : BTreeSet Behind) (h : Held) (o : Oid) → AreSorted old.map → killed_by h.update.key ≡ Some o → AreBacked old back
    → ((q : Place) → row_at new q ≡ cond (is_in_run (values_start o) q) None (cond (is_at (place_order (place_of h.update.key)) q) (Some h) (row_at old q))) → AreBacked new back
backed_buried old new back h o sorted kills backed rows l some =
    backed l (subst IsSome (rows (place_of (LinkOf l)) ∙ ap (λ b. cond b (Some h) (row_at old (place_of (LinkOf l)))) (no_link old.map sorted h o kills l)) some)

-- what holds of each row, and of a death that is put, holds of each row then
pub each_buried : (old new : Slots) (P : Held → Type 0) (h : Held) (o : Oid) → Each P (rows_seen old) → P h → rows_seen new ≡ stripped (Some o) (with_row (rows_seen old) h) → Each P (rows_seen new)
each_buried old new P h o each own seen x m =
    ⊎_elim (λ e. subst P (sym e) own) (λ n. each x n)
    (of_with_row (rows_seen old) h x (of_filter (λ y. not (goes_with o y.update.key)) (with_row (rows_seen old) h) x (subst (Member x) seen m)).0)
