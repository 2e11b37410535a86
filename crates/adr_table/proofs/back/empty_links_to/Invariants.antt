use Rattle.std.proofs.Common.{◌≡◌, ◌⊎◌, true, false, None}
use Rattle.std.specs.List.{list_any}
use Rattle.std.specs.BTreeMap.{is_at}
use Rattle.adr_values.specs.declared.stamp.LinkKey.{LinkKey}
use Rattle.adr_model.specs.Update.{Key, LinkOf, same_object}
use Rattle.adr_shelves.specs.declared.place.Place.{Place}
use Rattle.adr_shelves.specs.Place.{place_of}
use Rattle.adr_table.specs.Slots.{IsTidy, places, row_at}
use Rattle.adr_update.specs.Sought.{is_link_to}
use Rattle.adr_table.specs.Back.{behind_order, hint}
use Rattle.adr_table.proofs.Behinds.{Stops}
use Rattle.adr_table.proofs.back.empty_links_to.Given as goal

-- a link to the object is empty, or its hint is left; other rows are as they were
abbrev pub invariant-loop-behind : goal.invariant-loop-behind
invariant-loop-behind l =
    (goal.iterator-loop-behind).can_next l.behind-iterator
    × (goal.iterator-loop-behind).is_finite l.behind-iterator
    × IsTidy l.slots
    × (places l.slots ≡ places l.initial.slots)
    × ((k : Key) → is_link_to l.object k ≡ false → row_at l.slots (place_of k) ≡ row_at l.initial.slots (place_of k))
    × ((k : LinkKey) → same_object k.to l.object ≡ true → (row_at l.slots (place_of (LinkOf k)) ≡ None) ⊎ (list_any (is_at (behind_order (hint k))) l.behind-iterator ≡ true))
    × ((q : Place) → row_at l.initial.slots q ≡ None → row_at l.slots q ≡ None)
    × Stops l.object l.behind-iterator
