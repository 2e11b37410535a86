use Rattle.std.proofs.Common.{◌≡◌, cond, not, ◌&&◌, None}
use Rattle.std.specs.BTreeMap.Range.{is_from_start, IsFromStart, IsLeBy}
use Rattle.adr_shelves.specs.declared.place.Place.{Place}
use Rattle.adr_shelves.specs.Place.{place_order, is_in_run}
use Rattle.adr_table.specs.Slots.{IsTidy, places, row_at}
use Rattle.adr_table.proofs.Runs.{count}
use Rattle.adr_table.proofs.slots.Slots.empty_run.Given as goal

-- the places before the bound are empty, and the others as they were
abbrev pub invariant-loop-place : goal.invariant-loop-place
invariant-loop-place l =
    IsTidy l.self
    × (places l.self ≡ places l.initial.self)
    × ((q : Place) → row_at l.self q ≡ cond (is_in_run l.start q && not (is_from_start place_order l.from q)) None (row_at l.initial.self q))
    × ((q : Place) → IsFromStart place_order l.from q → IsLeBy place_order l.start q)

-- how many places from the bound on have slots
abbrev pub decreases-loop-place : goal.decreases-loop-place
decreases-loop-place l = count (is_from_start place_order l.from) l.self.map
