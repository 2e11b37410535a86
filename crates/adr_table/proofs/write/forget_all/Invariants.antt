use Rattle.std.proofs.Common.{◌≡◌}
use Rattle.adr_shelves.specs.declared.place.Place.{Place}
use Rattle.adr_table.specs.Slots.{IsTidy, row_at, rows_seen}
use Rattle.adr_table.specs.Back.{AreBacked}
use Rattle.adr_table.proofs.write.forget_all.Given as goal

-- nobody sees what is let go of
abbrev pub invariant-loop-link : goal.invariant-loop-link
invariant-loop-link l =
    IsTidy l.slots
    × (rows_seen l.slots ≡ rows_seen l.initial.slots)
    × ((q : Place) → row_at l.slots q ≡ row_at l.initial.slots q)
    × AreBacked l.slots l.back
