use Rattle.std.proofs.Common.{◌≡◌, take}
use Rattle.std.specs.List.{All}
use Rattle.adr_shelves.specs.declared.place.Place.{Place}
use Rattle.adr_table.specs.Slots.{AreFull, IsTidy, row_at, rows_seen}
use Rattle.adr_table.proofs.write.free_all.Given as goal

-- nobody sees what is freed, and the objects so far have no empty slots
abbrev pub invariant-loop-object : goal.invariant-loop-object
invariant-loop-object l =
    IsTidy l.slots
    × (rows_seen l.slots ≡ rows_seen l.initial.slots)
    × ((q : Place) → row_at l.slots q ≡ row_at l.initial.slots q)
    × All (AreFull l.slots) (take l.object-index l.objects)
