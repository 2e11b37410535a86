use Rattle.std.proofs.Common.{◌≡◌}
use Rattle.adr_table.specs.Lasts.{lasts_hinted}
use Rattle.adr_table.specs.Slots.{rows_seen}
use Rattle.adr_table.proofs.walk.next_last.Given as goal

-- the hints that were passed have no unit
abbrev pub invariant-loop-hint : goal.invariant-loop-hint
invariant-loop-hint l =
    (goal.iterator-loop-hint).can_next l.hints
    × (goal.iterator-loop-hint).is_finite l.hints
    × (lasts_hinted (rows_seen l.slots) l.initial.hints ≡ lasts_hinted (rows_seen l.slots) l.hints)
