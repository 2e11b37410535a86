use Rattle.adr_table.specs.Slots.{rows_seen}
use Rattle.adr_table.proofs.LocalsFound.{IsLeft}
use Rattle.adr_table.proofs.locals.next_local.Given as goal

-- the hint of each last number behind the given one is left
abbrev pub invariant-loop-hint : goal.invariant-loop-hint
invariant-loop-hint l =
    (goal.iterator-loop-hint).can_next l.hint-iterator
    × (goal.iterator-loop-hint).is_finite l.hint-iterator
    × IsLeft (rows_seen l.slots) l.usn l.hint-iterator
