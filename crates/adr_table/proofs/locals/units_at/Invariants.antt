use Rattle.adr_table.specs.Slots.{rows_seen}
use Rattle.adr_table.proofs.LocalsFound.{IsWalked}
use Rattle.adr_table.proofs.locals.units_at.Given as goal

-- the units so far and those of the hints that are left are all
abbrev pub invariant-loop-hint : goal.invariant-loop-hint
invariant-loop-hint l =
    (goal.iterator-loop-hint).can_next l.hint-iterator
    × (goal.iterator-loop-hint).is_finite l.hint-iterator
    × IsWalked (rows_seen l.slots) l.usn l.units.items l.hint-iterator
