use Rattle.std.proofs.Common.{◌≡◌, ◌++◌, filter}
use Rattle.adr_update.specs.Referents.{referents}
use Rattle.adr_update.specs.Sought.{is_link_to}
use Rattle.adr_table.specs.Slots.{rows_seen}
use Rattle.adr_table.proofs.Linked.{LinksEnd, linked}
use Rattle.adr_table.proofs.back.rows_behind.Given as goal

-- the rows so far and those of the hints that are left are all
abbrev pub invariant-loop-behind : goal.invariant-loop-behind
invariant-loop-behind l =
    (goal.iterator-loop-behind).can_next l.behind-iterator
    × (goal.iterator-loop-behind).is_finite l.behind-iterator
    × (referents l.rows.items ++ linked l.slots l.object l.behind-iterator ≡ filter (λ h. is_link_to l.object h.update.key) (rows_seen l.slots))
    × LinksEnd l.slots l.object l.behind-iterator
