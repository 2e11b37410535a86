use Rattle.std.proofs.Common.{◌≡◌, ◌++◌, take, filter}
use Rattle.adr_update.specs.Referents.{referents}
use Rattle.adr_table.specs.Table.{rows_in}
use Rattle.adr_overlay.specs.Overlay.{is_left}
use Rattle.adr_overlay.proofs.overlay.push_left.Given as goal

-- those so far are added
abbrev pub invariant-loop-row : goal.invariant-loop-row
invariant-loop-row l =
    referents l.rows.items ≡ referents l.initial.rows.items ++ filter (λ h. is_left (rows_in l.over) h.update.key) (referents (take l.row-index l.below))
