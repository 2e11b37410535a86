use Rattle.std.proofs.Common.{◌≡◌, ◌≤◌, take, filter, length}
use Rattle.adr_update.specs.Referents.{referents}
use Rattle.adr_table.specs.Table.{rows_in}
use Rattle.adr_overlay.specs.Overlay.{is_left}
use Rattle.adr_overlay.proofs.overlay.count_left.Given as goal

-- the rows so far are counted
abbrev pub invariant-loop-row : goal.invariant-loop-row
invariant-loop-row l = record { counted : l.count ≡ length (filter (λ h. is_left (rows_in l.over) h.update.key) (referents (take l.row-index l.rows))); few : l.count ≤ l.row-index }
