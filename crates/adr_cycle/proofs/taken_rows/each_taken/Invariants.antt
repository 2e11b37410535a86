use Rattle.std.proofs.Common.{◌≡◌, filter, take}
use Rattle.adr_cycle.specs.RowsTaken.{is_taken}
use Rattle.adr_cycle.proofs.taken_rows.each_taken.Given as goal

-- those so far are taken
abbrev pub invariant-loop-row : goal.invariant-loop-row
invariant-loop-row l = l.taken.items ≡ filter (is_taken l.held l.standing) (take l.row-index l.rows)
