use Rattle.std.proofs.Common.{◌≡◌, drop}
use Rattle.std.specs.List.{list_all}
use Rattle.adr_model.specs.Take.{is_above}
use Rattle.adr_records.proofs.writes.are_above.Given as goal

-- those that are left decide
abbrev pub invariant-loop-row : goal.invariant-loop-row
invariant-loop-row l = list_all (is_above l.told) (drop l.row-index l.rows) ≡ list_all (is_above l.told) l.rows
