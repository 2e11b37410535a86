use Rattle.std.proofs.Common.{◌≡◌, ◌++◌, drop}
use Rattle.adr_origin.specs.GivenRows.{given_rows}
use Rattle.adr_revival.proofs.rows.push_values.Given as goal

-- the rows so far, and those that are left, are all
abbrev pub invariant-loop-attr : goal.invariant-loop-attr
invariant-loop-attr l = l.rows.items ++ given_rows l.object l.stamp (drop l.attr-index l.attr-items) ≡ l.initial.rows.items ++ given_rows l.object l.stamp l.attr-items
