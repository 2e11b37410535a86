use Rattle.std.proofs.Common.{◌≡◌, ◌++◌}
use Rattle.adr_origin.specs.GivenRows.{given_rows}
use Rattle.adr_origin.proofs.new_object.push_given.Given as goal

-- the rows so far, and those that are left, are all
abbrev pub invariant-attributes : goal.invariant-attributes
invariant-attributes l = l.rows.items ++ given_rows l.object l.stamp l.attr-iterator ≡ l.fn.rows.items ++ given_rows l.object l.stamp l.values
