use Rattle.std.proofs.Common.{◌≡◌, ◌++◌, None}
use Rattle.adr_origin.specs.NextRows.{next_rows, versions_refusal}
use Rattle.adr_origin.proofs.modifying.next_rows.Given as goal

-- the rows so far, and those that are left, are all, and those that are left can be written
abbrev pub invariant-attributes : goal.invariant-attributes
invariant-attributes l =
    record {
      rows : l.rows.items ++ next_rows l.state l.now l.object l.attr-iterator ≡ next_rows l.state l.now l.object l.values;
      versions : versions_refusal l.state.store.rows l.object l.attr-iterator ≡ None;
    }
