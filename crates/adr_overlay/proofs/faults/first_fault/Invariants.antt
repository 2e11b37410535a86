use Rattle.std.proofs.Common.{◌≡◌, drop, filter, map}
use Rattle.std.specs.Prelude.{if◌then◌else◌}
use Rattle.adr_values.specs.First.{first_of}
use Rattle.adr_model.specs.Take.{is_reserved_row, row_fault}
use Rattle.adr_overlay.proofs.faults.first_fault.Given as goal

-- nothing was wrong so far
abbrev pub invariant-loop-row : goal.invariant-loop-row
invariant-loop-row l =
    first_of (map (row_fault l.schema l.class) (if l.reserved_only then filter (λ u. is_reserved_row u.key) (drop l.row-index l.rows) else drop l.row-index l.rows))
    ≡ first_of (map (row_fault l.schema l.class) (if l.reserved_only then filter (λ u. is_reserved_row u.key) l.rows else l.rows))
