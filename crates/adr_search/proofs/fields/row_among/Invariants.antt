use Rattle.std.proofs.Common.{◌≡◌, map, drop}
use Rattle.std.specs.List.{find}
use Rattle.std.specs.Str.{bytes_eq}
use Rattle.adr_search.specs.Rows.{Row, row_of}
use Rattle.adr_search.proofs.fields.row_among.Given as goal

-- the first is among those that are left
abbrev pub invariant-loop-row : goal.invariant-loop-row
invariant-loop-row l =
    find (λ (r : Row). bytes_eq r.0 l.low) (map row_of (drop l.row-index l.rows)) ≡ find (λ (r : Row). bytes_eq r.0 l.low) (map row_of l.rows)
