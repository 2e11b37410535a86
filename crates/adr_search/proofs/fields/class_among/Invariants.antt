use Rattle.std.proofs.Common.{◌≡◌, ◌==◌, ℕ, List, map, drop}
use Rattle.std.specs.List.{find}
use Rattle.adr_search.specs.Rows.{class_row_of}
use Rattle.adr_search.proofs.fields.class_among.Given as goal

-- the first is among those that are left
abbrev pub invariant-loop-row : goal.invariant-loop-row
invariant-loop-row l =
    find (λ (r : ℕ × List ℕ). r.0 == l.class) (map class_row_of (drop l.row-index l.rows)) ≡ find (λ (r : ℕ × List ℕ). r.0 == l.class) (map class_row_of l.rows)
