use Rattle.std.proofs.Common.{◌≡◌, drop}
use Rattle.std.specs.List.{find}
use Rattle.adr_model.specs.Take.{is_of_attr}
use Rattle.adr_model.specs.Update.{Update}
use Rattle.adr_overlay.proofs.keys.first_row.Given as goal

-- it is the first of those that are left
abbrev pub invariant-loop-row : goal.invariant-loop-row
invariant-loop-row l = find (λ (u : Update). is_of_attr l.attr u.key) (drop l.row-index l.rows) ≡ find (λ (u : Update). is_of_attr l.attr u.key) l.rows
