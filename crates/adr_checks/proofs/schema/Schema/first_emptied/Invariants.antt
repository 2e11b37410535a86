use Rattle.std.proofs.Common.{◌≡◌, drop}
use Rattle.std.specs.List.{find}
use Rattle.adr_values.specs.Assignments.{given}
use Rattle.adr_values.specs.Rules.{is_emptied}
use Rattle.adr_checks.proofs.schema.Schema.first_emptied.Given as goal

-- the first is among those that are left
abbrev pub invariant-loop-attr : goal.invariant-loop-attr
invariant-loop-attr l =
    find (λ attr. is_emptied (given attr l.values)) (drop l.attr-index l.attr-items) ≡ find (λ attr. is_emptied (given attr l.values)) l.attr-items
