use Rattle.std.proofs.Common.{◌≡◌}
use Rattle.adr_origin.specs.NextRows.{versions_refusal}
use Rattle.adr_origin.proofs.modifying.check_versions.Given as goal

-- the first that is refused is among those that are left
abbrev pub invariant-attributes : goal.invariant-attributes
invariant-attributes l = versions_refusal l.rows l.object l.attr-iterator ≡ versions_refusal l.rows l.object l.values
