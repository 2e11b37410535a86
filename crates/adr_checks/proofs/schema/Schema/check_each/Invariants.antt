use Rattle.std.proofs.Common.{◌≡◌, map}
use Rattle.adr_values.specs.Rules.{first_refusal}
use Rattle.adr_checks.specs.Given.{given_refusal}
use Rattle.adr_checks.proofs.schema.Schema.check_each.Given as goal

-- the first refusal is that of an attribute that is left
abbrev pub invariant-attributes : goal.invariant-attributes
invariant-attributes l =
    first_refusal (map (λ g. given_refusal l.target l.self l.class g) l.attr-iterator) ≡ first_refusal (map (λ g. given_refusal l.target l.self l.class g) l.values)
