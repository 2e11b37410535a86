use Rattle.std.proofs.Common.{sym, ap, ◌∙◌}
use Rattle.adr_values.proofs.Numbers.{number-numbered}
use Rattle.adr_checks.proofs.schema.Schema.number.Goals as goal

pub returns-clause-number : goal.returns-clause-number
returns-clause-number c = sym (number-numbered c.self.inside.number c.self.invariant) ∙ ap (λ t. t.number) c.self.view_is

pub returns-clause-numbered : goal.returns-clause-numbered
returns-clause-numbered c = sym c.self.view_is
