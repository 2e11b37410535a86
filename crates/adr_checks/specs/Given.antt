-- What is refused of one attribute that is given values.
use Rattle.std.specs.Prelude.{ℕ, Option, Some}
use Rattle.adr_values.specs.declared.refusal.SchemaRefusal.{SchemaRefusal}
use Rattle.adr_values.specs.Assignments.{Given}
use Rattle.adr_values.specs.Rules.{added_refusal, values_refusal}
use Rattle.adr_values.specs.Table.{Table}
use Rattle.adr_checks.specs.declared.schema.Target.{Target}
use Rattle.adr_checks.specs.declared.schema.Target.TheVariants.{New, Held}

-- one attribute of an object that is new, or of one that is held
abbrev pub given_refusal : Target → Table → ℕ → Given → Option SchemaRefusal
given_refusal New t class g = added_refusal t class g
given_refusal Held t class g = values_refusal t (Some class) g.0 g.1
