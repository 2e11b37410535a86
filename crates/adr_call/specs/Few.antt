-- The fields of a refusal, as its value has them.
use Rattle.std.specs.Prelude.{List, []}
use Rattle.adr_call.specs.declared.outcome.Field.{Field}
use Rattle.adr_call.specs.declared.outcome.Few.{Few}
use Rattle.adr_call.specs.declared.outcome.Few.TheVariants.{None, One, Two, Three}

abbrev pub all_of : Few → List Field
all_of None = []
all_of (One fields) = fields
all_of (Two fields) = fields
all_of (Three fields) = fields
