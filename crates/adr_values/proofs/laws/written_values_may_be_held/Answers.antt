use Rattle.adr_values.proofs.ExactRows.{may_be_held, not_refused_held, added_may_be_held, modified_may_be_held}
use Rattle.adr_values.proofs.laws.written_values_may_be_held.Goals as goal

pub returns-clause-held : goal.returns-clause-held
returns-clause-held c = λ t class attr values. (may_be_held t class attr values, not_refused_held t class attr values)

pub returns-clause-added : goal.returns-clause-added
returns-clause-added c = added_may_be_held

pub returns-clause-modified : goal.returns-clause-modified
returns-clause-modified c = modified_may_be_held
