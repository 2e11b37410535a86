use Rattle.adr_values.proofs.Exact.{allowed_from_none, none_from_allowed}
use Rattle.adr_values.proofs.ExactCalls.{may_be_added, not_refused_added, may_be_modified, not_refused_modified}
use Rattle.adr_values.proofs.laws.refusals_are_exact.Goals as goal

pub returns-clause-values : goal.returns-clause-values
returns-clause-values c = λ syntax most values. (allowed_from_none syntax most values, none_from_allowed syntax most values)

pub returns-clause-added : goal.returns-clause-added
returns-clause-added c = λ t class gs. (may_be_added t class gs, not_refused_added t class gs)

pub returns-clause-modified : goal.returns-clause-modified
returns-clause-modified c = λ t class gs. (may_be_modified t class gs, not_refused_modified t class gs)
