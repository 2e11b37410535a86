use Rattle.adr_law_calls.proofs.WritesTested.{following_where_tested, tested_where_following}
use Rattle.adr_law_calls.proofs.tested.writes_are_tested.Goals as goal

pub returns-clause-told : goal.returns-clause-told
returns-clause-told c = following_where_tested

pub returns-clause-pass : goal.returns-clause-pass
returns-clause-pass c = tested_where_following
