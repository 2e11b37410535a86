use Rattle.adr_law_calls.proofs.WholeTested.{follows_where_tested, tested_where_follows}
use Rattle.adr_law_calls.proofs.tested.changes_are_tested.Goals as goal

pub returns-clause-told : goal.returns-clause-told
returns-clause-told c = follows_where_tested

pub returns-clause-pass : goal.returns-clause-pass
returns-clause-pass c = tested_where_follows
