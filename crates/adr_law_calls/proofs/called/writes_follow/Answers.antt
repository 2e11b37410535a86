use Rattle.adr_law_calls.proofs.EachWrite.{write_follows, write_is_bare}
use Rattle.adr_law_calls.proofs.called.writes_follow.Goals as goal

pub returns-clause-follows : goal.returns-clause-follows
returns-clause-follows c = write_follows

pub returns-clause-bare : goal.returns-clause-bare
returns-clause-bare c = write_is_bare
