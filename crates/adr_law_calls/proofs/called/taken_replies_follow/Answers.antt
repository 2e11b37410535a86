use Rattle.adr_law_calls.proofs.TakenFollow.{taken_follows, taken_bare}
use Rattle.adr_law_calls.proofs.called.taken_replies_follow.Goals as goal

pub returns-clause-follows : goal.returns-clause-follows
returns-clause-follows c = taken_follows

pub returns-clause-bare : goal.returns-clause-bare
returns-clause-bare c = taken_bare
