use Rattle.adr_law_calls.proofs.Collected.{collected_follows, collected_rise}
use Rattle.adr_law_calls.proofs.called.collections_follow.Goals as goal

pub returns-clause-follows : goal.returns-clause-follows
returns-clause-follows c = collected_follows

pub returns-clause-rises : goal.returns-clause-rises
returns-clause-rises c = collected_rise
