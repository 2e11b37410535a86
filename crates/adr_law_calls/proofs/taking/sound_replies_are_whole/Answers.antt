use Rattle.adr_law_calls.proofs.Refused.{no_broken_item, no_incomplete_item, no_rollback}
use Rattle.adr_law_calls.proofs.taking.sound_replies_are_whole.Goals as goal

pub returns-clause-broken : goal.returns-clause-broken
returns-clause-broken c = no_broken_item

pub returns-clause-incomplete : goal.returns-clause-incomplete
returns-clause-incomplete c = no_incomplete_item

pub returns-clause-rollback : goal.returns-clause-rollback
returns-clause-rollback c = no_rollback
