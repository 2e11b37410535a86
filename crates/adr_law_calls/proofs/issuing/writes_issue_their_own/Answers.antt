use Rattle.adr_law_calls.proofs.Written.{items_are_own, items_take_usns, write_may_follow}
use Rattle.adr_law_calls.proofs.issuing.writes_issue_their_own.Goals as goal

pub returns-clause-stamps : goal.returns-clause-stamps
returns-clause-stamps c = items_are_own

pub returns-clause-usns : goal.returns-clause-usns
returns-clause-usns c = items_take_usns

pub returns-clause-change : goal.returns-clause-change
returns-clause-change c = write_may_follow
