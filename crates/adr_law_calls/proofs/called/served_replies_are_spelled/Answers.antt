use Rattle.adr_law_calls.proofs.Served.{still_say, served_is_spelled}
use Rattle.adr_law_calls.proofs.called.served_replies_are_spelled.Goals as goal

pub returns-clause-stay : goal.returns-clause-stay
returns-clause-stay c = still_say

pub returns-clause-spelled : goal.returns-clause-spelled
returns-clause-spelled c = served_is_spelled
