use Rattle.adr_law_recorded.proofs.Beginning.{adopted_is_logged}
use Rattle.adr_law_recorded.proofs.begun.adopted_states_are_logged.Goals as goal

pub returns : goal.returns
returns c = adopted_is_logged
