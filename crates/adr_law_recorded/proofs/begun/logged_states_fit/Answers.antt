use Rattle.adr_law_recorded.proofs.Beginning.{logged_fits}
use Rattle.adr_law_recorded.proofs.begun.logged_states_fit.Goals as goal

pub returns : goal.returns
returns c = logged_fits
