use Rattle.adr_law_calls.proofs.Links.{links_stay_formed_by_puts, links_stay_closed}
use Rattle.adr_law_calls.proofs.forms.links_stay_formed.Goals as goal

pub returns-clause-formed : goal.returns-clause-formed
returns-clause-formed c = links_stay_formed_by_puts

pub returns-clause-closed : goal.returns-clause-closed
returns-clause-closed c = links_stay_closed
