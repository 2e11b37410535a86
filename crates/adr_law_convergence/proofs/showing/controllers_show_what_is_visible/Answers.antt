use Rattle.adr_law_convergence.proofs.Controllers.{shows_what_is_visible, own_is_visible}
use Rattle.adr_law_convergence.proofs.showing.controllers_show_what_is_visible.Goals as goal

pub returns-clause-shown : goal.returns-clause-shown
returns-clause-shown c = shows_what_is_visible

pub returns-clause-own : goal.returns-clause-own
returns-clause-own c = own_is_visible
