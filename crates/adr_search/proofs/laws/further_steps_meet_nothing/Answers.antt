use Rattle.adr_search.proofs.Climbing.{further_steps}
use Rattle.adr_search.proofs.laws.further_steps_meet_nothing.Goals as goal

pub returns : goal.returns
returns c es base n guid le = further_steps es base n guid le
