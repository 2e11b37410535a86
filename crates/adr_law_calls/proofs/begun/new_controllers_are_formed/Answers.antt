use Rattle.adr_law_calls.proofs.Still.{new_is_formed}
use Rattle.adr_law_calls.proofs.begun.new_controllers_are_formed.Goals as goal

pub returns : goal.returns
returns c = new_is_formed
