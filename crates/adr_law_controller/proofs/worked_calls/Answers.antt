use Rattle.adr_law_controller.proofs.Working.{worked}
use Rattle.adr_law_controller.proofs.worked_calls.Goals as goal

pub returns : goal.returns
returns c = worked
