use Rattle.adr_law_recorded.proofs.Beginning.{new_may_begin}
use Rattle.adr_law_recorded.proofs.begun.new_controllers_may_begin.Goals as goal

pub returns : goal.returns
returns c = new_may_begin
