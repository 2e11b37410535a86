use Rattle.adr_law_recorded.proofs.Written.{write_is_recorded}
use Rattle.adr_law_recorded.proofs.called.writes_are_recorded.Goals as goal

pub returns : goal.returns
returns c = write_is_recorded
