use Rattle.adr_law_recorded.proofs.Collected.{collection_is_recorded}
use Rattle.adr_law_recorded.proofs.called.collections_are_recorded.Goals as goal

pub returns : goal.returns
returns c = collection_is_recorded
