use Rattle.adr_law_calls.proofs.CollectionLeaves.{collection_leaves}
use Rattle.adr_law_calls.proofs.collecting.collections_leave_sound_states.Goals as goal

pub returns : goal.returns
returns c = collection_leaves
