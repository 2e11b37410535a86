use Rattle.adr_law_calls.proofs.TakenLeaves.{taken_leaves}
use Rattle.adr_law_calls.proofs.taking.taken_replies_leave_sound_states.Goals as goal

pub returns : goal.returns
returns c = taken_leaves
