use Rattle.adr_law_calls.proofs.WriteSound.{write_leaves_sound}
use Rattle.adr_law_calls.proofs.writing.writes_leave_sound_states.Goals as goal

pub returns : goal.returns
returns c = write_leaves_sound
