use Rattle.adr_law_calls.proofs.Leaving.{sound_state_is_left}
use Rattle.adr_law_calls.proofs.books.a_change_leaves_a_sound_state.Goals as goal

pub returns : goal.returns
returns c = sound_state_is_left
