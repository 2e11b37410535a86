use Rattle.adr_frames.proofs.FrameLaws.{frames_come_again, frames_were_spelled, nothing_is_left}
use Rattle.adr_frames.proofs.laws.frames_have_one_spelling.Goals as goal

pub returns-clause-again : goal.returns-clause-again
returns-clause-again c = frames_come_again

pub returns-clause-only : goal.returns-clause-only
returns-clause-only c = frames_were_spelled

pub returns-clause-over : goal.returns-clause-over
returns-clause-over c = nothing_is_left
