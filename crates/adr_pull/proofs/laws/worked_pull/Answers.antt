use Rattle.adr_pull.proofs.WorkedCycle.{worked}
use Rattle.adr_pull.proofs.laws.worked_pull.Goals as goal

pub returns : goal.returns
returns c = λ name dsa more f r ch long form fits takes room.
    worked c.frames_have_one_spelling.ensures.again c.replies_have_one_spelling.ensures.again name dsa more f r ch
    long form fits takes room
