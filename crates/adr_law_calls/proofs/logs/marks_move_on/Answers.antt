use Rattle.adr_law_calls.proofs.Marks.{mark_moves, no_mark_holds}
use Rattle.adr_law_calls.proofs.logs.marks_move_on.Goals as goal

pub returns-clause-later : goal.returns-clause-later
returns-clause-later c = mark_moves

pub returns-clause-unread : goal.returns-clause-unread
returns-clause-unread c = no_mark_holds
