use Rattle.adr_law_calls.proofs.Moved.{mark_taken}
use Rattle.adr_law_calls.proofs.books.a_reply_moves_its_mark.Goals as goal

pub returns : goal.returns
returns c = mark_taken
