use Rattle.adr_law_calls.proofs.TakenFollow.{taken_brings}
use Rattle.adr_law_calls.proofs.brought.taken_changes_are_of_their_reply.Goals as goal

pub returns : goal.returns
returns c = taken_brings
