use Rattle.adr_law_messages.proofs.Answered.{reply_taken}
use Rattle.adr_law_messages.proofs.laws.replies_of_a_form_are_in_range.Goals as goal

pub returns : goal.returns
returns c = reply_taken
