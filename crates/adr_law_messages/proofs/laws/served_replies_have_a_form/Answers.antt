use Rattle.adr_law_messages.proofs.Answered.{served_formed}
use Rattle.adr_law_messages.proofs.laws.served_replies_have_a_form.Goals as goal

pub returns : goal.returns
returns c = served_formed
