use Rattle.adr_law_messages.proofs.Answered.{asked_formed}
use Rattle.adr_law_messages.proofs.laws.asked_requests_have_a_form.Goals as goal

pub returns : goal.returns
returns c = asked_formed
