use Rattle.adr_law_calls.proofs.Asked.{asked_is_sound}
use Rattle.adr_law_calls.proofs.serving.asked_requests_are_sound.Goals as goal

pub returns : goal.returns
returns c = asked_is_sound
