use Rattle.adr_law_calls.proofs.ServedSoundly.{reply_is_sound}
use Rattle.adr_law_calls.proofs.GrantedSoundly.{served_is_sound}
use Rattle.adr_law_calls.proofs.serving.served_replies_are_sound.Goals as goal

pub returns-clause-served : goal.returns-clause-served
returns-clause-served c = served_is_sound

pub returns-clause-covered : goal.returns-clause-covered
returns-clause-covered c = reply_is_sound
