use Rattle.adr_law_calls.proofs.GrantedSoundly.{shown_within, no_rollback}
use Rattle.adr_law_calls.proofs.serving.sound_requests_show_no_rollback.Goals as goal

pub returns-clause-shown : goal.returns-clause-shown
returns-clause-shown c = shown_within

pub returns-clause-refused : goal.returns-clause-refused
returns-clause-refused c = no_rollback
