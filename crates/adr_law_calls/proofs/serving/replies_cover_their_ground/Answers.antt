use Rattle.adr_law_calls.proofs.Ground.{ground_of_log}
use Rattle.adr_law_calls.proofs.serving.replies_cover_their_ground.Goals as goal

pub returns : goal.returns
returns c = ground_of_log
