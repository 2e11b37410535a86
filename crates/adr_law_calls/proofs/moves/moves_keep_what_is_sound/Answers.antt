use Rattle.adr_law_calls.proofs.Settling.{begun_is_sound, forgotten_is_sound, settled_is_sound, nothing_settles}
use Rattle.adr_law_calls.proofs.moves.moves_keep_what_is_sound.Goals as goal

pub returns-clause-begin : goal.returns-clause-begin
returns-clause-begin c = begun_is_sound

pub returns-clause-forget : goal.returns-clause-forget
returns-clause-forget c = forgotten_is_sound

pub returns-clause-settle : goal.returns-clause-settle
returns-clause-settle c = settled_is_sound

pub returns-clause-idle : goal.returns-clause-idle
returns-clause-idle c = nothing_settles
