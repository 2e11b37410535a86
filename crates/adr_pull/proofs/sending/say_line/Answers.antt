use Rattle.std.proofs.Common.{◌∷◌}
use Rattle.std.proofs.lemmas.Result.{err_from_is_err_and}
use Rattle.adr_frames.specs.Frames.{frame}
use Rattle.adr_pull.proofs.Unsaid.{none_sent}
use Rattle.adr_pull.proofs.sending.say_line.Goals as goal

pub returns-in_err-message-clause-said : goal.returns-in_err-message-clause-said
returns-in_err-message-clause-said g c =
    let r = err_from_is_err_and c.from_residual.result c.from_residual.ensures.1 in
    rw (r.1, r.2) (none_sent (g.N.Net.traffic c.args.net.now) (frame (4 ∷ c.args.line.now)))
