use Rattle.std.proofs.Common.{◌∙◌}
use Rattle.std.proofs.lemmas.Result.{err_from_is_err_and}
use Rattle.adr_frames.specs.Frames.{frame}
use Rattle.adr_pull.specs.Fetch.{request}
use Rattle.adr_pull.proofs.Unsaid.{none_sent}
use Rattle.adr_pull.proofs.talking.ask.Goals as goal

pub returns-in_err-message-clause-asked : goal.returns-in_err-message-clause-asked
returns-in_err-message-clause-asked g c = λ s up.
    let r = err_from_is_err_and c.from_residual.result c.from_residual.ensures.1 in
    rw (r.1, r.2 ∙ c.in_err-message.ensures.refused) (none_sent (g.N.Net.traffic c.args.net.now) (frame
    (request s c.args.partner)))
