use Rattle.std.proofs.lemmas.Result.{err_from_is_err_and}
use Rattle.adr_frames.specs.Frames.{frame}
use Rattle.adr_pull.proofs.Exchanged.{unheard}
use Rattle.adr_pull.proofs.exchanging.exchange.Goals as goal

pub returns-in_err-bytes-clause-exchanged : goal.returns-in_err-bytes-clause-exchanged
returns-in_err-bytes-clause-exchanged g c =
    let r = err_from_is_err_and c.from_residual-in_err-bytes.result c.from_residual-in_err-bytes.ensures.1 in
    rw r.1
    (unheard (g.N.Net.traffic c.args.net.now) (g.N.Net.traffic c.say.new.net) (g.N.Net.traffic c.hear.new.net)
    (frame c.args.message.now)
    c.in_ok-say.ensures.sent c.hear.ensures.part)
