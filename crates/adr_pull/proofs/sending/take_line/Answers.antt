use Rattle.std.proofs.Common.{◌≡◌, ℕ, List, Some, subst}
use Rattle.std.proofs.lemmas.Result.{err_from_is_err_and}
use Rattle.adr_disk.proofs.Told.{at_told}
use Rattle.adr_pull.specs.Sending.{answer_in}
use Rattle.adr_pull.proofs.Sent.{Here, said_err, told_err}
use Rattle.adr_pull.proofs.sending.take_line.Goals as goal

pub returns-in_err-bytes-clause-takes : goal.returns-in_err-bytes-clause-takes
returns-in_err-bytes-clause-takes g c = λ t p at.
    let r = err_from_is_err_and c.from_residual.result c.from_residual.ensures.1 in
    rw (r.1, r.2)
    (said_err t c.args.line.now p c.in_err-bytes.field-0.0 (g.N.Net.traffic c.say_line.new.net)
    (g.S.Sink.written c.args.sink.now)
    (at_told (g.N.Net.traffic c.args.net.now) _ (Here t c.args.line.now p) at.net c.in_err-bytes.ensures.said) at.lines)

pub returns-in_err-tell-clause-takes : goal.returns-in_err-tell-clause-takes
returns-in_err-tell-clause-takes g c = λ t p at.
    let r = err_from_is_err_and c.from_residual-in_err-tell.result c.from_residual-in_err-tell.ensures.1 in
    let h = at_told (g.N.Net.traffic c.args.net.now) _ (Here t c.args.line.now p) at.net c.in_ok-bytes.ensures.said in
    let is = subst (λ (xs : List ℕ). answer_in c.args.line.now xs ≡ Some
    (c.in-Some.answer.now, c.in-Some.accepted)) c.deref.ensures.value c.in-Some.ensures in
    rw (r.1, r.2)
    (told_err t c.args.line.now p c.in_ok-bytes.bytes.items h.0 h.1
    (g.N.Net.traffic c.say_line.new.net) h.2 c.in-Some.answer.now c.in-Some.accepted is
    (g.S.Sink.written c.args.sink.now)
    (g.S.Sink.written c.tell.new.sink) at.lines c.in_err-tell.field-0.0 c.in_err-tell.ensures.only
    c.in_err-tell.ensures.front)
