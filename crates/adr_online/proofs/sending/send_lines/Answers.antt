use Rattle.std.proofs.Common.{◌∙◌, ap, inl, inr, refl, Err, arith}
use Rattle.adr_pull.specs.Sending.{spoken}
use Rattle.adr_online.specs.Dialled.{outside_of}
use Rattle.adr_online.proofs.Opened.{fails_to_open, stays_shut}
use Rattle.adr_online.proofs.SentOver.{sent_over}
use Rattle.adr_online.proofs.sending.send_lines.Goals as goal

pub returns-clause-sends : goal.returns-clause-sends
returns-clause-sends g c = λ p at.
    let sent = c.send-sent.ensures in
    sent_over (spoken c.args.text.now) c.send-sent.result c.ended.result (g.N.Net.traffic c.connect.new.net) (g.N.Net.traffic c.send-sent.new.net)
    (outside_of g.N.Net g.K.Sink c.args.net.now c.args.sink.now) (outside_of g.N.Net g.K.Sink c.hang_up.new.self c.send-sent.new.sink)
    c.in-Ok.ensures.opens sent.sends c.hang_up.ensures.hung_up (c.hang_up.ensures.doors ∙ sent.counts.doors ∙ c.in-Ok.ensures.passed)
    (λ link. omega (arith, c.connect.ensures.lines, sent.counts.link link, c.hang_up.ensures.lines)) c.ended.ensures p at

pub returns-in-Err-Link-clause-sends : goal.returns-in-Err-Link-clause-sends
returns-in-Err-Link-clause-sends g c = λ p at.
    inl (inl (
      refl,
      fails_to_open p (outside_of g.N.Net g.K.Sink c.args.net.now c.args.sink.now) (outside_of g.N.Net g.K.Sink c.connect.new.net c.args.sink.now) at
          c.in-Err-Link.ensures.closed c.connect.ensures.lines refl (c.in-Err-Link.ensures.failed (ap Err c.in-Err-Link.field-0-is)),
    ))

pub returns-in-Err-NoMemory-clause-sends : goal.returns-in-Err-NoMemory-clause-sends
returns-in-Err-NoMemory-clause-sends g c = λ p at.
    inl (inr (
      refl,
      stays_shut p (outside_of g.N.Net g.K.Sink c.args.net.now c.args.sink.now) (outside_of g.N.Net g.K.Sink c.connect.new.net c.args.sink.now) at
          c.in-Err-NoMemory.ensures.closed c.connect.ensures.lines refl (c.in-Err-NoMemory.ensures.no_memory (ap Err c.in-Err-NoMemory.field-0-is)),
    ))
